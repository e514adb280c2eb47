-- The counts that a first round tells, and the secrets of a round from them.
use Rattle.std.specs.Prelude.{ℕ, ◌+◌, nat_lt, List, ◌∷◌, Result, Ok, Err, if◌then◌else◌}
use Rattle.spl_words.specs.Results.{◌>>=◌}
use Rattle.spl_words.specs.Secrets.{Secret}
use Rattle.spl_values.specs.Shapes.{ShapeParts}
use Rattle.query_reader.specs.declared.checked.Checked.{Checked}
use Rattle.private_plan.specs.declared.secrets.SecretFault.{SecretFault}
use Rattle.private_plan.specs.declared.secrets.SecretFault.TheVariants.{BadCount}
use Rattle.private_plan.specs.Rounds.{Round, secrets_in}

-- a count at that place is at most so many rows
abbrev pub within_rows : ℕ → ℕ → ℕ → Result (Unit {0}) SecretFault
within_rows rows place count = if nat_lt rows count then Err (BadCount place count rows) else Ok tt

-- it is no less than the count before it
abbrev pub not_below : ℕ → ℕ → ℕ → Result (Unit {0}) SecretFault
not_below least place count = if nat_lt count least then Err (BadCount place count least) else Ok tt

-- the two counts of a slot, the first of them at that place, can be: neither is above the rows, and the second isn't below the first
abbrev pub pair_taken : ℕ → ℕ → ℕ → ℕ → Result (Unit {0}) SecretFault
pair_taken rows place below upto = do
  first ← within_rows rows place below
  second ← within_rows rows (place + 1) upto
  not_below below (place + 1) upto

-- those of each slot from that place on can be, or the first that can't is refused
unfoldable pub counts_taken : ℕ → ℕ → List ℕ → Result (Unit {0}) SecretFault
counts_taken rows place (below ∷ upto ∷ counts) = do
  taken ← pair_taken rows place below upto
  counts_taken rows (place + 2) counts
counts_taken rows place _ = Ok tt

-- the secrets of a round's trees, or the first count that can't be
unfoldable pub secrets_of : Checked → ShapeParts → List ℕ → Round → Result (List Secret) SecretFault
secrets_of checked shape params round = do
  taken ← counts_taken shape.rows 0 round.counts
  Ok (secrets_in checked shape params round)
