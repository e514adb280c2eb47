-- Pieces that are written one behind the other.
use Rattle.std.proofs.Common.{ℕ, List, ◌++◌, ap, ◌∙◌, append_assoc}
use Rattle.frame_fields.specs.Pieces.{Wrote}

pub wrote_then : {old a mid b new : List ℕ} → Wrote old a mid → Wrote mid b new → Wrote old (a ++ b) new
wrote_then {old} {a} {mid} {b} e f = record { is = f.is ∙ ap (λ (t : List ℕ). t ++ b) e.is ∙ append_assoc old a b }
