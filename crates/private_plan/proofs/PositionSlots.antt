-- The slots of positions that counts tell.
use Rattle.std.proofs.Common.{◌≡◌, ℕ, zero, suc, ◌+◌, ◌-◌, ◌^◌, ◌<◌, ◌≤◌, Bool, true, false, nat_lt, nat_le, List, [], ◌∷◌, ◌++◌, length, get_or, Option, Some, None, Result, Ok, Err, inl, inr, refl, sym, ap, ◌∙◌, arith, IfSome, if◌then◌else◌, unwrap_or}
use Rattle.std.specs.List.{AllByRecursion, find, flat_map, range_with_len}
use Rattle.std.proofs.Math.Nat.{div-eq_of_lt}
use Rattle.std.proofs.lemmas.Bool.{cases_lt}
use Rattle.std.proofs.lemmas.Bool.Decides.{nat_tests}
use Rattle.std.proofs.lemmas.List.{append_assoc, append-nil}
use Rattle.spl_words.specs.Results.{◌>>=◌}
use Rattle.spl_words.specs.Secrets.{Secret}
use Rattle.interval_keys.specs.Intervals.{Span}
use Rattle.private_plan.specs.declared.secrets.SecretFault.{SecretFault}
use Rattle.private_plan.specs.declared.secrets.SecretFault.TheVariants.{BadCount}
use Rattle.spl_values.specs.Shapes.{ShapeParts}
use Rattle.cell_merge.specs.Cells.{cell_width}
use Rattle.query_reader.specs.declared.checked.Checked.{Checked}
use Rattle.query_reader.specs.Accepted.{IsCheckedFor}
use Rattle.query_reader.proofs.Known.{checked_branches}
use Rattle.private_plan.specs.declared.plans.PlanKind.{PlanKind}
use Rattle.private_plan.specs.declared.plans.PlanKind.TheVariants as kind
use Rattle.private_plan.specs.Counts.{counts_taken, not_below, pair_taken, secrets_of, within_rows}
use Rattle.private_plan.specs.Plans.{for_each_slot, kind_of, last_bits, plan_for, plan_of, position_bits, rounds_of, slot_trees}
use Rattle.private_plan.specs.Rounds.{Round, secrets_in}
use Rattle.private_plan.proofs.Counts.{slots_few}
use Rattle.private_plan.specs.Slots.{IsSlot, position_slot, position_slots}

-- ---- bits of positions

-- a number of bits that is found tells the rows apart, and so does the last one
found_or : (rows a : ℕ) (more : Option ℕ) (b : Bool) → nat_le rows (2 ^ a) ≡ b → rows ≤ 2 ^ unwrap_or more 18 → rows ≤ 2 ^ unwrap_or (if b then Some a else more) 18
found_or rows a more true e rest = grind (arith, nat_tests, e)
found_or rows a more false e rest = rest

found_enough : (rows : ℕ) → rows ≤ 2 ^ 18 → (bits : List ℕ) → rows ≤ 2 ^ unwrap_or (find (λ q. nat_le rows (2 ^ q)) bits) 18
found_enough rows few [] = few
found_enough rows few (a ∷ more) = found_or rows a (find (λ q. nat_le rows (2 ^ q)) more) (nat_le rows (2 ^ a)) refl (found_enough rows few more)

pub bits_enough : (rows : ℕ) → rows ≤ 262144 → rows ≤ 2 ^ position_bits rows
bits_enough rows few = found_enough rows few (range_with_len 1 18)

some_or : (a : ℕ) (more : Option ℕ) (b : Bool) → 1 ≤ a → 1 ≤ unwrap_or more 18 → 1 ≤ unwrap_or (if b then Some a else more) 18
some_or a more true some rest = some
some_or a more false some rest = rest

found_some : (p : ℕ → Bool) (a n : ℕ) → 1 ≤ a → 1 ≤ unwrap_or (find p (range_with_len a n)) 18
found_some p a zero some = omega arith
found_some p a (suc n) some = some_or a (find p (range_with_len (a + 1) n)) (p a) some (found_some p (a + 1) n (omega arith))

pub bits_some : (rows : ℕ) → 1 ≤ position_bits rows
bits_some rows = found_some (λ q. nat_le rows (2 ^ q)) 1 18 (omega arith)

-- ---- counts that are taken

both_taken : (a b : Result (Unit {0}) SecretFault) → (a >>= (λ t. b)) ≡ Ok tt → (a ≡ Ok tt) × (b ≡ Ok tt)
both_taken (Ok x) b h = (refl, h)
both_taken (Err e) b h = absurd cc

not_above : (rows place count : ℕ) (b : Bool) → nat_lt rows count ≡ b → ◌≡◌ {A = Result (Unit {0}) SecretFault} (if b then Err (BadCount place count rows) else Ok tt) (Ok tt) → count ≤ rows
not_above rows place count true e h = absurd cc
not_above rows place count false e h = grind (arith, nat_tests, e)

pub within : (rows place count : ℕ) → within_rows rows place count ≡ Ok tt → count ≤ rows
within rows place count h = not_above rows place count (nat_lt rows count) refl h

-- the counts of a slot are at most the rows
pub pair_within : (rows place below upto : ℕ) → pair_taken rows place below upto ≡ Ok tt → (below ≤ rows) × (upto ≤ rows)
pair_within rows place below upto h =
    let first = both_taken (within_rows rows place below) _ h in
    let second = both_taken (within_rows rows (place + 1) upto) (not_below below (place + 1) upto) first.1 in
    (within rows place below first.0, within rows (place + 1) upto second.0)

pub first_pair : (rows place below upto : ℕ) (counts : List ℕ) → counts_taken rows place (below ∷ upto ∷ counts) ≡ Ok tt → (pair_taken rows place below upto ≡ Ok tt) × (counts_taken rows (place + 2) counts ≡ Ok tt)
unfolding counts_taken
first_pair rows place below upto counts h = both_taken (pair_taken rows place below upto) (counts_taken rows (place + 2) counts) h

-- ---- pair by pair

-- the first pair of some counts, and the others
pub by_pairs : (rows place : ℕ) (all pair rest : List ℕ) → all ≡ pair ++ rest → length pair ≡ 2
    → counts_taken rows place all ≡ (pair_taken rows place (get_or pair 0 0) (get_or pair 1 0) >>= (λ t. counts_taken rows (place + 2) rest))
unfolding counts_taken
by_pairs rows place all [] rest parts two = absurd (omega (arith, two))
by_pairs rows place all (x ∷ []) rest parts two = absurd (omega (arith, two))
by_pairs rows place all (x ∷ y ∷ []) rest parts two = ap (counts_taken rows place) parts
by_pairs rows place all (x ∷ y ∷ z ∷ zs) rest parts two = absurd (omega (arith, two))

-- where the pair can be, the others are left, and else its refusal is told
pub pair_passed : (rows same place : ℕ) (all pair rest : List ℕ) → same ≡ rows → all ≡ pair ++ rest → length pair ≡ 2 → pair_taken same place (get_or pair 0 0) (get_or pair 1 0) ≡ Ok tt
    → counts_taken rows place all ≡ counts_taken rows (place + 2) rest
pair_passed rows same place all pair rest is parts two ok =
    by_pairs rows place all pair rest parts two
    ∙ ap (λ r. r >>= (λ t. counts_taken rows (place + 2) rest)) (ap (λ n. pair_taken n place (get_or pair 0 0) (get_or pair 1 0)) (sym is) ∙ ok)

pub pair_refused : (rows same place : ℕ) (all pair rest : List ℕ) (e : SecretFault) → same ≡ rows → all ≡ pair ++ rest → length pair ≡ 2 → pair_taken same place (get_or pair 0 0) (get_or pair 1 0) ≡ Err e
    → counts_taken rows place all ≡ Err e
pair_refused rows same place all pair rest e is parts two refused =
    by_pairs rows place all pair rest parts two
    ∙ ap (λ r. r >>= (λ t. counts_taken rows (place + 2) rest)) (ap (λ n. pair_taken n place (get_or pair 0 0) (get_or pair 1 0)) (sym is) ∙ refused)

pub no_pair : (rows place : ℕ) (rest : List ℕ) → length rest < 2 → counts_taken rows place rest ≡ Ok tt
unfolding counts_taken
no_pair rows place [] short = refl
no_pair rows place (x ∷ []) short = refl
no_pair rows place (x ∷ y ∷ rest) short = absurd (omega (arith, short))

pub slots_by_pairs : (all pair rest : List ℕ) → all ≡ pair ++ rest → length pair ≡ 2 → position_slots all ≡ position_slot (get_or pair 0 0) (get_or pair 1 0) ∷ position_slots rest
unfolding position_slots
slots_by_pairs all [] rest parts two = absurd (omega (arith, two))
slots_by_pairs all (x ∷ []) rest parts two = absurd (omega (arith, two))
slots_by_pairs all (x ∷ y ∷ []) rest parts two = ap position_slots parts
slots_by_pairs all (x ∷ y ∷ z ∷ zs) rest parts two = absurd (omega (arith, two))

pub no_slot : (rest : List ℕ) → length rest < 2 → position_slots rest ≡ []
unfolding position_slots
no_slot [] short = refl
no_slot (x ∷ []) short = refl
no_slot (x ∷ y ∷ rest) short = absurd (omega (arith, short))

-- ---- their slots

slot_valid : (q below upto : ℕ) → upto ≤ 2 ^ q → IfSome (position_slot below upto) (IsSlot q q)
slot_valid q below upto most = by_test (nat_lt below upto) refl
  where
    by_test : (b : Bool) → nat_lt below upto ≡ b → IfSome {T = Span} (if b then Some (record { lo = below; hi = upto - 1 }) else None) (IsSlot q q)
    by_test true e =
        let before : below < upto = grind (arith, nat_tests, e) in
        let low : below < 2 ^ q = omega (arith, before, most) in
        let high : upto - 1 < 2 ^ q = omega (arith, before, most) in
        record { order = omega (arith, before); below = high; agree = div-eq_of_lt low ∙ sym (div-eq_of_lt high) }
    by_test false e = tt

pub slots_valid : (rows q place : ℕ) (counts : List ℕ) → rows ≤ 2 ^ q → counts_taken rows place counts ≡ Ok tt → AllByRecursion (λ slot. IfSome slot (IsSlot q q)) (position_slots counts)
unfolding position_slots
slots_valid rows q place [] enough h = tt
slots_valid rows q place (x ∷ []) enough h = tt
slots_valid rows q place (below ∷ upto ∷ counts) enough h =
    let parts = first_pair rows place below upto counts h in
    let inside = (pair_within rows place below upto parts.0).1 in
    (slot_valid q below upto (omega (arith, inside, enough)), slots_valid rows q (place + 2) counts enough parts.1)

-- ---- the secrets of slots, slot by slot

pub next_slot : (f : Option Span → List Secret) (done : List Secret) (slot first : Option Span) (all rest : List (Option Span)) → slot ≡ first → all ≡ first ∷ rest
    → (done ++ f slot) ++ flat_map f rest ≡ done ++ flat_map f all
next_slot f done slot first all rest is parts =
    ap (λ s. (done ++ f s) ++ flat_map f rest) is ∙ (append_assoc done (f first) (flat_map f rest) ∙ ap (λ l. done ++ flat_map f l) (sym parts))

pub no_more : (f : Option Span → List Secret) (done : List Secret) (rest : List ℕ) → length rest < 2 → done ++ flat_map f (position_slots rest) ≡ done
no_more f done rest short = ap (λ l. done ++ flat_map f l) (no_slot rest short) ∙ append-nil done

-- ---- the secrets of a round

pub never_both : (r : Result (List Secret) SecretFault) (l : List Secret) (e : SecretFault) → r ≡ Ok l → r ≡ Err e → ⊥
never_both r l e told refused = cc

module _ (checked : Checked) (shape : ShapeParts) (params : List ℕ) (round : Round) where
  pub secrets_refused : (e : SecretFault) → counts_taken shape.rows 0 round.counts ≡ Err e → secrets_of checked shape params round ≡ Err e
  unfolding secrets_of
  secrets_refused e refused = ap (λ r. r >>= (λ t. Ok (secrets_in checked shape params round))) refused

  pub secrets_told : counts_taken shape.rows 0 round.counts ≡ Ok tt → secrets_of checked shape params round ≡ Ok (secrets_in checked shape params round)
  unfolding secrets_of
  secrets_told taken = ap (λ r. r >>= (λ t. Ok (secrets_in checked shape params round))) taken

-- two rounds are those of the position plan, whose first words are as many as its trees
words_of_two : (k : PlanKind) (range : Bool) (slots n w width rows : ℕ) → 2 ≤ (plan_for k range slots n w width rows).rounds → slots ≤ 8 → (plan_for k range slots n w width rows).first_words ≤ 512
words_of_two kind.Sum range slots n w width rows two few = absurd (omega (arith, two))
words_of_two kind.Point range slots n w width rows two few = absurd (omega (arith, two))
words_of_two kind.Aligned range slots n w width rows two few = absurd (omega (arith, two))
words_of_two kind.Position range slots n w width rows two few =
    slots_few slots (slot_trees kind.Position range n w) (for_each_slot slots (slot_trees kind.Position range n w)) few (omega arith) refl

-- the counts that a round is given are few
pub counts_few : (checked : Checked) (shape : ShapeParts) (round : ℕ) (counts : List ℕ) → IsCheckedFor checked shape.schema → 1 ≤ round → round ≤ (plan_of checked shape).rounds → (round ≡ 1 → counts ≡ [])
    → (round ≡ 2 → length counts ≡ (plan_of checked shape).first_words) → length counts ≤ 512
counts_few checked shape round counts accepted some most none told =
    elim (cases_lt 1 round) [
      | inl later ↦
          let two = rounds_at_most (kind_of checked shape.schema.columns) in
          let is : round ≡ 2 = omega (arith, later, most, two) in
          let words = told is in
          let few = words_of_two (kind_of checked shape.schema.columns) checked.range checked.branches checked.bits (last_bits shape.schema.columns checked.columns) (cell_width checked.spec) shape.rows (omega (arith, later, most)) (checked_branches checked shape.schema accepted).1 in
          omega (arith, words, few)
      | inr first ↦ let empty = ap length (none (omega (arith, some, first))) in omega (arith, empty)
    ]
  where
    rounds_at_most : (k : PlanKind) → rounds_of k ≤ 2
    rounds_at_most kind.Sum = omega arith
    rounds_at_most kind.Point = omega arith
    rounds_at_most kind.Aligned = omega arith
    rounds_at_most kind.Position = omega arith
