-- How many trees a round has, and how wide the last column is.
use Rattle.std.proofs.Common.{◌≡◌, ℕ, zero, suc, ◌+◌, ◌-◌, ◌*◌, ◌≤◌, ◌^◌, Bool, true, false, List, [], ◌∷◌, ◌++◌, length, nat_le, Option, Some, if◌then◌else◌, unwrap_or, refl, sym, ap, ◌∙◌, arith}
use Rattle.std.specs.Prelude.{replicate, slice_index}
use Rattle.std.specs.List.{flat_map, range_with_len, find}
use Rattle.std.proofs.lemmas.List.{length-append}
use Rattle.std.proofs.Math.Nat.{add-mul, zero-mul, mul-le-mul_right}
use Rattle.spl_values.specs.Shapes.{ColumnParts}
use Rattle.spl_values.specs.Tables.{key_bits}
use Rattle.spl_words.specs.declared.secret.KeySpec.{KeySpec}
use Rattle.private_plan.specs.Plans.{last_bits, level_trees, for_each_slot, tree, slot_trees, second_trees, position_bits}
use Rattle.private_plan.specs.declared.plans.PlanKind.{PlanKind}
use Rattle.private_plan.specs.declared.plans.PlanKind.TheVariants as kind
use Rattle.spl_words.specs.declared.secret.TreeKind.TheVariants.{Point}

-- lists of one length, one for each of n numbers
same_lengths : {A : Type 0} (f : ℕ → List A) (k : ℕ) → ((i : ℕ) → length (f i) ≡ k) → (a n : ℕ) → length (flat_map f (range_with_len a n)) ≡ n * k
same_lengths f k each a zero = sym (zero-mul k)
same_lengths f k each a (suc n) =
    let split : (n + 1) * k ≡ n * k + 1 * k = add-mul n 1 k in
    let here = each a in
    let more = same_lengths f k each (a + 1) n in
    let both : length (f a ++ flat_map f (range_with_len (a + 1) n)) ≡ length (f a) + length (flat_map f (range_with_len (a + 1) n)) = length-append (f a) (flat_map f (range_with_len (a + 1) n)) in
    omega (arith, split, here, more, both)

pub length-levels : (depth levels : ℕ) → length (level_trees depth levels) ≡ levels * 2
length-levels depth levels = same_lengths (λ j. replicate 2 (tree Point (depth - j))) 2 (λ i. refl) 0 levels

pub length-slots : (slots : ℕ) (trees : List KeySpec) → length (for_each_slot slots trees) ≡ slots * length trees
length-slots slots trees = same_lengths (λ i. trees) (length trees) (λ i. refl) 0 slots

at_end : (c d : ℕ) (cs : List ℕ) → slice_index (c ∷ d ∷ cs) (length (c ∷ d ∷ cs) - 1) ≡ slice_index (d ∷ cs) (length (d ∷ cs) - 1)
at_end c d cs =
    let one : length (c ∷ d ∷ cs) - 1 ≡ suc (length cs) = omega arith in
    let two : length (d ∷ cs) - 1 ≡ length cs = omega arith in
    rw (one, two) refl

-- the last column has no more bits than the key
pub last_in_key : (columns : List ColumnParts) (places : List ℕ) → 1 ≤ length places → last_bits columns places ≤ key_bits columns places
unfolding key_bits
last_in_key columns [] some = absurd (omega (arith, some))
last_in_key columns (c ∷ []) some =
    let one : length (c ∷ []) - 1 ≡ 0 = omega arith in
    rw one (omega arith)
last_in_key columns (c ∷ d ∷ cs) some =
    let more = last_in_key columns (d ∷ cs) (omega arith) in
    rw (at_end c d cs) (omega (arith, more))

-- a slot asks for at most 32 trees in the first round
pub slot_few : (k : PlanKind) (range : Bool) (n w : ℕ) → (k ≡ kind.Aligned → w ≤ 16) → length (slot_trees k range n w) ≤ 32
slot_few kind.Sum false n w narrow = omega arith
slot_few kind.Sum true n w narrow = omega arith
slot_few kind.Point range n w narrow = omega arith
slot_few kind.Aligned range n w narrow = let least = narrow refl in omega (arith, length-levels n w, least)
slot_few kind.Position range n w narrow = omega arith

chosen : (b : Bool) (a : ℕ) (rest : Option ℕ) → a ≤ 18 → unwrap_or rest 18 ≤ 18 → unwrap_or (if b then Some a else rest) 18 ≤ 18
chosen true a rest low more = low
chosen false a rest low more = more

found_low : (p : ℕ → Bool) (a n : ℕ) → a + n ≤ 19 → unwrap_or (find p (range_with_len a n)) 18 ≤ 18
found_low p a zero low = omega arith
found_low p a (suc n) low = chosen (p a) a (find p (range_with_len (a + 1) n)) (omega (arith, low)) (found_low p (a + 1) n (omega (arith, low)))

-- a position has at most 18 bits
pub bits_most : (rows : ℕ) → position_bits rows ≤ 18
bits_most rows = found_low (λ q. nat_le rows (2 ^ q)) 1 18 (omega arith)

-- and for at most 36 in the second
pub second_few : (k : PlanKind) (rows : ℕ) → length (second_trees k rows) ≤ 36
second_few kind.Sum rows = omega arith
second_few kind.Point rows = omega arith
second_few kind.Aligned rows = omega arith
second_few kind.Position rows = let low = bits_most rows in omega (arith, length-levels (position_bits rows) (position_bits rows), low)

-- 8 slots ask for no more than a frame has room for
pub slots_few : (slots : ℕ) (trees all : List KeySpec) → slots ≤ 8 → length trees ≤ 36 → all ≡ for_each_slot slots trees → length all ≤ 512
slots_few slots trees all few short e =
    let count = ap length e ∙ length-slots slots trees in
    let most : slots * length trees ≤ 8 * length trees = mul-le-mul_right (length trees) few in
    omega (arith, count, most, short)
