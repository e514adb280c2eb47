-- The secrets of sums are secrets of their trees, which are as deep as the joined key has bits.
use Rattle.std.proofs.Common.{◌≡◌, ℕ, zero, suc, ◌-◌, ◌^◌, ◌<◌, ◌≤◌, Bool, true, false, List, [], ◌∷◌, ◌++◌, Option, Some, None, refl, arith, IfSome}
use Rattle.std.specs.Prelude.{All}
use Rattle.std.specs.List.{AllByRecursion, flat_map}
use Rattle.std.proofs.lemmas.List.Elements.{All-head, All-tail}
use Rattle.std.proofs.lemmas.Nat.{pow_pos}
use Rattle.spl_words.specs.Secrets.{Secret, IsSecret}
use Rattle.interval_keys.specs.Intervals.{Span, minus_below, threshold}
use Rattle.private_plan.specs.Slots.{point_secret, slot_secrets}

-- a secret of a tree that is so deep
pub record IsOf (bits : ℕ) (s : Secret) : Type 0 where
  pub secret : IsSecret s
  pub deep : s.depth ≡ bits

module _ (bits : ℕ) where
  abbrev Ends : Option Span → Type 0
  Ends s = IfSome s (λ t. (t.lo ≤ t.hi) × (t.hi < 2 ^ bits))

  point_is : (s : Option Span) → Ends s → IsOf bits (point_secret bits s)
  point_is None ends = record { secret = record { number = pow_pos bits; word = omega arith }; deep = refl }
  point_is (Some t) ends = record { secret = record { number = omega (arith, ends.0, ends.1); word = omega arith }; deep = refl }

  pub threshold_is : (alpha beta : ℕ) → alpha < 2 ^ bits → beta < 2 ^ 64 → IsOf bits (threshold bits alpha beta)
  threshold_is alpha beta a b = record { secret = record { number = a; word = b }; deep = refl }

  below_is : (n : ℕ) → n < 2 ^ bits → IsOf bits (minus_below bits n)
  below_is zero h = threshold_is 0 0 (pow_pos bits) (omega arith)
  below_is (suc n) h = threshold_is n (2 ^ 64 - 1) (omega (arith, h)) (omega arith)

  slot_is : (range : Bool) (s : Option Span) → Ends s → AllByRecursion (IsOf bits) (slot_secrets range bits s)
  slot_is false s ends = (point_is s ends, tt)
  slot_is true None ends = (threshold_is 0 0 (pow_pos bits) (omega arith), (threshold_is 0 0 (pow_pos bits) (omega arith), tt))
  slot_is true (Some t) ends = (threshold_is t.hi 1 ends.1 (omega arith), (below_is t.lo (omega (arith, ends.0, ends.1)), tt))

  each_append : (xs ys : List Secret) → AllByRecursion (IsOf bits) xs → AllByRecursion (IsOf bits) ys → AllByRecursion (IsOf bits) (xs ++ ys)
  each_append [] ys h i = i
  each_append (s ∷ xs) ys h i = (h.0, each_append xs ys h.1 i)

  pub slots_are : (range : Bool) (l : List (Option Span)) → All Ends l → AllByRecursion (IsOf bits) (flat_map (slot_secrets range bits) l)
  slots_are range [] fit = tt
  slots_are range (s ∷ l) fit = each_append (slot_secrets range bits s) (flat_map (slot_secrets range bits) l) (slot_is range s (All-head Ends s l fit)) (slots_are range l (All-tail Ends s l fit))

pub secrets : (bits : ℕ) (ss : List Secret) → AllByRecursion (IsOf bits) ss → AllByRecursion IsSecret ss
secrets bits [] h = tt
secrets bits (s ∷ ss) h = (h.0.secret, secrets bits ss h.1)

-- a number of so many bits is one of each tree
pub numbers : (bits x : ℕ) (ss : List Secret) → AllByRecursion (IsOf bits) ss → x < 2 ^ bits → AllByRecursion (λ (s : Secret). x < 2 ^ s.depth) ss
numbers bits x [] h below = tt
numbers bits x (s ∷ ss) h below = (rw (h.0.deep) below, numbers bits x ss h.1 below)
