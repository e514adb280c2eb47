-- Slots: what the intervals of some branches hold, as disjoint intervals in rising order.
use Rattle.std.specs.Prelude.{◌≡◌, ℕ, ◌+◌, ◌-◌, ◌≤◌, Bool, not, nat_lt, nat_le, ◌==◌, ◌&&◌, List, [], ◌∷◌, ◌++◌, length, map, filter, replicate, All, Option, None, Some, IfSome}
use Rattle.std.specs.List.{list_any}
use Rattle.std.specs.List.Sorted.{IsStrictlyIncreasing}
use Rattle.spl_words.specs.Rising.{among, rising}
use Rattle.interval_keys.specs.Intervals.{Span}

-- an interval that holds a number
abbrev pub IsSpan : Span → Type 0
IsSpan s = s.lo ≤ s.hi

-- each interval of some branches has P; a branch may have none
abbrev pub EachSpan : (Span → Type 0) → List (Option Span) → Type 0
EachSpan P branches = All (λ b. IfSome b P) branches

-- whether an interval holds x
abbrev pub holds : ℕ → Span → Bool
holds x s = nat_le s.lo x && nat_le x s.hi

-- whether some interval holds x
abbrev pub held : List Span → ℕ → Bool
held l x = list_any (holds x) l

-- whether an interval holds both x and the number before it
abbrev pub joins : ℕ → Span → Bool
joins x s = nat_lt s.lo x && nat_le x s.hi

-- whether some interval holds both x and the number before it
abbrev pub joined : List Span → ℕ → Bool
joined l x = list_any (joins x) l

-- whether x is a lower end that no interval holds together with the number before it
abbrev pub is_start : List Span → ℕ → Bool
is_start l x = among (map (λ s. s.lo) l) x && not (joined l x)

-- whether x is an upper end that no interval holds together with the number after it
abbrev pub is_end : List Span → ℕ → Bool
is_end l x = among (map (λ s. s.hi) l) x && not (joined l (x + 1))

-- a list that rises and holds the numbers that pass, and no other
pub record ListsInOrder (p : ℕ → Bool) (l : List ℕ) : Type 0 where
  pub rises : IsStrictlyIncreasing l
  pub holds_them : (x : ℕ) → among l x ≡ p x

-- the starts in rising order
abbrev pub starts : List Span → List ℕ
starts l = rising (filter (λ x. not (joined l x)) (map (λ s. s.lo) l))

-- the ends in rising order
abbrev pub ends : List Span → List ℕ
ends l = rising (filter (λ x. not (joined l (x + 1))) (map (λ s. s.hi) l))

-- the i-th interval goes from the i-th start to the i-th end
unfoldable pub spans_between : List ℕ → List ℕ → List Span
spans_between (x ∷ xs) (y ∷ ys) = record { lo = x; hi = y } ∷ spans_between xs ys
spans_between _ _ = []

-- the intervals of the branches that have one
unfoldable pub allowed : List (Option Span) → List Span
allowed [] = []
allowed (None ∷ l) = allowed l
allowed (Some s ∷ l) = s ∷ allowed l

-- intervals as n slots, of which the last are empty
abbrev pub padded : ℕ → List Span → List (Option Span)
padded n l = map (λ s. Some s) l ++ replicate (n - length l) None

-- the slots of some branches: from each start to its end, and then empty ones up to the number of branches
abbrev pub slots : List (Option Span) → List (Option Span)
slots branches = padded (length branches) (spans_between (starts (allowed branches)) (ends (allowed branches)))
