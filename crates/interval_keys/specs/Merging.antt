-- How slots are found: the intervals are added one after another to disjoint ones in rising order.
use Rattle.std.specs.Prelude.{ℕ, min, max, nat_lt, if◌then◌else◌, List, [], ◌∷◌, Option, None, Some}
use Rattle.interval_keys.specs.Intervals.{Span}

-- the least interval that holds two
abbrev pub hull : Span → Span → Span
hull s t = record { lo = min s.lo t.lo; hi = max s.hi t.hi }

-- an interval added to disjoint ones: it takes in those that it meets
unfoldable pub add_span : Span → List Span → List Span
add_span s [] = s ∷ []
add_span s (t ∷ l) = if nat_lt t.hi s.lo then t ∷ add_span s l else if nat_lt s.hi t.lo then s ∷ t ∷ l else add_span (hull s t) l

-- intervals added one after another
unfoldable pub add_spans : List Span → List Span → List Span
add_spans done [] = done
add_spans done (s ∷ l) = add_spans (add_span s done) l

-- the rest of a list where an interval may still wait for its place
unfoldable pub rest_with : Option Span → List Span → List Span
rest_with None l = l
rest_with (Some s) l = add_span s l

-- the room that a waiting interval needs
abbrev pub room_for : Option Span → ℕ
room_for None = 0
room_for (Some s) = 1
