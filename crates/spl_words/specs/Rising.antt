-- The numbers of a list in rising order.
use Rattle.std.specs.Prelude.{ℕ, Bool, nat_lt, ◌==◌, if◌then◌else◌, List, [], ◌∷◌}
use Rattle.std.specs.List.{list_any}

-- whether x stands in a list
abbrev pub among : List ℕ → ℕ → Bool
among l x = list_any (λ y. y == x) l

-- a number put into rising ones, unless it stands there
unfoldable pub put_number : ℕ → List ℕ → List ℕ
put_number x [] = x ∷ []
put_number x (y ∷ ys) = if nat_lt x y then x ∷ y ∷ ys else if x == y then y ∷ ys else y ∷ put_number x ys

-- the numbers of a list in rising order, each once
unfoldable pub rising : List ℕ → List ℕ
rising [] = []
rising (x ∷ xs) = put_number x (rising xs)
