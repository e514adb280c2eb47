-- Where two texts differ.
use Rattle.std.specs.Prelude.{ℕ, ◌+◌, ◌==◌, List, take, count_by}
use Rattle.std.specs.List.{common_prefix_len}

-- what two texts begin with alike
abbrev pub common_front : List ℕ → List ℕ → List ℕ
common_front a b = take (common_prefix_len (λ x y. x == y) a b) a

-- the first line, from 1, at which two texts differ: that behind the lines that end in their common front
abbrev pub first_line : List ℕ → List ℕ → ℕ
first_line a b = 1 + count_by (λ c. c == 10) (common_front a b)
