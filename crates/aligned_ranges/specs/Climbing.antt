-- How a cover is found, level by level.
use Rattle.std.specs.Prelude.{ℕ, ◌-◌, ◌%◌, nat_lt, ◌==◌, ◌&&◌, List, [], ◌∷◌, ◌++◌, if◌then◌else◌}

-- of the numbers from start to below end, the first where it is odd, and the last where it is even
abbrev pub outer : ℕ → ℕ → List ℕ
outer start end = (if nat_lt start end && start % 2 == 1 then start ∷ [] else []) ++ (if nat_lt start end && end % 2 == 1 then (end - 1) ∷ [] else [])
