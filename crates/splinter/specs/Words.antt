-- What the words of the command line tell of the files.
use Rattle.std.specs.Prelude.{ℕ, Bool, false, List, [], ◌∷◌, codes}
use Rattle.std.specs.Str.{bytes_eq}

-- the command writes files that hold secrets of the user: the note and the keys
abbrev pub make_secrets : List (List ℕ) → Bool
make_secrets [] = false
make_secrets (name ∷ words) = bytes_eq name (codes "keys")
