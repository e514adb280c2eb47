-- Frames on a wire: a length, and so many bytes.
use Rattle.std.specs.Prelude.{◌≡◌, ◌⊎◌, ℕ, ◌≤◌, ◌<◌, ◌^◌, List, ◌++◌, length}
use Rattle.std.specs.List.{flat_map}
use Rattle.std.specs.Int.{w32, to_be_bytes}

-- the length in four bytes, the highest first, and the bytes
abbrev pub framed : List ℕ → List ℕ
framed bytes = to_be_bytes w32 (length bytes) ++ bytes

-- one frame after another
abbrev pub all_framed : List (List ℕ) → List ℕ
all_framed frames = flat_map framed frames

-- the most bytes of a request
abbrev pub longest_request : ℕ
longest_request = 4194304

-- the most bytes of a reply's body
abbrev pub longest_body : ℕ
longest_body = 4194305

-- input that begins with a length over the longest
abbrev pub BeginsTooLong : ℕ → List ℕ → ℕ → Type 0
BeginsTooLong longest input n = (more : List ℕ) × (input ≡ to_be_bytes w32 n ++ more) × ((longest < n) × (n < 2 ^ 32))

-- input that ends inside a length or the bytes that it counts: how many of this part came, and how many it needs
abbrev pub EndsInside : ℕ → List ℕ → ℕ → ℕ → Type 0
EndsInside longest input had needed =
    ((length input ≡ had) × ((had < 4) × (needed ≡ 4)))
    ⊎ ((part : List ℕ) × (input ≡ to_be_bytes w32 needed ++ part) × ((length part ≡ had) × ((had < needed) × (needed ≤ longest))))
