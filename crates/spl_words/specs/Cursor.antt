-- A cursor over bytes.
use Rattle.std.specs.Prelude.{◌≡◌, ℕ, ◌+◌, ◌≤◌, ◌<◌, List, length, take, drop, Option, Some, None}

-- bytes, and how many of them were read
pub record Spot : Type 0 where
  pub bytes : List ℕ
  pub at : ℕ

-- a field of n bytes, which `read` gives the value of, behind the cursor; none exactly where fewer bytes are left, and then the cursor stays
abbrev pub TakesField : {X Y : Type 0} → (X → Y) → (List ℕ → Y) → ℕ → Spot → Spot → Option X → Type 0
TakesField view read n old new None = (length old.bytes < old.at + n) × (new ≡ old)
TakesField view read n old new (Some x) = (old.at + n ≤ length old.bytes) × (view x ≡ read (take n (drop old.at old.bytes))) × (new.bytes ≡ old.bytes) × (new.at ≡ old.at + n)
