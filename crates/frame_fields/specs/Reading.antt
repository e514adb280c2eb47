-- Reading from the front, with the first fault that is met.
use Rattle.std.specs.Prelude.{◌≡◌, ◌⊎◌, ℕ, zero, suc, ◌+◌, List, [], ◌∷◌, ◌++◌, length, take, drop, Option, Some, None, Bool, Result, Ok, Err, nat_lt, nat_le, ◌==◌, ◌&&◌, if◌then◌else◌}
use Rattle.std.specs.Int.{Width, w8, byte_len, from_be_bytes}
use Rattle.std.specs.List.{position}
use Rattle.std.specs.Str.{bytes_eq}
use Rattle.sha2.specs.Sha256.{sha256}
use Rattle.spl_words.specs.declared.provider.Provider.{Provider}
use Rattle.spl_words.specs.declared.provider.Provider.TheVariants.{Zero, One}
use Rattle.spl_words.specs.declared.fault.FrameFault.{FrameFault}
use Rattle.spl_words.specs.declared.fault.FrameFault.TheVariants.{Short, BadMagic, BadVersion, BadField, TooLarge, Trailing, BadDigest, OutOfMemory}
use Rattle.spl_words.specs.Cursor.{Spot}
use Rattle.spl_words.specs.Results.{◌>>=◌}

-- a value and the spot behind it
abbrev pub At : Type 0 → Type 0
At A = Result (A × Spot) FrameFault

-- what a reader returned and left is what reading gives, unless memory was short; after a fault the spot of the cursor says nothing
abbrev pub Reads : {X Y : Type 0} → (X → Y) → Result X FrameFault → Spot → At Y → Type 0
Reads view (Ok x) now step = step ≡ Ok (view x, now)
Reads view (Err e) now step = (e ≡ OutOfMemory) ⊎ (step ≡ Err e)

-- what a reader that takes no memory returned and left is what reading gives; after a fault the spot of the cursor says nothing
abbrev pub ReadsExactly : {X Y : Type 0} → (X → Y) → Result X FrameFault → Spot → At Y → Type 0
ReadsExactly view (Ok x) now step = step ≡ Ok (view x, now)
ReadsExactly view (Err e) now step = step ≡ Err e

-- n bytes
unfoldable pub take_at : ℕ → Spot → At (List ℕ)
take_at n p = if nat_lt (length p.bytes) (p.at + n) then Err (Short (p.at + n) (length p.bytes)) else Ok (take n (drop p.at p.bytes), record { bytes = p.bytes; at = p.at + n })

-- a number of a width, its highest byte first
unfoldable pub number_at : Width → Spot → At ℕ
number_at w p = do
  b ← take_at (byte_len w) p
  Ok (from_be_bytes w b.0, b.1)

-- bytes that have to be these
unfoldable pub magic_at : List ℕ → Spot → At (Unit {0})
magic_at text p = do
  b ← take_at (length text) p
  if bytes_eq b.0 text then Ok (tt, b.1) else Err BadMagic

-- a version that has to be this one
unfoldable pub version_at : ℕ → Spot → At (Unit {0})
version_at version p = do
  b ← number_at w8 p
  if b.0 == version then Ok (tt, b.1) else Err (BadVersion b.0)

-- the bytes, unless one of them is bad
abbrev pub none_bad : Spot → List ℕ × Spot → Option ℕ → At (List ℕ)
none_bad p b None = Ok b
none_bad p b (Some i) = Err (BadField (p.at + i))

-- a text of n bytes; the first bad byte is the fault's place
unfoldable pub text_at : (ℕ → Bool) → ℕ → Spot → At (List ℕ)
text_at bad n p = do
  b ← take_at n p
  none_bad p b (position bad b.0)

-- the value, unless there is none
abbrev pub some_value : {A : Type 0} → Spot → Spot → Option A → At A
some_value p q None = Err (BadField p.at)
some_value p q (Some x) = Ok (x, q)

-- a text of n bytes that spells a value
unfoldable pub decoded_at : {A : Type 0} → (List ℕ → Option A) → ℕ → Spot → At A
decoded_at decode n p = do
  b ← take_at n p
  some_value p b.1 (decode b.0)

-- a number between two bounds
unfoldable pub within_at : Width → ℕ → ℕ → Spot → At ℕ
within_at w low high p = do
  b ← number_at w p
  if nat_le low b.0 && nat_le b.0 high then Ok b else Err (BadField p.at)

-- the provider of a number that a frame holds
abbrev pub provider_of : ℕ → Provider
provider_of zero = Zero
provider_of (suc n) = One

-- the byte of a provider
abbrev pub provider_byte : Provider → ℕ
provider_byte Zero = 0
provider_byte One = 1

-- a provider: 0 or 1
unfoldable pub provider_at : Spot → At Provider
provider_at p = do
  b ← within_at w8 0 1 p
  Ok (provider_of b.0, b.1)

-- n fields of one kind
unfoldable pub many_at : {A : Type 0} → (Spot → At A) → ℕ → Spot → At (List A)
many_at one zero p = Ok ([], p)
many_at one (suc n) p = do
  first ← one p
  others ← many_at one n first.1
  Ok (first.0 ∷ others.0, others.1)

-- the digest of all bytes before it, and no byte behind it
unfoldable pub digest_at : Spot → Result (Unit {0}) FrameFault
digest_at p = do
  d ← take_at 32 p
  if nat_lt d.1.at (length d.1.bytes) then Err (Trailing d.1.at) else if bytes_eq d.0 (sha256 (take p.at p.bytes)) then Ok tt else Err (BadDigest d.0 (sha256 (take p.at p.bytes)))

-- a whole frame: its fields, and the digest of them
unfoldable pub frame_at : {A : Type 0} → (Spot → At A) → List ℕ → Result A FrameFault
frame_at fields bytes = if nat_lt 4194304 (length bytes) then Err TooLarge else (do
  f ← fields (record { bytes = bytes; at = 0 })
  d ← digest_at f.1
  Ok f.0)

-- the fields' bytes, and the digest of them
abbrev pub sealed : List ℕ → List ℕ
sealed body = body ++ sha256 body
