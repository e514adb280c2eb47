-- Intervals, and the two thresholds that stand for one.
use Rattle.std.specs.Prelude.{◌≡◌, ℕ, zero, suc, ◌-◌, ◌^◌, cond, ◌&&◌, nat_le, Option, Some, None}
use Rattle.spl_words.specs.declared.secret.TreeKind.TheVariants.{Threshold}
use Rattle.spl_words.specs.Words.{plus}
use Rattle.spl_words.specs.Secrets.{Secret, secret_value}

-- the numbers from lo to hi, both among them
pub record Span : Type 0 where
  pub lo : ℕ
  pub hi : ℕ

-- 1 inside a slot and 0 outside; an empty slot has no inside
abbrev pub slot_value : Option Span → ℕ → ℕ
slot_value None x = 0
slot_value (Some s) x = cond (nat_le s.lo x && nat_le x s.hi) 1 0

-- a threshold with these bits
abbrev pub threshold : ℕ → ℕ → ℕ → Secret
threshold bits alpha beta = record { kind = Threshold; depth = bits; alpha = alpha; beta = beta }

-- the threshold that takes 1 away below lo; below 0 there is no number, so it is 0 everywhere
abbrev pub minus_below : ℕ → ℕ → Secret
minus_below bits zero = threshold bits 0 0
minus_below bits (suc n) = threshold bits n (2 ^ 64 - 1)

-- the secrets of a slot: 1 up to hi, and minus 1 below lo; an empty slot has two that are 0 everywhere
abbrev pub interval_secrets : ℕ → Option Span → Secret × Secret
interval_secrets bits None = (threshold bits 0 0, threshold bits 0 0)
interval_secrets bits (Some s) = (threshold bits s.hi 1, minus_below bits s.lo)

-- the two functions of an interval add to 1 inside it and to 0 outside
abbrev pub SecretsAdd : ℕ → Span → Type 0
SecretsAdd bits s = (x : ℕ) → plus (secret_value (interval_secrets bits (Some s)).0 x) (secret_value (interval_secrets bits (Some s)).1 x) ≡ slot_value (Some s) x

-- and those of an empty slot to 0
abbrev pub EmptySecretsAdd : ℕ → Type 0
EmptySecretsAdd bits = (x : ℕ) → plus (secret_value (interval_secrets bits None).0 x) (secret_value (interval_secrets bits None).1 x) ≡ slot_value None x
