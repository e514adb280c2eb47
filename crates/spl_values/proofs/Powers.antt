-- Powers of 256 as powers of 2, and places of digits.
use Rattle.std.proofs.Common.{◌≡◌, ℕ, zero, suc, ◌+◌, ◌*◌, ◌/◌, ◌%◌, ◌^◌, ◌<◌, ◌≤◌, refl, sym, ◌∙◌, arith}
use Rattle.std.proofs.Math.Nat.{pow-suc, mul-le-mul_right, add-mul}
use Rattle.std.proofs.lemmas.Nat.{pow-add, pow_pos, one_shl, div_below}

-- a power of 256 is one of 2
pub bytes_bits : (k : ℕ) → 256 ^ k ≡ 2 ^ (8 * k)
bytes_bits zero = refl
bytes_bits (suc k) =
    let step : 8 * suc k ≡ 8 * k + 8 = omega arith in
    rw (pow-suc, bytes_bits k, step, pow-add) refl

pub bytes_pos : (k : ℕ) → 0 < 256 ^ k
bytes_pos k = rw bytes_bits (pow_pos (8 * k))

pub bytes_suc : (k : ℕ) → 256 ^ suc k ≡ 256 ^ k * 256
bytes_suc k = pow-suc 256 k

-- a digit below 256 before a rest that fits below it
pub digit_lt : (b p k : ℕ) → b < 256 → p < 256 ^ k → b * 256 ^ k + p < 256 ^ suc k
digit_lt b p k low fits =
    let whole : (b + 1) * 256 ^ k ≤ 256 * 256 ^ k = mul-le-mul_right (256 ^ k) (omega arith) in
    let parts : (b + 1) * 256 ^ k ≡ b * 256 ^ k + 1 * 256 ^ k = add-mul b 1 (256 ^ k) in
    rw bytes_suc (omega (arith, whole, parts))

-- the number before the last k bytes of one of k + 1 bytes is a byte
pub first_lt : (n k : ℕ) → n < 256 ^ suc k → n / 256 ^ k < 256
first_lt n k h =
    let below : n < 256 * 256 ^ k = omega (arith, bytes_suc k, h) in
    div_below n (256 ^ k) 256 (bytes_pos k) below

-- the unit of a byte, as shifts give it in 128 bits
pub unit_of : (k : ℕ) → k < 16 → (1 * 2 ^ (8 * k)) % 2 ^ 128 ≡ 256 ^ k
unit_of k h = one_shl (8 * k) 128 (omega arith) ∙ sym (bytes_bits k)
