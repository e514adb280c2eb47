-- Levels and keys are spelled so.
use Rattle.std.proofs.Common.{◌≡◌, ℕ, zero, suc, ◌+◌, ◌*◌, ◌^◌, ◌<◌, ◌≤◌, Bool, true, false, List, length, Ok, refl, sym, ap, subst, ◌∙◌, arith}
use Rattle.std.specs.List.{flat_map, sum_by}
use Rattle.std.specs.Int.{w8, w64, w128, to_be_bytes}
use Rattle.std.proofs.lemmas.List.{append-nil, length-append}
use Rattle.std.proofs.lemmas.List.Concat.{length-flat_map}
use Rattle.spl_words.specs.Cursor.{Spot}
use Rattle.frame_fields.specs.Reading.{number_at, within_at, many_at}
use Rattle.frame_fields.proofs.Laws.{Spans, IsField, Any, and_then, done_field, restate_field, number_field, within_field, many_field, length_of_parts, wide8, wide64, bind_ok, ok_is}
use Rattle.frame_fields.proofs.Wide.{wide128}
use Rattle.seed_expansion.specs.declared.nodes.Correction.{Correction}
use Rattle.interval_keys.specs.declared.keys.ThresholdLevel.{ThresholdLevel}
use Rattle.point_keys.specs.declared.keys.PointKey.{PointKey}
use Rattle.interval_keys.specs.declared.keys.ThresholdKey.{ThresholdKey}
use Rattle.key_frames.specs.declared.keys.Key.{Key}
use Rattle.key_frames.specs.declared.keys.Key.TheVariants.{Point, Threshold}
use Rattle.key_frames.specs.Trees.{key_tree, tree_length}
use Rattle.key_frames.specs.Keys.{bits_byte, correction, threshold_level, point_key, threshold_key, kind_byte, key_fields, key, CorrectionTyped, LevelTyped, KeyAllowed, PointTyped, ThresholdTyped, KeyTyped}
use Rattle.key_frames.specs.KeyReading.{left_bit, right_bit, correction_at, level_at, point_at, threshold_at, of_kind, key_at}

-- a point key that a frame may hold
abbrev PointFits : PointKey → Type 0
PointFits k = ((1 ≤ length k.levels) × (length k.levels ≤ 128)) × PointTyped k

-- a threshold key that a frame may hold
abbrev ThresholdFits : ThresholdKey → Type 0
ThresholdFits k = ((1 ≤ length k.levels) × (length k.levels ≤ 128)) × ThresholdTyped k

-- a key that a frame may hold
abbrev pub KeyFits : Key → Type 0
KeyFits k = KeyAllowed k × KeyTyped k

bits_again : (b : ℕ) → b ≤ 3 → bits_byte (left_bit b) (right_bit b) ≡ b
bits_again zero le = refl
bits_again (suc zero) le = refl
bits_again (suc (suc zero)) le = refl
bits_again (suc (suc (suc zero))) le = refl
bits_again (suc (suc (suc (suc b)))) le = absurd (omega (arith, le))

bits_small : (l r : Bool) → bits_byte l r ≤ 3
bits_small false false = omega arith
bits_small true false = omega arith
bits_small false true = omega arith
bits_small true true = omega arith

left_is : (l r : Bool) → left_bit (bits_byte l r) ≡ l
left_is false false = refl
left_is true false = refl
left_is false true = refl
left_is true true = refl

right_is : (l r : Bool) → right_bit (bits_byte l r) ≡ r
right_is false false = refl
right_is true false = refl
right_is false true = refl
right_is true true = refl

abbrev at64 : IsField (number_at w64) Any (λ n. n < 2 ^ 64) (to_be_bytes w64)
at64 = number_field w64 (2 ^ 64) wide64

abbrev at128 : IsField (number_at w128) Any (λ n. n < 2 ^ 128) (to_be_bytes w128)
at128 = number_field w128 (2 ^ 128) wide128

pub correction_field : IsField correction_at Any CorrectionTyped correction
unfolding correction_at correction
correction_field =
    restate_field _ _ _ _ Any CorrectionTyped correction
    (λ x f k. (tt, f.0))
    (λ x k f. (tt, (f, ((omega arith, bits_small x.bit_l x.bit_r), tt))))
    (λ x. simp append-nil refl) (
    and_then (λ c. c.seed) (number_at w128) _ Any Any _ _ _ _ (λ y k. tt) at128 (λ s sk.
    and_then (λ c. bits_byte c.bit_l c.bit_r) (within_at w8 0 3) _ _ Any _ _ _ _ (λ y k. tt) (within_field w8 (2 ^ 8) 0 3 wide8 (omega arith)) (λ b bk.
    done_field (record { seed = s; bit_l = left_bit b; bit_r = right_bit b }) _
    ((tt, refl), bits_again b bk.1.1)
    (λ y e. λ i. record { seed = e.0.1 i; bit_l = (sym (left_is y.bit_l y.bit_r) ∙ ap left_bit e.1) i; bit_r = (sym (right_is y.bit_l y.bit_r) ∙ ap right_bit e.1) i }))))

pub level_field : IsField level_at Any LevelTyped threshold_level
unfolding level_at threshold_level
level_field =
    restate_field _ _ _ _ Any LevelTyped threshold_level
    (λ x f k. (tt, record { correction = f.0; word_l = f.1.0; word_r = f.1.1.0 }))
    (λ x k f. (tt, (f.correction, (f.word_l, (f.word_r, tt)))))
    (λ x. simp append-nil refl) (
    and_then (λ v. v.correction) correction_at _ Any Any _ _ _ _ (λ y k. tt) correction_field (λ c ck.
    and_then (λ v. v.word_l) (number_at w64) _ _ Any _ _ _ _ (λ y k. tt) at64 (λ l lk.
    and_then (λ v. v.word_r) (number_at w64) _ _ Any _ _ _ _ (λ y k. tt) at64 (λ r rk.
    done_field (record { correction = c; word_l = l; word_r = r }) _ (((tt, refl), refl), refl)
    (λ y e. λ i. record { correction = e.0.0.1 i; word_l = e.0.1 i; word_r = e.1 i })))))

pub point_field : IsField point_at Any PointFits point_key
unfolding point_at point_key
point_field =
    restate_field _ _ _ _ Any PointFits point_key
    (λ x f k. (tt, (f.0, record { root = f.1.0; levels = f.1.1.0; last = f.1.1.1.0 })))
    (λ x k f. (tt, (f.0, (f.1.root, (f.1.levels, (f.1.last, tt))))))
    (λ x. simp append-nil refl) (
    and_then (λ k. length k.levels) (within_at w8 1 128) _ Any Any _ _ _ _ (λ y k. tt) (within_field w8 (2 ^ 8) 1 128 wide8 (omega arith)) (λ d dk.
    and_then (λ k. k.root) (number_at w128) _ _ Any _ _ _ _ (λ y k. tt) at128 (λ r rk.
    and_then (λ k. k.levels) (many_at correction_at d) _ _ _ _ _ _ _ (λ y k. k.0.1) (many_field correction_at CorrectionTyped correction d correction_field) (λ v vk.
    and_then (λ k. k.last) (number_at w64) _ _ Any _ _ _ _ (λ y k. tt) at64 (λ l lk.
    done_field (record { root = r; levels = v; last = l }) _ ((((tt, vk.0), refl), refl), refl)
    (λ y e. λ i. record { root = e.0.0.1 i; levels = e.0.1 i; last = e.1 i }))))))

pub threshold_field : IsField threshold_at Any ThresholdFits threshold_key
unfolding threshold_at threshold_key
threshold_field =
    restate_field _ _ _ _ Any ThresholdFits threshold_key
    (λ x f k. (tt, (f.0, record { root = f.1.0; levels = f.1.1.0; last = f.1.1.1.0 })))
    (λ x k f. (tt, (f.0, (f.1.root, (f.1.levels, (f.1.last, tt))))))
    (λ x. simp append-nil refl) (
    and_then (λ k. length k.levels) (within_at w8 1 128) _ Any Any _ _ _ _ (λ y k. tt) (within_field w8 (2 ^ 8) 1 128 wide8 (omega arith)) (λ d dk.
    and_then (λ k. k.root) (number_at w128) _ _ Any _ _ _ _ (λ y k. tt) at128 (λ r rk.
    and_then (λ k. k.levels) (many_at level_at d) _ _ _ _ _ _ _ (λ y k. k.0.1) (many_field level_at LevelTyped threshold_level d level_field) (λ v vk.
    and_then (λ k. k.last) (number_at w64) _ _ Any _ _ _ _ (λ y k. tt) at64 (λ l lk.
    done_field (record { root = r; levels = v; last = l }) _ ((((tt, vk.0), refl), refl), refl)
    (λ y e. λ i. record { root = e.0.0.1 i; levels = e.0.1 i; last = e.1 i }))))))

-- the fields of a key whose kind is known
abbrev IsKind : ℕ → Key → Type 0
IsKind n y = Any y × (kind_byte y ≡ n)

point_only : (p : Spot) (y : Key) (q : Spot) → Spans p (key_fields y) q → kind_byte y ≡ 0 → KeyFits y → of_kind 0 p ≡ Ok (y, q)
point_only p (Point k) q s e f = rw (point_field.only p k q s tt ((f.0.some, f.0.count), f.1)) refl
point_only p (Threshold k) q s e f = absurd (omega (arith, e))

threshold_only : (n : ℕ) (p : Spot) (y : Key) (q : Spot) → Spans p (key_fields y) q → kind_byte y ≡ suc n → KeyFits y → of_kind (suc n) p ≡ Ok (y, q)
threshold_only n p (Point k) q s e f = absurd (omega (arith, e))
threshold_only n p (Threshold k) q s e f = rw (threshold_field.only p k q s tt ((f.0.some, f.0.count), f.1)) refl

kind_field : (n : ℕ) → n ≤ 1 → IsField (of_kind n) (IsKind n) KeyFits key_fields
kind_field zero le = record {
  found = λ p y q is e.
      let b = bind_ok (point_at p) (λ k. Ok (Point k.0, k.1)) (y, q) e in
      let f = point_field.found p b.0.0 b.0.1 is b.1 in
      subst (λ (z : Key × Spot). Spans p (key_fields z.0) z.1 × IsKind 0 z.0 × KeyFits z.0) (ok_is (Point b.0.0, b.0.1) (y, q) b.2) (f.0, (tt, refl), (record { some = f.2.0.0; count = f.2.0.1 }, f.2.1));
  only = λ p y q s k f. point_only p y q s k.1 f;
}
kind_field (suc n) le = record {
  found = λ p y q is e.
      let b = bind_ok (threshold_at p) (λ k. Ok (Threshold k.0, k.1)) (y, q) e in
      let f = threshold_field.found p b.0.0 b.0.1 is b.1 in
      subst (λ (z : Key × Spot). Spans p (key_fields z.0) z.1 × IsKind (suc n) z.0 × KeyFits z.0) (ok_is (Threshold b.0.0, b.0.1) (y, q) b.2) (f.0, (tt, omega (arith, le)), (record { some = f.2.0.0; count = f.2.0.1 }, f.2.1));
  only = λ p y q s k f. threshold_only n p y q s k.1 f;
}

kind_small : (k : Key) → kind_byte k ≤ 1
kind_small (Point k) = omega arith
kind_small (Threshold k) = omega arith

pub key_field : IsField key_at Any KeyFits key
unfolding key_at key
key_field =
    restate_field _ _ _ _ Any KeyFits key
    (λ x f k. (tt, f.1))
    (λ x k f. (tt, ((omega arith, kind_small x), f)))
    (λ x. refl) (
    and_then kind_byte (within_at w8 0 1) (λ b. of_kind b.0 b.1) Any Any _ _ _ _ (λ y k. tt) (within_field w8 (2 ^ 8) 0 1 wide8 (omega arith)) (λ n nk. kind_field n nk.1.1))

-- ---- lengths

correction_length : (c : Correction) → length (correction c) ≡ 17
unfolding correction
correction_length c = refl

level_length : (v : ThresholdLevel) → length (threshold_level v) ≡ 33
unfolding threshold_level correction
level_length v = refl

point_length : (k : PointKey) → length (point_key k) ≡ 25 + 17 * length k.levels
unfolding point_key
point_length k =
    let levels = length_of_parts correction 17 correction_length k.levels in
    omega (arith, length-append (flat_map correction k.levels) (to_be_bytes w64 k.last), levels)

threshold_length : (k : ThresholdKey) → length (threshold_key k) ≡ 25 + 33 * length k.levels
unfolding threshold_key
threshold_length k =
    let levels = length_of_parts threshold_level 33 level_length k.levels in
    omega (arith, length-append (flat_map threshold_level k.levels) (to_be_bytes w64 k.last), levels)

pub length_key : (k : Key) → length (key k) ≡ tree_length (key_tree k)
unfolding key
length_key (Point k) = omega (arith, point_length k)
length_key (Threshold k) = omega (arith, threshold_length k)

pub length_keys : (ks : List Key) → length (flat_map key ks) ≡ sum_by (λ k. tree_length (key_tree k)) ks
length_keys ks = length-flat_map key ks ∙ λ i. sum_by (λ k. length_key k i) ks

pub key_short : (k : Key) → KeyFits k → length (key k) ≤ 4250
key_short (Point k) f = omega (arith, length_key (Point k), f.0.count)
key_short (Threshold k) f = omega (arith, length_key (Threshold k), f.0.count)
