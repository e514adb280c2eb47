-- Whole key frames are spelled so.
use Rattle.std.proofs.Common.{◌≡◌, ℕ, ◌^◌, ◌≤◌, List, [], ◌∷◌, ◌++◌, length, Result, Ok, Err, refl, sym, ap, ◌∙◌, arith}
use Rattle.std.specs.Prelude.{◌↔◌, codes, IfOk}
use Rattle.std.specs.List.{flat_map, AllByRecursion}
use Rattle.std.specs.Int.{w8, w16, w128, to_be_bytes}
use Rattle.std.proofs.lemmas.List.{append-nil, length-append}
use Rattle.spl_words.specs.declared.fault.FrameFault.{FrameFault}
use Rattle.spl_words.specs.Results.{Gives}
use Rattle.spl_words.specs.declared.fault.FrameFault.TheVariants.{OutOfMemory}
use Rattle.spl_values.specs.Shapes.{IsShape}
use Rattle.spl_values.specs.ShapeTexts.{shape_text}
use Rattle.frame_fields.specs.Typed.{IsBytes}
use Rattle.frame_fields.specs.Reading.{frame_at, sealed, number_at, magic_at, version_at, within_at, provider_at, many_at, text_at, decoded_at}
use Rattle.frame_fields.proofs.Laws.{IsField, Any, and_then, done_field, restate_field, number_field, magic_field, version_field, within_field, provider_field, text_field, decoded_field, many_field, length_of_parts_le, length-sealed, frame_law, frame_only, reader_found, reader_only, no_prefix, wide8, wide16}
use Rattle.frame_fields.proofs.Wide.{wide128}
use Rattle.key_frames.specs.declared.frame.KeyFrame.{KeyFrame}
use Rattle.key_frames.specs.declared.keys.Key.{Key}
use Rattle.key_frames.specs.Keys.{key, KeyAllowed, KeyTyped}
use Rattle.key_frames.specs.Texts.{is_bad, canonical_shape}
use Rattle.key_frames.specs.KeyReading.{key_at}
use Rattle.key_frames.specs.Frames.{frame_body, frame_length, FrameAllowed, FrameTyped, KeyFrameOf}
use Rattle.key_frames.specs.FrameReading.{frame_fields_at}
use Rattle.key_frames.proofs.KeyLaws.{KeyFits, key_field, length_keys, key_short}
use Rattle.key_frames.proofs.ShapeTextLaws.{shape_spelled, shape_decoded, shape_length, shape_fits}

-- keys that fit are allowed and typed, and the other way round
allowed_of : (ks : List Key) → AllByRecursion KeyFits ks → AllByRecursion KeyAllowed ks
allowed_of [] f = tt
allowed_of (k ∷ ks) f = (f.0.0, allowed_of ks f.1)

typed_of : (ks : List Key) → AllByRecursion KeyFits ks → AllByRecursion KeyTyped ks
typed_of [] f = tt
typed_of (k ∷ ks) f = (f.0.1, typed_of ks f.1)

both_of : (ks : List Key) → AllByRecursion KeyAllowed ks → AllByRecursion KeyTyped ks → AllByRecursion KeyFits ks
both_of [] a t = tt
both_of (k ∷ ks) a t = ((a.0, t.0), both_of ks a.1 t.1)

abbrev FrameFits : KeyFrame → Type 0
FrameFits f = FrameAllowed f × FrameTyped f

pub fields_field : IsField frame_fields_at Any FrameFits frame_body
unfolding frame_fields_at frame_body
fields_field =
    restate_field _ _ _ _ Any FrameFits frame_body
    (λ x f k. (
      tt,
      (
        record { round = f.1.1.0; query_length = f.1.1.1.1.1.0; query = f.1.1.1.1.1.1.0.1; count = f.1.1.1.1.1.1.1.1.1.0; keys = allowed_of x.keys f.1.1.1.1.1.1.1.1.1.1.0 },
        record { session = f.1.1.1.1.0; query = f.1.1.1.1.1.1.0.0; shape = f.1.1.1.1.1.1.1.1.0; keys = typed_of x.keys f.1.1.1.1.1.1.1.1.1.1.0 },
      ),
    ))
    (λ x k f. (tt, (tt, (tt, (f.0.round, (tt, (f.1.session, (f.0.query_length, ((f.1.query, f.0.query), (shape_fits x.shape f.1.shape, (f.1.shape, (f.0.count, (both_of x.keys f.0.keys f.1.keys, tt)))))))))))))
    (λ x. simp append-nil refl) (
    and_then (λ f. tt) (magic_at (codes "SPLK")) _ Any Any Any (λ x. codes "SPLK") _ _ (λ y k. tt) (magic_field (codes "SPLK")) (λ m mk.
    and_then (λ f. tt) (version_at 1) _ _ Any Any (λ x. 1 ∷ []) _ _ (λ y k. tt) (version_field 1 (omega arith)) (λ v vk.
    and_then (λ f. f.round) (within_at w8 1 2) _ _ Any _ _ _ _ (λ y k. tt) (within_field w8 (2 ^ 8) 1 2 wide8 (omega arith)) (λ r rk.
    and_then (λ f. f.provider) provider_at _ _ Any Any _ _ _ (λ y k. tt) provider_field (λ o ok.
    and_then (λ f. f.session) (number_at w128) _ _ Any _ _ _ _ (λ y k. tt) (number_field w128 (2 ^ 128) wide128) (λ s sk.
    and_then (λ f. length f.query) (within_at w16 1 4096) _ _ Any _ _ _ _ (λ y k. tt) (within_field w16 (2 ^ 16) 1 4096 wide16 (omega arith)) (λ a ak.
    and_then (λ f. f.query) (text_at is_bad a) _ _ _ _ _ _ _ (λ y k. k.1) (text_field is_bad a) (λ q qk.
    and_then (λ f. length (shape_text f.shape)) (within_at w16 1 65535) _ _ Any _ _ _ _ (λ y k. tt) (within_field w16 (2 ^ 16) 1 65535 wide16 (omega arith)) (λ b bk.
    and_then (λ f. f.shape) (decoded_at canonical_shape b) _ _ _ _ _ _ _ (λ y k. k.1) (decoded_field canonical_shape IsShape shape_text b (λ text x are e. shape_spelled text x e) shape_decoded) (λ h hk.
    and_then (λ f. length f.keys) (within_at w16 1 512) _ _ Any _ _ _ _ (λ y k. tt) (within_field w16 (2 ^ 16) 1 512 wide16 (omega arith)) (λ n nk.
    and_then (λ f. f.keys) (many_at key_at n) _ _ _ _ _ _ _ (λ y k. k.1) (many_field key_at KeyFits key n key_field) (λ ks kk.
    done_field (record { session = s; round = r; provider = o; query = q; shape = h; keys = ks }) _
    (((((((((((tt, refl), refl), refl), refl), refl), qk.0), refl), hk.0), refl), kk.0), refl)
    (λ y e. λ i. record { session = e.0.0.0.0.0.0.1 i; round = e.0.0.0.0.0.0.0.0.1 i; provider = e.0.0.0.0.0.0.0.1 i; query = e.0.0.0.0.1 i; shape = e.0.0.1 i; keys = e.1 i })))))))))))))

length_sealed_frame : (f : KeyFrame) → length (sealed (frame_body f)) ≡ frame_length f
unfolding frame_body
length_sealed_frame f =
    let rest = to_be_bytes w16 (length f.keys) ++ flat_map key f.keys in
    let shape = to_be_bytes w16 (length (shape_text f.shape)) ++ (shape_text f.shape ++ rest) in
    omega (arith, length-sealed (frame_body f), length-append f.query shape, length-append (shape_text f.shape) rest, length_keys f.keys)

frame_short : (f : KeyFrame) → FrameFits f → length (sealed (frame_body f)) ≤ 4194304
frame_short f t =
    let keys = length_of_parts_le KeyFits key 4250 key_short f.keys (both_of f.keys t.0.keys t.1.keys) in
    let text = shape_length f.shape t.1.shape in
    omega (arith, length_sealed_frame f, length_keys f.keys, keys, t.0.query_length.1, text.1, t.0.count.1)

-- the bytes that spell a frame are so many
pub frame_sized : (bytes : List ℕ) (f : KeyFrame) → KeyFrameOf bytes f → length bytes ≡ frame_length f
frame_sized bytes f of = ap length of.spelled ∙ length_sealed_frame f

pub frame_is_read : (bytes : List ℕ) (f : KeyFrame) → IsBytes bytes → (frame_at frame_fields_at bytes ≡ Ok f) ↔ KeyFrameOf bytes f
frame_is_read bytes f are =
    let law = frame_law frame_fields_at FrameFits frame_body fields_field frame_short bytes f are in
    (λ e. let h = law.0 e in record { allowed = h.0.0; typed = h.0.1; spelled = h.1 }, λ of. law.1 ((of.allowed, of.typed), of.spelled))

-- from the bytes that spell a frame it is read
pub frame_read : (bytes : List ℕ) (f : KeyFrame) → KeyFrameOf bytes f → frame_at frame_fields_at bytes ≡ Ok f
frame_read bytes f of = frame_only frame_fields_at FrameFits frame_body fields_field bytes f (of.allowed, of.typed) (omega (arith, frame_short f (of.allowed, of.typed), ap length of.spelled)) of.spelled

pub is_found : (bytes : List ℕ) (r : Result KeyFrame FrameFault) → IsBytes bytes → Gives OutOfMemory (λ x. x) r (frame_at frame_fields_at bytes) → IfOk r (λ f. KeyFrameOf bytes f)
is_found bytes (Ok f) are given =
    let h = reader_found frame_fields_at FrameFits frame_body fields_field bytes (Ok f) are given in
    record { allowed = h.0.0; typed = h.0.1; spelled = h.1 }
is_found bytes (Err e) are given = tt

pub is_only : (bytes : List ℕ) (r : Result KeyFrame FrameFault) → Gives OutOfMemory (λ x. x) r (frame_at frame_fields_at bytes) → (f : KeyFrame) → KeyFrameOf bytes f → Gives OutOfMemory (λ x. x) r (Ok f)
is_only bytes r given f of = reader_only frame_fields_at FrameFits frame_body fields_field bytes r given f (of.allowed, of.typed) (frame_short f (of.allowed, of.typed)) of.spelled

pub none_is_prefix : (b1 b2 more : List ℕ) (f g : KeyFrame) → KeyFrameOf b1 f → KeyFrameOf b2 g → b1 ++ more ≡ b2 → (f ≡ g) × (more ≡ [])
none_is_prefix b1 b2 more f g a b e =
    no_prefix frame_fields_at FrameFits frame_body fields_field f g more (a.allowed, a.typed) (b.allowed, b.typed) (ap (λ (t : List ℕ). t ++ more) (sym a.spelled) ∙ e ∙ b.spelled)
