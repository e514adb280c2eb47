-- The fields of an answer frame are spelled so.
use Rattle.std.proofs.Common.{◌≡◌, ℕ, ◌^◌, ◌<◌, List, [], ◌∷◌, ◌++◌, length, Result, Ok, Err, refl, sym, ap, ◌∙◌, arith}
use Rattle.std.specs.Prelude.{◌↔◌, codes, IfOk}
use Rattle.std.specs.List.{flat_map}
use Rattle.std.specs.Int.{w8, w32, w64, w128, to_be_bytes}
use Rattle.std.proofs.lemmas.List.{append-nil, append_assoc, length-append}
use Rattle.frame_fields.specs.Typed.{IsBytes}
use Rattle.spl_words.specs.declared.fault.FrameFault.{FrameFault}
use Rattle.spl_words.specs.Results.{Gives}
use Rattle.spl_words.specs.declared.fault.FrameFault.TheVariants.{OutOfMemory}
use Rattle.frame_fields.specs.Reading.{frame_at, take_at, number_at, magic_at, version_at, within_at, provider_at, many_at}
use Rattle.frame_fields.proofs.Laws.{IsField, Any, and_then, done_field, restate_field, chunk_field, number_field, magic_field, version_field, within_field, provider_field, many_field, length_of_parts, length-sealed, frame_law, frame_only, reader_found, reader_only, no_prefix, wide8, wide32, wide64}
use Rattle.frame_fields.proofs.Wide.{wide128}
use Rattle.answer_frames.specs.declared.answer.AnswerFrame.{AnswerFrame}
use Rattle.answer_frames.specs.Reading.{fields_at}
use Rattle.answer_frames.specs.Spelling.{answer_length, body, spelling, Allowed, Typed, AnswerOf}

pub fields_field : IsField fields_at Any (λ f. Allowed f × Typed f) body
unfolding fields_at
fields_field =
    restate_field _ _ _ _ Any (λ f. Allowed f × Typed f) body
    (λ x f k. (tt, (record { round = f.1.1.0.0; round_end = f.1.1.0.1; some = f.1.1.1.1.1.1.1.0.0; count = f.1.1.1.1.1.1.1.0.1 }, record { session = f.1.1.1.1.0; key = f.1.1.1.1.1.0; table = f.1.1.1.1.1.1.0; words = f.1.1.1.1.1.1.1.1.0 })))
    (λ x k f. (tt, (tt, (tt, ((f.0.round, f.0.round_end), (tt, (f.1.session, (f.1.key, (f.1.table, ((f.0.some, f.0.count), (f.1.words, tt)))))))))))
    (λ f. simp (append-nil, append_assoc) refl) (
    and_then (λ f. tt) (magic_at (codes "SPLA")) _ Any Any Any (λ x. codes "SPLA") _ _ (λ y k. tt) (magic_field (codes "SPLA")) (λ m mk.
    and_then (λ f. tt) (version_at 1) _ _ Any Any (λ x. 1 ∷ []) _ _ (λ y k. tt) (version_field 1 (omega arith)) (λ v vk.
    and_then (λ f. f.round) (within_at w8 1 2) _ _ Any _ (to_be_bytes w8) _ _ (λ y k. tt) (within_field w8 (2 ^ 8) 1 2 wide8 (omega arith)) (λ r rk.
    and_then (λ f. f.provider) provider_at _ _ Any Any _ _ _ (λ y k. tt) provider_field (λ o ok.
    and_then (λ f. f.session) (number_at w128) _ _ Any _ (to_be_bytes w128) _ _ (λ y k. tt) (number_field w128 (2 ^ 128) wide128) (λ s sk.
    and_then (λ f. f.key) (take_at 32) _ _ Any _ _ _ _ (λ y k. tt) (chunk_field 32) (λ k kk.
    and_then (λ f. f.table) (take_at 32) _ _ Any _ _ _ _ (λ y k. tt) (chunk_field 32) (λ t tk.
    and_then (λ f. length f.words) (within_at w32 1 65536) _ _ Any _ (to_be_bytes w32) _ _ (λ y k. tt) (within_field w32 (2 ^ 32) 1 65536 wide32 (omega arith)) (λ n nk.
    and_then (λ f. f.words) (many_at (number_at w64) n) _ _ _ _ _ _ _ (λ y k. k.1) (many_field (number_at w64) (λ w. w < 2 ^ 64) (to_be_bytes w64) n (number_field w64 (2 ^ 64) wide64)) (λ w wk.
    done_field (record { session = s; round = r; provider = o; key = k; table = t; words = w }) _
    (((((((((tt, refl), refl), refl), refl), refl), refl), refl), wk.0), refl)
    (λ y e. λ i. record { session = e.0.0.0.0.1 i; round = e.0.0.0.0.0.0.1 i; provider = e.0.0.0.0.0.1 i; key = e.0.0.0.1 i; table = e.0.0.1 i; words = e.1 i })))))))))))

pub length-spelling : (f : AnswerFrame) → Typed f → length (spelling f) ≡ answer_length f
length-spelling f t =
    let words = length_of_parts (to_be_bytes w64) 8 (λ w. refl) f.words in
    let count = to_be_bytes w32 (length f.words) in
    omega (arith, length-sealed (body f), length-append (f.key ++ (f.table ++ count)) (flat_map (to_be_bytes w64) f.words), length-append f.key (f.table ++ count), length-append f.table count, words, t.key.0, t.table.0)

pub answer_law : (bytes : List ℕ) (f : AnswerFrame) → IsBytes bytes → (frame_at fields_at bytes ≡ Ok f) ↔ AnswerOf bytes f
answer_law bytes f are =
    let law = frame_law fields_at (λ f. Allowed f × Typed f) body fields_field (λ f t. omega (arith, length-spelling f t.1, t.0.count)) bytes f are in
    (λ e. let h = law.0 e in record { allowed = h.0.0; typed = h.0.1; spelled = h.1 }, λ of. law.1 ((of.allowed, of.typed), of.spelled))

-- from the bytes that spell a frame it is read
pub answer_read : (bytes : List ℕ) (f : AnswerFrame) → AnswerOf bytes f → frame_at fields_at bytes ≡ Ok f
answer_read bytes f of =
    frame_only fields_at (λ f. Allowed f × Typed f) body fields_field bytes f (of.allowed, of.typed)
    (omega (arith, length-spelling f of.typed, of.allowed.count, ap length of.spelled)) of.spelled

pub length-answer : (bytes : List ℕ) (f : AnswerFrame) → AnswerOf bytes f → length bytes ≡ answer_length f
length-answer bytes f of = ap length of.spelled ∙ length-spelling f of.typed

pub is_found : (bytes : List ℕ) (r : Result AnswerFrame FrameFault) → IsBytes bytes → Gives OutOfMemory (λ x. x) r (frame_at fields_at bytes) → IfOk r (λ f. AnswerOf bytes f)
is_found bytes (Ok f) are given =
    let h = reader_found fields_at (λ f. Allowed f × Typed f) body fields_field bytes (Ok f) are given in
    record { allowed = h.0.0; typed = h.0.1; spelled = h.1 }
is_found bytes (Err e) are given = tt

pub is_only : (bytes : List ℕ) (r : Result AnswerFrame FrameFault) → Gives OutOfMemory (λ x. x) r (frame_at fields_at bytes) → (f : AnswerFrame) → AnswerOf bytes f → Gives OutOfMemory (λ x. x) r (Ok f)
is_only bytes r given f of =
    reader_only fields_at (λ f. Allowed f × Typed f) body fields_field bytes r given f (of.allowed, of.typed) (omega (arith, length-spelling f of.typed, of.allowed.count)) of.spelled

pub none_is_prefix : (b1 b2 more : List ℕ) (f g : AnswerFrame) → AnswerOf b1 f → AnswerOf b2 g → b1 ++ more ≡ b2 → (f ≡ g) × (more ≡ [])
none_is_prefix b1 b2 more f g a b e =
    no_prefix fields_at (λ f. Allowed f × Typed f) body fields_field f g more (a.allowed, a.typed) (b.allowed, b.typed) (ap (λ (t : List ℕ). t ++ more) (sym a.spelled) ∙ e ∙ b.spelled)
