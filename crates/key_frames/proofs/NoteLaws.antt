-- Whole notes are spelled so.
use Rattle.std.proofs.Common.{◌≡◌, ℕ, zero, suc, ◌^◌, ◌<◌, ◌≤◌, true, List, [], ◌∷◌, ◌++◌, length, replicate, Result, Ok, Err, refl, sym, ap, subst, ◌∙◌, arith}
use Rattle.std.specs.Prelude.{◌↔◌, codes, IfOk}
use Rattle.std.specs.List.{flat_map}
use Rattle.std.specs.Int.{w8, w16, w128, to_be_bytes}
use Rattle.std.proofs.lemmas.List.{append-nil, length-append}
use Rattle.std.proofs.lemmas.Slice.Eq.{bytes_eq-Decides}
use Rattle.spl_words.specs.declared.fault.FrameFault.{FrameFault}
use Rattle.spl_words.specs.declared.fault.FrameFault.TheVariants.{BadField, OutOfMemory}
use Rattle.spl_words.specs.Results.{Gives}
use Rattle.spl_values.specs.Shapes.{IsShape}
use Rattle.spl_values.specs.ShapeTexts.{shape_text}
use Rattle.frame_fields.specs.Typed.{IsBytes}
use Rattle.frame_fields.specs.Reading.{frame_at, sealed, take_at, number_at, magic_at, version_at, within_at, many_at, text_at, decoded_at}
use Rattle.frame_fields.proofs.Laws.{IsField, Any, and_then, done_field, restate_field, test_field, chunk_field, number_field, magic_field, version_field, within_field, text_field, decoded_field, many_field, length_of_parts, length-sealed, frame_law, frame_only, reader_found, reader_only, no_prefix, wide8, wide16}
use Rattle.frame_fields.proofs.Wide.{wide128}
use Rattle.key_frames.specs.declared.note.Note.{Note}
use Rattle.key_frames.specs.Texts.{is_bad, canonical_shape}
use Rattle.key_frames.specs.Notes.{note_body, note_length, NoteAllowed, NoteTyped, NoteOf}
use Rattle.key_frames.specs.NoteReading.{is_table, table_at, note_fields_at}
use Rattle.key_frames.proofs.ShapeTextLaws.{shape_spelled, shape_decoded, shape_length, shape_fits}

-- in round 1 the test of a table's digest is passed by zeros alone, in round 2 by each
zeros_of : (round : ℕ) (digest : List ℕ) → is_table round digest ≡ true → round ≡ 1 → digest ≡ replicate 32 0
zeros_of zero digest e one = absurd (omega (arith, one))
zeros_of (suc zero) digest e one = (bytes_eq-Decides digest (replicate 32 0)).0 e
zeros_of (suc (suc n)) digest e one = absurd (omega (arith, one))

is_table_of : (round : ℕ) (digest : List ℕ) → round ≤ 2 → 1 ≤ round → (round ≡ 1 → digest ≡ replicate 32 0) → is_table round digest ≡ true
is_table_of zero digest le some zeros = absurd (omega (arith, some))
is_table_of (suc zero) digest le some zeros = (bytes_eq-Decides digest (replicate 32 0)).1 (zeros refl)
is_table_of (suc (suc zero)) digest le some zeros = refl
is_table_of (suc (suc (suc n))) digest le some zeros = absurd (omega (arith, le))

table_field : (round : ℕ) → IsField (table_at round) Any (λ t. ((length t ≡ 32) × IsBytes t) × (is_table round t ≡ true)) (λ t. t)
unfolding table_at
table_field round = test_field (take_at 32) Any (λ t. (length t ≡ 32) × IsBytes t) (λ t. t) (is_table round) (λ p t. BadField p.at) (chunk_field 32)

-- the digest of a note's table fits its round
abbrev TableFits : Note → Type 0
TableFits n = ((length n.table ≡ 32) × IsBytes n.table) × (is_table n.round n.table ≡ true)

abbrev NoteFits : Note → Type 0
NoteFits n = NoteAllowed n × NoteTyped n

pub note_field : IsField note_fields_at Any NoteFits note_body
unfolding note_fields_at note_body
note_field =
    restate_field _ _ _ _ Any NoteFits note_body
    (λ x f k. (
      tt,
      (
        record { round = f.1.1.0; query_length = f.1.1.1.1.0; query = f.1.1.1.1.1.0.1; count = f.1.1.1.1.1.1.1.1.0; table = zeros_of x.round x.table f.1.1.1.1.1.1.1.1.1.1.1.1.0.1 },
        record { session = f.1.1.1.0; query = f.1.1.1.1.1.0.0; shape = f.1.1.1.1.1.1.1.0; params = f.1.1.1.1.1.1.1.1.1.0; key_zero = f.1.1.1.1.1.1.1.1.1.1.0; key_one = f.1.1.1.1.1.1.1.1.1.1.1.0; table = f.1.1.1.1.1.1.1.1.1.1.1.1.0.0 },
      ),
    ))
    (λ x k f. (tt, (tt, (tt, (f.0.round, (f.1.session, (f.0.query_length, ((f.1.query, f.0.query), (shape_fits x.shape f.1.shape, (f.1.shape, (f.0.count, (f.1.params, (f.1.key_zero, (f.1.key_one, ((f.1.table, is_table_of x.round x.table f.0.round.1 f.0.round.0 f.0.table), tt)))))))))))))))
    (λ x. simp append-nil refl) (
    and_then (λ f. tt) (magic_at (codes "SPLN")) _ Any Any Any (λ x. codes "SPLN") _ _ (λ y k. tt) (magic_field (codes "SPLN")) (λ m mk.
    and_then (λ f. tt) (version_at 1) _ _ Any Any (λ x. 1 ∷ []) _ _ (λ y k. tt) (version_field 1 (omega arith)) (λ v vk.
    and_then (λ f. f.round) (within_at w8 1 2) _ _ Any _ _ _ _ (λ y k. tt) (within_field w8 (2 ^ 8) 1 2 wide8 (omega arith)) (λ r rk.
    and_then (λ f. f.session) (number_at w128) _ _ Any _ _ _ _ (λ y k. tt) (number_field w128 (2 ^ 128) wide128) (λ s sk.
    and_then (λ f. length f.query) (within_at w16 1 4096) _ _ Any _ _ _ _ (λ y k. tt) (within_field w16 (2 ^ 16) 1 4096 wide16 (omega arith)) (λ a ak.
    and_then (λ f. f.query) (text_at is_bad a) _ _ _ _ _ _ _ (λ y k. k.1) (text_field is_bad a) (λ q qk.
    and_then (λ f. length (shape_text f.shape)) (within_at w16 1 65535) _ _ Any _ _ _ _ (λ y k. tt) (within_field w16 (2 ^ 16) 1 65535 wide16 (omega arith)) (λ b bk.
    and_then (λ f. f.shape) (decoded_at canonical_shape b) _ _ _ _ _ _ _ (λ y k. k.1) (decoded_field canonical_shape IsShape shape_text b (λ text x are e. shape_spelled text x e) shape_decoded) (λ h hk.
    and_then (λ f. length f.params) (within_at w8 1 255) _ _ Any _ _ _ _ (λ y k. tt) (within_field w8 (2 ^ 8) 1 255 wide8 (omega arith)) (λ n nk.
    and_then (λ f. f.params) (many_at (number_at w128) n) _ _ _ _ _ _ _ (λ y k. k.1) (many_field (number_at w128) (λ w. w < 2 ^ 128) (to_be_bytes w128) n (number_field w128 (2 ^ 128) wide128)) (λ ps psk.
    and_then (λ f. f.key_zero) (take_at 32) _ _ Any _ _ _ _ (λ y k. tt) (chunk_field 32) (λ z zk.
    and_then (λ f. f.key_one) (take_at 32) _ _ Any _ _ _ _ (λ y k. tt) (chunk_field 32) (λ o ok.
    restate_field _ _ _ _ _ (λ y. TableFits y × Unit {0}) (λ y. y.table ++ [])
    (λ x f k. (k, ((f.0.0, subst (λ (d : ℕ). is_table d x.table ≡ true) (sym k.0.0.0.0.0.0.0.0.0.1) f.0.1), tt)))
    (λ x k f. (k, ((f.0.0, subst (λ (d : ℕ). is_table d x.table ≡ true) k.0.0.0.0.0.0.0.0.0.1 f.0.1), tt)))
    (λ x. refl) (
    and_then (λ f. f.table) (table_at r) _ _ Any _ _ _ _ (λ y k. tt) (table_field r) (λ t tk.
    done_field (record { session = s; round = r; query = q; shape = h; params = ps; key_zero = z; key_one = o; table = t }) _
    (((((((((((((tt, refl), refl), refl), refl), qk.0), refl), hk.0), refl), psk.0), refl), refl), refl), refl)
    (λ y e. λ i. record { session = e.0.0.0.0.0.0.0.0.0.1 i; round = e.0.0.0.0.0.0.0.0.0.0.1 i; query = e.0.0.0.0.0.0.0.1 i; shape = e.0.0.0.0.0.1 i; params = e.0.0.0.1 i; key_zero = e.0.0.1 i; key_one = e.0.1 i; table = e.1 i }))))))))))))))))

length_sealed_note : (f : Note) → NoteTyped f → length (sealed (note_body f)) ≡ note_length f
unfolding note_body
length_sealed_note f t =
    let params = length_of_parts (to_be_bytes w128) 16 (λ n. refl) f.params in
    let digests = f.key_zero ++ (f.key_one ++ f.table) in
    let rest = to_be_bytes w8 (length f.params) ++ (flat_map (to_be_bytes w128) f.params ++ digests) in
    let shape = to_be_bytes w16 (length (shape_text f.shape)) ++ (shape_text f.shape ++ rest) in
    omega (arith, length-sealed (note_body f), length-append f.query shape, length-append (shape_text f.shape) rest, length-append (flat_map (to_be_bytes w128) f.params) digests, length-append f.key_zero (f.key_one ++ f.table), length-append f.key_one f.table, params, t.key_zero.0, t.key_one.0, t.table.0)

pub length-note : (f : Note) → NoteFits f → length (sealed (note_body f)) ≤ 4194304
length-note f t =
    let text = shape_length f.shape t.1.shape in
    omega (arith, length_sealed_note f t.1, t.0.query_length.1, text.1, t.0.count.1)

-- the bytes that spell a note are so many
pub note_sized : (bytes : List ℕ) (n : Note) → NoteOf bytes n → length bytes ≡ note_length n
note_sized bytes n of = ap length of.spelled ∙ length_sealed_note n of.typed

pub note_is_read : (bytes : List ℕ) (n : Note) → IsBytes bytes → (frame_at note_fields_at bytes ≡ Ok n) ↔ NoteOf bytes n
note_is_read bytes n are =
    let law = frame_law note_fields_at NoteFits note_body note_field length-note bytes n are in
    (λ e. let h = law.0 e in record { allowed = h.0.0; typed = h.0.1; spelled = h.1 }, λ of. law.1 ((of.allowed, of.typed), of.spelled))

-- from the bytes that spell a note it is read
pub note_read : (bytes : List ℕ) (n : Note) → NoteOf bytes n → frame_at note_fields_at bytes ≡ Ok n
note_read bytes n of = frame_only note_fields_at NoteFits note_body note_field bytes n (of.allowed, of.typed) (omega (arith, length-note n (of.allowed, of.typed), ap length of.spelled)) of.spelled

pub is_found : (bytes : List ℕ) (r : Result Note FrameFault) → IsBytes bytes → Gives OutOfMemory (λ x. x) r (frame_at note_fields_at bytes) → IfOk r (λ f. NoteOf bytes f)
is_found bytes (Ok f) are given =
    let h = reader_found note_fields_at NoteFits note_body note_field bytes (Ok f) are given in
    record { allowed = h.0.0; typed = h.0.1; spelled = h.1 }
is_found bytes (Err e) are given = tt

pub is_only : (bytes : List ℕ) (r : Result Note FrameFault) → Gives OutOfMemory (λ x. x) r (frame_at note_fields_at bytes) → (f : Note) → NoteOf bytes f → Gives OutOfMemory (λ x. x) r (Ok f)
is_only bytes r given f of = reader_only note_fields_at NoteFits note_body note_field bytes r given f (of.allowed, of.typed) (length-note f (of.allowed, of.typed)) of.spelled

pub none_is_prefix : (b1 b2 more : List ℕ) (f g : Note) → NoteOf b1 f → NoteOf b2 g → b1 ++ more ≡ b2 → (f ≡ g) × (more ≡ [])
none_is_prefix b1 b2 more f g a b e =
    no_prefix note_fields_at NoteFits note_body note_field f g more (a.allowed, a.typed) (b.allowed, b.typed) (ap (λ (t : List ℕ). t ++ more) (sym a.spelled) ∙ e ∙ b.spelled)
