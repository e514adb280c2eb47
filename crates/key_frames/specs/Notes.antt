-- The one spelling of a note.
use Rattle.std.specs.Prelude.{◌≡◌, ℕ, ◌+◌, ◌*◌, ◌<◌, ◌≤◌, ◌^◌, List, ◌∷◌, ◌++◌, length, replicate, codes, None}
use Rattle.std.specs.List.{flat_map, AllByRecursion, position}
use Rattle.std.specs.Int.{w8, w16, w128, to_be_bytes}
use Rattle.spl_values.specs.Shapes.{IsShape}
use Rattle.spl_values.specs.ShapeTexts.{shape_text}
use Rattle.frame_fields.specs.Typed.{IsBytes}
use Rattle.frame_fields.specs.Reading.{sealed}
use Rattle.key_frames.specs.declared.note.Note.{Note}
use Rattle.key_frames.specs.Texts.{is_bad}

-- the fields before the digest
unfoldable pub note_body : Note → List ℕ
note_body n =
    codes "SPLN" ++ (1 ∷ (to_be_bytes w8 n.round ++ (to_be_bytes w128 n.session
    ++ (to_be_bytes w16 (length n.query) ++ (n.query
    ++ (to_be_bytes w16 (length (shape_text n.shape)) ++ (shape_text n.shape
    ++ (to_be_bytes w8 (length n.params) ++ (flat_map (to_be_bytes w128) n.params
    ++ (n.key_zero ++ (n.key_one ++ n.table)))))))))))

-- the number of its bytes
abbrev pub note_length : Note → ℕ
note_length n = 155 + length n.query + length (shape_text n.shape) + 16 * length n.params

-- the values that a note may have; in round 1 no table is known yet, and its digest is 32 zeros
pub record NoteAllowed (n : Note) : Type 0 where
  pub round : (1 ≤ n.round) × (n.round ≤ 2)
  pub query_length : (1 ≤ length n.query) × (length n.query ≤ 4096)
  pub query : position is_bad n.query ≡ None
  pub count : (1 ≤ length n.params) × (length n.params ≤ 255)
  pub table : n.round ≡ 1 → n.table ≡ replicate 32 0

-- what the types of its fields say
pub record NoteTyped (n : Note) : Type 0 where
  pub session : n.session < 2 ^ 128
  pub query : IsBytes n.query
  pub shape : IsShape n.shape
  pub params : AllByRecursion (λ c. c < 2 ^ 128) n.params
  pub key_zero : (length n.key_zero ≡ 32) × IsBytes n.key_zero
  pub key_one : (length n.key_one ≡ 32) × IsBytes n.key_one
  pub table : (length n.table ≡ 32) × IsBytes n.table

-- the bytes are the note's
pub record NoteOf (bytes : List ℕ) (n : Note) : Type 0 where
  pub allowed : NoteAllowed n
  pub typed : NoteTyped n
  pub spelled : bytes ≡ sealed (note_body n)
