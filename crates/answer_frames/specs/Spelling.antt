-- The one spelling of an answer frame.
use Rattle.std.specs.Prelude.{◌≡◌, ℕ, ◌+◌, ◌*◌, ◌<◌, ◌≤◌, ◌^◌, List, ◌∷◌, ◌++◌, length, codes}
use Rattle.std.specs.List.{flat_map, AllByRecursion}
use Rattle.std.specs.Int.{w8, w32, w64, w128, to_be_bytes}
use Rattle.frame_fields.specs.Typed.{IsBytes}
use Rattle.frame_fields.specs.Reading.{provider_byte, sealed}
use Rattle.answer_frames.specs.declared.answer.AnswerFrame.{AnswerFrame}

-- the fields before the words
abbrev pub head : AnswerFrame → List ℕ
head f = codes "SPLA" ++ (1 ∷ (to_be_bytes w8 f.round ++ (provider_byte f.provider ∷ (to_be_bytes w128 f.session ++ (f.key ++ (f.table ++ to_be_bytes w32 (length f.words)))))))

-- the fields before the digest
abbrev pub body : AnswerFrame → List ℕ
body f = head f ++ flat_map (to_be_bytes w64) f.words

-- the fields and their digest
abbrev pub spelling : AnswerFrame → List ℕ
spelling f = sealed (body f)

-- the number of its bytes
abbrev pub answer_length : AnswerFrame → ℕ
answer_length f = 123 + 8 * length f.words

-- the values that a frame may have
pub record Allowed (f : AnswerFrame) : Type 0 where
  pub round : 1 ≤ f.round
  pub round_end : f.round ≤ 2
  pub some : 1 ≤ length f.words
  pub count : length f.words ≤ 65536

-- what the types of its fields say
pub record Typed (f : AnswerFrame) : Type 0 where
  pub session : f.session < 2 ^ 128
  pub key : (length f.key ≡ 32) × IsBytes f.key
  pub table : (length f.table ≡ 32) × IsBytes f.table
  pub words : AllByRecursion (λ w. w < 2 ^ 64) f.words

-- the bytes are the frame's
pub record AnswerOf (bytes : List ℕ) (f : AnswerFrame) : Type 0 where
  pub allowed : Allowed f
  pub typed : Typed f
  pub spelled : bytes ≡ spelling f
