-- The one spelling of a key frame.
use Rattle.std.specs.Prelude.{◌≡◌, ℕ, ◌+◌, ◌<◌, ◌≤◌, ◌^◌, List, ◌∷◌, ◌++◌, length, codes, None}
use Rattle.std.specs.List.{flat_map, sum_by, AllByRecursion, position}
use Rattle.std.specs.Int.{w8, w16, w128, to_be_bytes}
use Rattle.spl_values.specs.Shapes.{IsShape}
use Rattle.spl_values.specs.ShapeTexts.{shape_text}
use Rattle.frame_fields.specs.Typed.{IsBytes}
use Rattle.frame_fields.specs.Reading.{provider_byte, sealed}
use Rattle.key_frames.specs.declared.frame.KeyFrame.{KeyFrame}
use Rattle.key_frames.specs.Trees.{key_tree, tree_length}
use Rattle.key_frames.specs.Keys.{key, KeyAllowed, KeyTyped}
use Rattle.key_frames.specs.Texts.{is_bad}

-- the fields before the digest
unfoldable pub frame_body : KeyFrame → List ℕ
frame_body f =
    codes "SPLK" ++ (1 ∷ (to_be_bytes w8 f.round ++ (provider_byte f.provider ∷ (to_be_bytes w128 f.session
    ++ (to_be_bytes w16 (length f.query) ++ (f.query
    ++ (to_be_bytes w16 (length (shape_text f.shape)) ++ (shape_text f.shape
    ++ (to_be_bytes w16 (length f.keys) ++ flat_map key f.keys)))))))))

-- the number of its bytes
abbrev pub frame_length : KeyFrame → ℕ
frame_length f = 61 + length f.query + length (shape_text f.shape) + sum_by (λ k. tree_length (key_tree k)) f.keys

-- the values that a frame may have
pub record FrameAllowed (f : KeyFrame) : Type 0 where
  pub round : (1 ≤ f.round) × (f.round ≤ 2)
  pub query_length : (1 ≤ length f.query) × (length f.query ≤ 4096)
  pub query : position is_bad f.query ≡ None
  pub count : (1 ≤ length f.keys) × (length f.keys ≤ 512)
  pub keys : AllByRecursion KeyAllowed f.keys

-- what the types of its fields say
pub record FrameTyped (f : KeyFrame) : Type 0 where
  pub session : f.session < 2 ^ 128
  pub query : IsBytes f.query
  pub shape : IsShape f.shape
  pub keys : AllByRecursion KeyTyped f.keys

-- the bytes are the frame's
pub record KeyFrameOf (bytes : List ℕ) (f : KeyFrame) : Type 0 where
  pub allowed : FrameAllowed f
  pub typed : FrameTyped f
  pub spelled : bytes ≡ sealed (frame_body f)
