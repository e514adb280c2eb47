-- Laws of codes, of texts and of keys.
use Rattle.std.specs.Prelude.{◌≡◌, ◌↔◌, ◌^◌, ◌<◌, ℕ, List, Ok, IsTrue}
use Rattle.spl_values.specs.Kinds.{is_kind, bits_of, Fits}
use Rattle.spl_values.specs.Codes.{code_of, IsBefore}
use Rattle.spl_values.specs.CellTexts.{value_of_text, text_of_value}
use Rattle.spl_values.specs.Shapes.{ShapeParts, IsShape}
use Rattle.spl_values.specs.ShapeTexts.{shape_text, shape_of, IsShapeText}
use Rattle.spl_values.specs.declared.kinds.ColumnType.{ColumnType}
use Rattle.spl_values.specs.declared.values.Value.{Value}

-- codes of different values differ
abbrev pub CodesDiffer : Type 0
CodesDiffer = (kind : ColumnType) (a b : Value) → IsTrue (is_kind kind) → Fits kind a → Fits kind b → code_of kind a ≡ code_of kind b → a ≡ b

-- a smaller value has a smaller code
abbrev pub CodesKeepOrder : Type 0
CodesKeepOrder = (kind : ColumnType) (a b : Value) → IsTrue (is_kind kind) → Fits kind a → Fits kind b → IsBefore kind a b → code_of kind a < code_of kind b

-- a code has no more than its column's bits
abbrev pub CodesAreBelow : Type 0
CodesAreBelow = (kind : ColumnType) (a : Value) → IsTrue (is_kind kind) → Fits kind a → code_of kind a < 2 ^ bits_of kind

-- a column reads a printed value as that value
abbrev pub PrintedValuesRead : Type 0
PrintedValuesRead = (kind : ColumnType) (v : Value) → IsTrue (is_kind kind) → Fits kind v → value_of_text kind (text_of_value kind v) ≡ Ok v

-- the printed text of a shape reads as that shape
abbrev pub PrintedShapesRead : Type 0
PrintedShapesRead = (s : ShapeParts) → IsShape s → shape_of (shape_text s) ≡ Ok s

-- a text reads as a shape exactly where it describes it
abbrev pub ShapeTextsRead : Type 0
ShapeTextsRead = (text : List ℕ) (s : ShapeParts) → (shape_of text ≡ Ok s) ↔ IsShapeText text s
