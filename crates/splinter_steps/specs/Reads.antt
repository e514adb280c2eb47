-- What files give: bytes, a shape, and a table.
use Rattle.std.specs.Prelude.{ℕ, nat_le, List, length, Option, Some, None, Result, Ok, Err, if◌then◌else◌}
use Rattle.std.specs.FinMap.{get}
use Rattle.spl_outside.specs.Content.{FileMap}
use Rattle.spl_words.specs.Results.{◌>>=◌}
use Rattle.spl_values.specs.Shapes.{ShapeParts}
use Rattle.spl_values.specs.ShapeTexts.{shape_of}
use Rattle.spl_values.specs.Tables.{TableParts}
use Rattle.spl_values.specs.declared.values.Value.{Value}
use Rattle.spl_values.specs.declared.shape_reader.ShapeFault.{ShapeFault}
use Rattle.csv_tables.specs.Reading.{table_of_text}
use Rattle.csv_tables.specs.declared.fault.TableFault.{TableFault}
use Rattle.splinter_status.specs.declared.stops.Refusal.{Refusal}
use Rattle.splinter_status.specs.declared.stops.Refusal.TheVariants as refusal

-- ---- files

-- a file that is read has at most 67108864 bytes
abbrev pub file_limit : ℕ
file_limit = 67108864

-- the bytes of a name that may be held
abbrev pub bytes_of : List ℕ → Option (List ℕ) → Result (List ℕ) Refusal
bytes_of name None = Err (refusal.MissingFile name)
bytes_of name (Some bytes) = if nat_le (length bytes) file_limit then Ok bytes else Err (refusal.FileTooLong name)

-- a file that is read
abbrev pub file_of : FileMap → List ℕ → Result (List ℕ) Refusal
file_of files name = bytes_of name (get files name)

-- ---- shapes

-- a shape, or the refusal of a text that describes none
abbrev pub or_shape_refusal : Result ShapeParts ShapeFault → Result ShapeParts Refusal
or_shape_refusal (Ok shape) = Ok shape
or_shape_refusal (Err fault) = Err (refusal.Shape fault)

-- the shape that a file describes
unfoldable pub shape_in : FileMap → List ℕ → Result ShapeParts Refusal
shape_in files name = do
  text ← file_of files name
  or_shape_refusal (shape_of text)

-- ---- tables

-- a table, or the refusal of a text without rows of the shape
abbrev pub or_table_refusal : ShapeParts → Result (List (List Value)) TableFault → Result TableParts Refusal
or_table_refusal shape (Ok rows) = Ok (record { shape = shape; rows = rows })
or_table_refusal shape (Err fault) = Err (refusal.Table fault)

-- the table of a shape that a file has
unfoldable pub table_in : FileMap → List ℕ → ShapeParts → Result TableParts Refusal
table_in files name shape = do
  text ← file_of files name
  or_table_refusal shape (table_of_text shape text)
