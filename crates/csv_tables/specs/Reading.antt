-- The table that a text of comma-separated values has.
use Rattle.std.specs.Prelude.{◌≡◌, ◌↔◌, ℕ, ◌+◌, ◌-◌, ◌^◌, ◌==◌, min, List, [], ◌∷◌, ◌++◌, length, drop, slice_get, Some, if◌then◌else◌, Result, Ok, Err}
use Rattle.std.specs.List.{AllZip}
use Rattle.std.specs.Cmp.Lexicographic.{pointwise}
use Rattle.std.specs.Str.{bytes_eq}
use Rattle.csv.specs.Reading.{records, default_config, strip_bom}
use Rattle.spl_values.specs.CellTexts.{value_of_text}
use Rattle.spl_values.specs.Shapes.{ColumnParts, ShapeParts, names_of}
use Rattle.spl_values.specs.ShapeTexts.{result_and_then}
use Rattle.spl_values.specs.declared.values.Value.{Value}
use Rattle.spl_values.specs.declared.values.ValueFault.{ValueFault}
use Rattle.csv_tables.specs.declared.fault.TableFault.{TableFault}
use Rattle.csv_tables.specs.declared.fault.TableFault.TheVariants as fault

-- a row number, or the greatest of 32 bits where it is greater
abbrev pub row_number : ℕ → ℕ
row_number n = min n (2 ^ 32 - 1)

-- a value of a column, or the fault of its cell
abbrev pub cell_of : ℕ → ℕ → Result Value ValueFault → Result Value TableFault
cell_of row column (Ok v) = Ok v
cell_of row column (Err f) = Err (fault.BadCell (row_number row) column f)

-- the values of fields, from the column of that number on: one for each column, judged in order
unfoldable pub cells_of : ℕ → ℕ → List ColumnParts → List (List ℕ) → Result (List Value) TableFault
cells_of row column (c ∷ cs) (f ∷ fs) =
    result_and_then (λ v. result_and_then (λ vs. Ok (v ∷ vs)) (cells_of row (column + 1) cs fs)) (cell_of row column (value_of_text c.kind f))
cells_of row column _ _ = Ok []

-- the row of a record: as many fields as columns, and then each field a value
unfoldable pub row_of : ℕ → List ColumnParts → List (List ℕ) → Result (List Value) TableFault
row_of row columns fields = if length fields == length columns then cells_of row 0 columns fields else Err (fault.RowLength (row_number row))

-- the rows of records, judged in order, from the row of that number on
unfoldable pub rows_of : ℕ → List ColumnParts → List (List (List ℕ)) → Result (List (List Value)) TableFault
rows_of row columns [] = Ok []
rows_of row columns (fields ∷ rest) = result_and_then (λ values. result_and_then (λ rows. Ok (values ∷ rows)) (rows_of (row + 1) columns rest)) (row_of row columns fields)

-- rows, if there are as many as stated
abbrev pub if_count : ℕ → List (List Value) → Result (List (List Value)) TableFault
if_count stated rows = if length rows == stated then Ok rows else Err (fault.RowCount (length rows) stated)

-- the rows under a header: the first record is the column names, in order, and each later one is a row
unfoldable pub rows_under_header : List ColumnParts → List (List (List ℕ)) → Result (List (List Value)) TableFault
rows_under_header columns [] = Err fault.BadHeader
rows_under_header columns (header ∷ rest) = if pointwise bytes_eq header (names_of columns) then rows_of 0 columns rest else Err fault.BadHeader

-- the rows of a table of that shape
abbrev pub table_of : ShapeParts → List (List (List ℕ)) → Result (List (List Value)) TableFault
table_of shape records = result_and_then (if_count shape.rows) (rows_under_header shape.schema.columns records)

-- the records of a text, as `csv` defines them: each is a list of fields, and a byte order mark at the front is none of the text
unfoldable pub records_of : List ℕ → List (List (List ℕ))
records_of text = records default_config (strip_bom text)

-- the rows that a text has for a shape, or the first fault
abbrev pub table_of_text : ShapeParts → List ℕ → Result (List (List Value)) TableFault
table_of_text shape text = table_of shape (records_of text)

-- fields say a row: there is one field and one value for each column, and the column of each place reads the field there as the value there
pub record SaysRow (columns : List ColumnParts) (fields : List (List ℕ)) (row : List Value) : Type 0 where
  pub field_each : length fields ≡ length columns
  pub value_each : length row ≡ length columns
  pub reads : (i : ℕ) (c : ColumnParts) (f : List ℕ) (v : Value) → slice_get columns i ≡ Some c → slice_get fields i ≡ Some f → slice_get row i ≡ Some v → value_of_text c.kind f ≡ Ok v

-- a text says these rows for a shape: its first record is the column names, there are as many rows as stated, and behind the first there is one record for each row, which says it
pub record IsTableText (text : List ℕ) (shape : ShapeParts) (rows : List (List Value)) : Type 0 where
  pub header : slice_get (records_of text) 0 ≡ Some (names_of shape.schema.columns)
  pub count : length rows ≡ shape.rows
  pub row_each : AllZip (SaysRow shape.schema.columns) (drop 1 (records_of text)) rows

-- a text reads as rows exactly where it says them
abbrev pub TableTextsRead : Type 0
TableTextsRead = (text : List ℕ) (shape : ShapeParts) (rows : List (List Value)) → (table_of_text shape text ≡ Ok rows) ↔ IsTableText text shape rows

-- the values of rows, one after another
unfoldable pub joined : List (List Value) → List Value
joined [] = []
joined (row ∷ rows) = row ++ joined rows
