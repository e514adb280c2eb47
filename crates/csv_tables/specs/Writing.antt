-- The text of a table.
use Rattle.std.specs.Prelude.{◌≡◌, ℕ, List, [], ◌∷◌, ◌++◌, map, Ok}
use Rattle.csv.specs.Writing.{default_writer, row_text}
use Rattle.sha2.specs.Sha256.{sha256}
use Rattle.spl_values.specs.CellTexts.{text_of_value}
use Rattle.spl_values.specs.Shapes.{ColumnParts, names_of}
use Rattle.spl_values.specs.ShapeTexts.{shape_text}
use Rattle.spl_values.specs.Tables.{TableParts, IsTable}
use Rattle.spl_values.specs.declared.values.Value.{Value}
use Rattle.csv_tables.specs.Reading.{table_of_text}

-- the fields of a row
unfoldable pub fields_of_row : List ColumnParts → List Value → List (List ℕ)
fields_of_row (c ∷ cs) (v ∷ vs) = text_of_value c.kind v ∷ fields_of_row cs vs
fields_of_row _ _ = []

-- records one after another, as `csv` writes each
unfoldable pub records_text : List (List (List ℕ)) → List ℕ
records_text [] = []
records_text (fields ∷ rest) = row_text default_writer fields ++ records_text rest

-- the text of a table: a record of the column names, and one for each row
abbrev pub table_text : TableParts → List ℕ
table_text t = records_text (names_of t.shape.schema.columns ∷ map (fields_of_row t.shape.schema.columns) t.rows)

-- the digest of a table: that of its shape's canonical text and its own text
abbrev pub digest_of : TableParts → List ℕ
digest_of t = sha256 (shape_text t.shape ++ table_text t)

-- reading the text of a table gives its rows
abbrev pub WrittenTablesRead : Type 0
WrittenTablesRead = (t : TableParts) → IsTable t → table_of_text t.shape (table_text t) ≡ Ok t.rows
