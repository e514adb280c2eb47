-- The text that describes a shape, and what a text describes.
use Rattle.std.specs.Prelude.{◌≡◌, ℕ, ◌+◌, ◌-◌, ◌==◌, ◌&&◌, ◌||◌, not, nat_le, List, [], ◌∷◌, ◌++◌, length, map, take, drop, slice_index, codes, if◌then◌else◌, Option, Some, None, Result, Ok, Err, option_map, option_and_then}
use Rattle.std.specs.Fmt.{decimal}
use Rattle.std.specs.List.{list_any, join_with_byte, slice_split, before_first, after_first}
use Rattle.std.specs.Option.{option_map_or}
use Rattle.std.specs.Str.{bytes_eq}
use Rattle.std.specs.Str.Lines.{lines}
use Rattle.std.specs.Str.Parse.{digits_value}
use Rattle.spl_values.specs.Names.{is_name}
use Rattle.spl_values.specs.Kinds.{is_kind}
use Rattle.spl_values.specs.Shapes.{ColumnParts, ShapeParts, IsShape}
use Rattle.spl_values.specs.CellTexts.{is_number}
use Rattle.spl_values.specs.declared.kinds.ColumnType.{ColumnType}
use Rattle.spl_values.specs.declared.kinds.ColumnType.TheVariants.{Uint, Text, Enum}
use Rattle.spl_values.specs.declared.shape_reader.ShapeFault.{ShapeFault}
use Rattle.spl_values.specs.declared.shape_reader.ShapeFault.TheVariants as fault

-- the word that begins a type
abbrev pub kind_word : ColumnType → List ℕ
kind_word (Uint b) = codes "UINT("
kind_word (Text k) = codes "TEXT("
kind_word (Enum labels) = codes "ENUM("

-- what stands between the parentheses of a type: a number, or labels with a bar between two of them
abbrev pub kind_inside : ColumnType → List ℕ
kind_inside (Uint b) = decimal b
kind_inside (Text k) = decimal k
kind_inside (Enum labels) = join_with_byte 124 labels

-- a type, as in UINT(8), TEXT(3) and ENUM(red|green)
unfoldable pub kind_text : ColumnType → List ℕ
kind_text kind = kind_word kind ++ kind_inside kind ++ codes ")"

-- the line of a column
abbrev pub column_line : ColumnParts → List ℕ
column_line c = c.name ++ 32 ∷ kind_text c.kind

-- the lines of a shape: the table, the rows, and each column
abbrev pub shape_lines : ShapeParts → List (List ℕ)
shape_lines s = (codes "table " ++ s.schema.table) ∷ (codes "rows " ++ decimal s.rows) ∷ map column_line s.schema.columns

-- lines, each with a line feed at its end
unfoldable pub text_of_lines : List (List ℕ) → List ℕ
text_of_lines [] = []
text_of_lines (l ∷ ls) = l ++ 10 ∷ text_of_lines ls

-- the one canonical text of a shape
abbrev pub shape_text : ShapeParts → List ℕ
shape_text s = text_of_lines (shape_lines s)

-- a text describes a shape where its lines are those of the shape; a line ends with a line feed, or with a
-- carriage return and one, and the last line may lack its end
pub record IsShapeText (text : List ℕ) (s : ShapeParts) : Type 0 where
  pub valid : IsShape s
  pub lines : lines text ≡ shape_lines s

-- what follows a prefix, in a text that begins with it
abbrev pub after_prefix : List ℕ → List ℕ → Option (List ℕ)
after_prefix prefix text = if bytes_eq (take (length prefix) text) prefix then Some (drop (length prefix) text) else None

-- a number in decimal, without leading zeros
unfoldable pub plain_number : List ℕ → Option ℕ
plain_number text =
    if is_number text && (not (slice_index text 0 == 48) || (length text == 1)) then Some (digits_value 10 text) else None

-- a type, if a column may have it
abbrev pub if_kind : ColumnType → Option ColumnType
if_kind kind = if is_kind kind then Some kind else None

-- what stands between a prefix and a closing parenthesis at the end
unfoldable pub between : List ℕ → List ℕ → Option (List ℕ)
between prefix text = option_and_then (λ rest. if slice_index rest (length rest - 1) == 41 then Some (take (length rest - 1) rest) else None) (after_prefix prefix text)

-- the type that a text spells
unfoldable pub kind_of_text : List ℕ → Option ColumnType
kind_of_text text =
    option_map_or (λ number. option_and_then (λ b. if_kind (Uint b)) (plain_number number)) (between (codes "UINT(") text)
    (option_map_or (λ number. option_and_then (λ k. if_kind (Text k)) (plain_number number)) (between (codes "TEXT(") text)
    (option_map_or (λ labels. if_kind (Enum (slice_split (λ b. b == 124) labels))) (between (codes "ENUM(") text) None))

-- what follows from a value, or the fault that came before it
abbrev pub result_and_then : {A B F : Type 0} → (A → Result B F) → Result A F → Result B F
result_and_then f (Ok a) = f a
result_and_then f (Err e) = Err e

-- the column of a line: its name up to the first space, and its type behind that
unfoldable pub column_of_line : List ℕ → Option ColumnParts
column_of_line line =
    if is_name (before_first (λ b. b == 32) line)
    then option_map (λ kind. record { name = before_first (λ b. b == 32) line; kind = kind }) (kind_of_text (after_first (λ b. b == 32) line))
    else None

-- a name, if that text may be one
abbrev pub if_name : List ℕ → Option (List ℕ)
if_name name = if is_name name then Some name else None

-- line 1: the table's name
unfoldable pub table_of_line : List ℕ → Result (List ℕ) ShapeFault
table_of_line line = option_map_or Ok (option_and_then if_name (after_prefix (codes "table ") line)) (Err (fault.BadLine 1))

-- a number of rows, if it isn't over the limit
abbrev pub if_rows : ℕ → Result ℕ ShapeFault
if_rows n = if nat_le n 262144 then Ok n else Err fault.TooManyRows

-- line 2: the number of rows
unfoldable pub rows_of_line : List ℕ → Result ℕ ShapeFault
rows_of_line line = option_map_or if_rows (option_and_then plain_number (after_prefix (codes "rows ") line)) (Err (fault.BadLine 2))

-- a column that comes behind others, on the line of that number: its name has to be a new one
abbrev pub added : ℕ → List ColumnParts → Option ColumnParts → Result (List ColumnParts) ShapeFault
added number before None = Err (fault.BadLine number)
added number before (Some c) = if list_any (λ d. bytes_eq c.name d.name) before then Err (fault.SameName number) else Ok (before ++ c ∷ [])

-- the column lines, judged one by one behind the columns that came before; the line behind n columns has number n + 3
unfoldable pub columns_of_lines : List ColumnParts → List (List ℕ) → Result (List ColumnParts) ShapeFault
columns_of_lines before [] = if length before == 0 then Err (fault.BadLine 3) else Ok before
columns_of_lines before (line ∷ rest) =
    if length before == 24
    then Err (fault.TooManyColumns 27)
    else result_and_then (λ columns. columns_of_lines columns rest) (added (length before + 3) before (column_of_line line))

-- what the lines say: they are judged from the top, and the first at fault decides
unfoldable pub shape_of_lines : List (List ℕ) → Result ShapeParts ShapeFault
shape_of_lines [] = Err (fault.BadLine 1)
shape_of_lines (first ∷ []) = result_and_then (λ _. Err (fault.BadLine 2)) (table_of_line first)
shape_of_lines (first ∷ second ∷ rest) =
    result_and_then (λ table. result_and_then (λ rows. result_and_then (λ columns. Ok (record { schema = record { table = table; columns = columns }; rows = rows })) (columns_of_lines [] rest)) (rows_of_line second)) (table_of_line first)

-- the shape that a text describes, or why it describes none
abbrev pub shape_of : List ℕ → Result ShapeParts ShapeFault
shape_of text = shape_of_lines (lines text)
