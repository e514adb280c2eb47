-- The lines and the numbers of statuses.
use Rattle.std.specs.Prelude.{ℕ, List, [], ◌++◌, codes}
use Rattle.std.specs.Fmt.{decimal}
use Rattle.std.specs.Int.{w128, to_be_bytes}
use Rattle.hex.specs.Hex.{encode_lower}
use Rattle.spl_words.specs.declared.provider.Provider.{Provider}
use Rattle.spl_words.specs.declared.provider.Provider.TheVariants.{Zero, One}
use Rattle.spl_words.specs.declared.fault.FrameFault.{FrameFault}
use Rattle.spl_words.specs.declared.fault.FrameFault.TheVariants as frame
use Rattle.spl_words.specs.declared.differ.Differ.{Differ}
use Rattle.spl_words.specs.declared.differ.Differ.TheVariants as differ
use Rattle.spl_values.specs.declared.shape_reader.ShapeFault.{ShapeFault}
use Rattle.spl_values.specs.declared.shape_reader.ShapeFault.TheVariants as shape
use Rattle.spl_values.specs.declared.values.ValueFault.{ValueFault}
use Rattle.spl_values.specs.declared.values.ValueFault.TheVariants as value
use Rattle.query_parser.specs.declared.fault.QueryFault.{QueryFault}
use Rattle.query_parser.specs.declared.fault.QueryFault.TheVariants as query
use Rattle.query_reader.specs.declared.params.ParamFault.{ParamFault}
use Rattle.query_reader.specs.declared.params.ParamFault.TheVariants as param
use Rattle.csv_tables.specs.declared.fault.TableFault.{TableFault}
use Rattle.csv_tables.specs.declared.fault.TableFault.TheVariants as table
use Rattle.sum_bounds.specs.declared.AtRow.{AtRow}
use Rattle.splinter_status.specs.declared.status.Status.{Status}
use Rattle.splinter_status.specs.declared.status.Status.TheVariants as status
use Rattle.splinter_status.specs.declared.status.Part.{Part}
use Rattle.splinter_status.specs.declared.status.Part.TheVariants as part

-- the name of a part
abbrev pub part_text : Part → List ℕ
part_text part.Table = codes "table"
part_text part.Shape = codes "shape"
part_text part.Query = codes "query"
part_text part.Parameter = codes "parameter"
part_text part.Plan = codes "plan"

-- why a query isn't read or accepted
abbrev pub query_fault_text : QueryFault → List ℕ
query_fault_text (query.NoReading at) = codes "no reading at " ++ decimal at
query_fault_text query.NoTable = codes "no table"
query_fault_text (query.NoColumn name) = codes "no column " ++ name
query_fault_text (query.WrongType name) = codes "wrong type of " ++ name
query_fault_text query.NoSecret = codes "no secret"
query_fault_text (query.BranchesDiffer branch) = codes "branch " ++ (decimal branch ++ codes " differs")
query_fault_text (query.TooWide bits) = decimal bits ++ codes " key bits"
query_fault_text (query.TooManyBranches branches) = decimal branches ++ codes " branches"
query_fault_text query.BadTopk = codes "bad TOPK"
query_fault_text (query.CellsTooWide words) = decimal words ++ codes " cell words"
query_fault_text (query.TooLong bytes) = decimal bytes ++ codes " bytes"
query_fault_text query.OutOfMemory = []

-- why a text describes no shape
abbrev pub shape_fault_text : ShapeFault → List ℕ
shape_fault_text (shape.BadLine n) = codes "line " ++ (decimal n ++ codes ": bad")
shape_fault_text (shape.SameName n) = codes "line " ++ (decimal n ++ codes ": same name")
shape_fault_text (shape.TooManyColumns n) = codes "line " ++ (decimal n ++ codes ": too many columns")
shape_fault_text shape.TooManyRows = codes "line 2: too many rows"
shape_fault_text shape.OutOfMemory = []

-- why a text is no value of a column
abbrev pub value_fault_text : ValueFault → List ℕ
value_fault_text value.NotANumber = codes "not a number"
value_fault_text value.TooLarge = codes "too large"
value_fault_text (value.TooLong n) = codes "too long"
value_fault_text (value.BadByte i) = codes "bad byte"
value_fault_text value.NoSuchLabel = codes "no such label"

-- why parameters are refused: their number, or the first that doesn't fit
abbrev pub param_fault_text : ParamFault → List ℕ
param_fault_text (param.Count needed had) = codes ": needed " ++ (decimal needed ++ (codes ", had " ++ decimal had))
param_fault_text (param.Value number fault) = codes " " ++ (decimal number ++ (codes ": " ++ value_fault_text fault))
param_fault_text (param.BadCode number) = codes " " ++ (decimal number ++ codes ": bad code")
param_fault_text param.OutOfMemory = []

-- why a text has no table of a shape
abbrev pub table_fault_text : TableFault → List ℕ
table_fault_text table.BadHeader = codes "bad header"
table_fault_text (table.RowLength row) = codes "row " ++ (decimal row ++ codes ": length")
table_fault_text (table.BadCell row column fault) = codes "row " ++ (decimal row ++ (codes ", column " ++ (decimal column ++ (codes ": " ++ value_fault_text fault))))
table_fault_text (table.RowCount found stated) = decimal found ++ (codes " rows, not " ++ decimal stated)
table_fault_text table.OutOfMemory = []

-- the number of a provider
abbrev pub provider_text : Provider → List ℕ
provider_text Zero = codes "0"
provider_text One = codes "1"

-- a session, in 32 hexadecimal digits
abbrev pub session_text : ℕ → List ℕ
session_text session = encode_lower (to_be_bytes w128 session)

-- why bytes are no frame; a digest stands in 64 hexadecimal digits
abbrev pub frame_fault_text : FrameFault → List ℕ
frame_fault_text (frame.Short needed had) = codes "short, needed " ++ (decimal needed ++ (codes ", had " ++ decimal had))
frame_fault_text frame.BadMagic = codes "bad magic"
frame_fault_text (frame.BadVersion version) = codes "bad version " ++ decimal version
frame_fault_text (frame.BadField at) = codes "bad field at " ++ decimal at
frame_fault_text frame.TooLarge = codes "too large"
frame_fault_text (frame.Trailing at) = codes "trailing at " ++ decimal at
frame_fault_text (frame.BadDigest stated computed) = codes "bad digest " ++ (encode_lower stated ++ (codes " " ++ encode_lower computed))
frame_fault_text frame.OutOfMemory = []

-- the first field that differs: what was wanted and then what was found, or Zero's and then One's
abbrev pub differ_text : Differ → List ℕ
differ_text (differ.Session wanted found) = codes "session " ++ (session_text wanted ++ (codes " " ++ session_text found))
differ_text (differ.Round wanted found) = codes "round " ++ (decimal wanted ++ (codes " " ++ decimal found))
differ_text (differ.Provider wanted found) = codes "provider " ++ (provider_text wanted ++ (codes " " ++ provider_text found))
differ_text (differ.Key p wanted found) = codes "key " ++ (provider_text p ++ (codes " " ++ (encode_lower wanted ++ (codes " " ++ encode_lower found))))
differ_text (differ.Table wanted found) = codes "table " ++ (encode_lower wanted ++ (codes " " ++ encode_lower found))
differ_text (differ.Words wanted found) = codes "words " ++ (decimal wanted ++ (codes " " ++ decimal found))
differ_text (differ.ShapeLine line) = codes "shape line " ++ decimal line
differ_text (differ.Layout key) = codes "layout key " ++ decimal key

-- where the sum of the column of this name is too large
abbrev pub sum_text : List ℕ → AtRow → List ℕ
sum_text name at = codes "sum: column " ++ (name ++ (codes ", row " ++ (decimal at.row ++ (codes ", sum " ++ decimal at.sum))))

-- what a status says; that of a sum doesn't know its column's name
abbrev pub status_text : Status → List ℕ
status_text status.Done = []
status_text status.Usage = codes "usage"
status_text (status.Query fault) = codes "query: " ++ query_fault_text fault
status_text (status.Param fault) = codes "parameter" ++ param_fault_text fault
status_text (status.Shape fault) = codes "shape: " ++ shape_fault_text fault
status_text (status.Table fault) = codes "table: " ++ table_fault_text fault
status_text (status.SumBound column at) = []
status_text (status.Frame name fault) = codes "frame " ++ (name ++ (codes ": " ++ frame_fault_text fault))
status_text (status.Differ which) = codes "differ: " ++ differ_text which
status_text (status.BadWord number word) = codes "word " ++ (decimal number ++ (codes ": " ++ decimal word))
status_text (status.MissingFile name) = codes "no file " ++ name
status_text status.FileFault = codes "file fault"
status_text status.OutputFault = []
status_text status.DrawFault = codes "draw fault"
status_text status.OutOfMemory = []
status_text (status.FileTooLong name) = codes "file too long " ++ name
status_text (status.SameProvider p) = codes "same provider " ++ provider_text p
status_text (status.NotBuilt p) = codes "not built: " ++ part_text p

-- a line of the program
abbrev pub line : List ℕ → List ℕ
line text = codes "splinter: " ++ text ++ codes "\n"

-- the line that a status tells; none for a command that is done, that could not print or that found no memory, and none for a sum, whose line names the column
abbrev pub line_of : Status → List ℕ
line_of status.Done = []
line_of (status.SumBound column at) = []
line_of status.OutputFault = []
line_of status.OutOfMemory = []
line_of s = line (status_text s)

-- the status tells a line
abbrev pub HasLine : Status → Type 0
HasLine status.Done = ⊥
HasLine (status.SumBound column at) = ⊥
HasLine status.OutputFault = ⊥
HasLine status.OutOfMemory = ⊥
HasLine s = Unit {0}

-- the number that the program ends with
abbrev pub status_number : Status → ℕ
status_number status.Done = 0
status_number status.Usage = 2
status_number (status.Query fault) = 3
status_number (status.Param fault) = 4
status_number (status.Shape fault) = 5
status_number (status.Table fault) = 6
status_number (status.SumBound column at) = 7
status_number (status.Frame name fault) = 8
status_number (status.Differ which) = 9
status_number (status.BadWord number word) = 10
status_number (status.MissingFile name) = 11
status_number status.FileFault = 12
status_number status.OutputFault = 13
status_number status.DrawFault = 14
status_number status.OutOfMemory = 20
status_number (status.FileTooLong name) = 21
status_number (status.SameProvider p) = 22
status_number (status.NotBuilt p) = 30
