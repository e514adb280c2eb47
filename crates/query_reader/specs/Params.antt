-- The codes of a query's parameters.
use Rattle.std.specs.Prelude.{◌≡◌, ℕ, zero, suc, ◌+◌, ◌-◌, ◌*◌, ◌^◌, ◌<◌, ◌==◌, Bool, true, false, nat_lt, min, List, [], ◌∷◌, ◌++◌, length, Option, Some, None, Result, Ok, Err, slice_get, slice_index, if◌then◌else◌}
use Rattle.std.specs.List.{AllZip, flat_map}
use Rattle.spl_values.specs.Kinds.{Fits}
use Rattle.spl_values.specs.Codes.{code_of}
use Rattle.spl_values.specs.CellTexts.{value_of_text}
use Rattle.spl_values.specs.Shapes.{SchemaParts, ColumnParts}
use Rattle.spl_values.specs.Tables.{column_bits}
use Rattle.spl_values.specs.declared.kinds.ColumnType.{ColumnType}
use Rattle.spl_values.specs.declared.values.Value.{Value}
use Rattle.spl_values.specs.declared.values.ValueFault.{ValueFault}
use Rattle.query_grammar.specs.declared.condition.Atom.{Atom}
use Rattle.query_grammar.specs.declared.condition.Atom.TheVariants as atom
use Rattle.query_grammar.specs.Queries.{QueryParts}
use Rattle.query_reader.specs.declared.checked.Checked.{Checked}
use Rattle.query_reader.specs.declared.params.ParamFault.{ParamFault}
use Rattle.query_reader.specs.declared.params.ParamFault.TheVariants.{Count, BadCode, OutOfMemory}
use Rattle.query_reader.specs.declared.params.ParamFault.TheVariants as fault
use Rattle.query_reader.specs.Columns.{place_of}
use Rattle.query_reader.specs.Matching.{branch_params}

-- The places of the columns that an atom's question marks stand for: one for an equality, two for a range.
abbrev pub atom_marks : SchemaParts → Atom → List ℕ
atom_marks schema (atom.Equal n) = place_of schema n ∷ []
atom_marks schema (atom.Between n) = place_of schema n ∷ place_of schema n ∷ []

-- The same for the question marks of some branches, in the order of the text.
abbrev pub marks_of : SchemaParts → List (List Atom) → List ℕ
marks_of schema branches = flat_map (flat_map (atom_marks schema)) branches

-- The number of parameters is wrong: it isn't that of the question marks, or these are over 255, which counts as 256.
abbrev pub count_fault : ℕ → ℕ → Option ParamFault
count_fault marks had =
    if nat_lt 255 marks then Some (Count 256 (min had (2 ^ 32 - 1)))
    else (if marks == had then None else Some (Count marks (min had (2 ^ 32 - 1))))

-- The code of what was read, or the fault of the i-th parameter.
abbrev pub read_code : ColumnType → ℕ → Result Value ValueFault → Result ℕ ParamFault
read_code kind i (Ok v) = Ok (code_of kind v)
read_code kind i (Err e) = Err (fault.Value i e)

-- The code of the i-th parameter, which is that word.
abbrev pub word_code : ℕ → Option ColumnParts → List ℕ → Result ℕ ParamFault
word_code i None word = Ok 0
word_code i (Some c) word = read_code c.kind i (value_of_text c.kind word)

-- One code before the others, up to the first fault.
abbrev pub before : Result ℕ ParamFault → Result (List ℕ) ParamFault → Result (List ℕ) ParamFault
before (Err e) more = Err e
before (Ok c) (Err e) = Err e
before (Ok c) (Ok cs) = Ok (c ∷ cs)

-- The codes of the parameters from the i-th on, or the first fault.
abbrev pub word_codes : ℕ → SchemaParts → List ℕ → List (List ℕ) → Result (List ℕ) ParamFault
word_codes i schema [] words = Ok []
word_codes i schema (p ∷ ps) [] = Ok []
word_codes i schema (p ∷ ps) (w ∷ ws) = before (word_code i (slice_get schema.columns p) w) (word_codes (i + 1) schema ps ws)

-- The fault, where there is one.
abbrev pub fault_or : Option ParamFault → Result (List ℕ) ParamFault → Result (List ℕ) ParamFault
fault_or (Some e) codes = Err e
fault_or None codes = codes

-- What a query's parameters are, given as words.
abbrev pub params_of_words : QueryParts → SchemaParts → List (List ℕ) → Result (List ℕ) ParamFault
params_of_words q schema words =
    fault_or (count_fault (length (marks_of schema q.branches)) (length words)) (word_codes 0 schema (marks_of schema q.branches) words)

-- That is what was answered, unless memory ran out.
abbrev pub Answers : Result (List ℕ) ParamFault → Result (List ℕ) ParamFault → Type 0
Answers (Ok codes) params = params ≡ Ok codes
Answers (Err OutOfMemory) params = Unit {0}
Answers (Err e) params = params ≡ Err e

-- The test passed where there is no such fault, or it gave the fault.
abbrev pub Counts : Result (Unit {0}) ParamFault → Option ParamFault → Type 0
Counts (Ok x) fault = fault ≡ None
Counts (Err e) fault = fault ≡ Some e

-- A value of the column has that code.
abbrev pub IsCodeIn : Option ColumnParts → ℕ → Type 0
IsCodeIn None code = Unit {0}
IsCodeIn (Some c) code = (v : Value) × (Fits c.kind v × (code_of c.kind v ≡ code))

-- The k-th code is one of its column.
abbrev pub IsCodeAt : SchemaParts → List ℕ → List ℕ → ℕ → Type 0
IsCodeAt schema marks codes k = IsCodeIn (slice_get schema.columns (slice_index marks k)) (slice_index codes k)

-- What was answered to codes: them, where their number is right and each is one of its column; else the first fault, unless memory ran out.
abbrev pub TakesCodes : Result (List ℕ) ParamFault → QueryParts → SchemaParts → List ℕ → Type 0
TakesCodes (Ok params) q schema codes =
    (params ≡ codes) × (count_fault (length (marks_of schema q.branches)) (length codes) ≡ None) × ((k : ℕ) → k < length codes → IsCodeAt schema (marks_of schema q.branches) codes k)
TakesCodes (Err OutOfMemory) q schema codes = Unit {0}
TakesCodes (Err (BadCode i)) q schema codes =
    (count_fault (length (marks_of schema q.branches)) (length codes) ≡ None) × (i < length codes) × ((k : ℕ) → k < i → IsCodeAt schema (marks_of schema q.branches) codes k)
    × (IsCodeAt schema (marks_of schema q.branches) codes i → ⊥)
TakesCodes (Err (Count needed had)) q schema codes = count_fault (length (marks_of schema q.branches)) (length codes) ≡ Some (Count needed had)
TakesCodes (Err (fault.Value i e)) q schema codes = ⊥

-- Codes before those that are still to come.
abbrev pub behind : List ℕ → Result (List ℕ) ParamFault → Result (List ℕ) ParamFault
behind codes (Ok more) = Ok (codes ++ more)
behind codes (Err e) = Err e

-- ---- what is known of parameters

-- The columns of a branch's parameters: a range has its column twice.
abbrev pub branch_columns : List ℕ → Bool → List ℕ
branch_columns [] range = []
branch_columns (c ∷ []) true = c ∷ c ∷ []
branch_columns (c ∷ []) false = c ∷ []
branch_columns (c ∷ d ∷ cs) range = c ∷ branch_columns (d ∷ cs) range

-- A list n times, one after another.
abbrev pub times : ℕ → List ℕ → List ℕ
times zero xs = []
times (suc n) xs = xs ++ times n xs

-- The columns of the parameters of all branches.
abbrev pub param_columns : Checked → List ℕ
param_columns checked = times checked.branches (branch_columns checked.columns checked.range)

-- A code has no more than the bits of its column.
abbrev pub HasBits : List ColumnParts → ℕ → ℕ → Type 0
HasBits columns column code = code < 2 ^ column_bits columns column

-- The same of codes at columns that are there, place by place.
abbrev pub HaveBits : List ColumnParts → List ℕ → List ℕ → Type 0
HaveBits columns marks codes = AllZip (λ column code. column < length columns → HasBits columns column code) marks codes

-- There are as many parameters as the branches have, and each is a code that its column has room for.
pub record AreParamsFor (checked : Checked) (schema : SchemaParts) (params : List ℕ) : Type 0 where
  pub count : length params ≡ checked.branches * branch_params checked.columns checked.range
  pub below : AllZip (HasBits schema.columns) (param_columns checked) params
