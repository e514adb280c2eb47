-- What codes are as the parameters of a query.
use Rattle.std.specs.Prelude.{ℕ, ◌+◌, ◌^◌, Bool, true, false, ◌&&◌, nat_lt, nat_le, List, [], ◌∷◌, length, Option, Some, None, Result, Ok, Err, slice_get, if◌then◌else◌}
use Rattle.std.specs.List.{list_all}
use Rattle.spl_values.specs.Kinds.{is_printable, text_of}
use Rattle.spl_values.specs.Codes.{value_with}
use Rattle.spl_values.specs.Shapes.{SchemaParts, ColumnParts}
use Rattle.spl_values.specs.declared.kinds.ColumnType.{ColumnType}
use Rattle.spl_values.specs.declared.kinds.ColumnType.TheVariants.{Uint, Text, Enum}
use Rattle.spl_values.specs.declared.values.Value.{Value}
use Rattle.spl_values.specs.declared.values.Value.TheVariants as value
use Rattle.query_grammar.specs.Queries.{QueryParts}
use Rattle.query_reader.specs.Params.{marks_of, count_fault, before, fault_or}
use Rattle.query_reader.specs.declared.params.ParamFault.{ParamFault}
use Rattle.query_reader.specs.declared.params.ParamFault.TheVariants.{BadCode}

-- a column of that type takes the value
abbrev pub takes : ColumnType → Value → Bool
takes (Uint b) (value.Number n) = nat_lt n (2 ^ b)
takes (Text k) (value.Text n) = list_all is_printable (text_of n) && nat_le (length (text_of n)) k
takes (Enum labels) (value.Label i) = nat_lt i (length labels)
takes _ _ = false

-- a value of the column has that code: the one that may have it is taken
abbrev pub is_code : Option ColumnParts → ℕ → Bool
is_code None code = true
is_code (Some c) code = takes c.kind (value_with c.kind code)

-- the code of the i-th parameter, unless no value has it
abbrev pub code_at : ℕ → Option ColumnParts → ℕ → Result ℕ ParamFault
code_at i column code = if is_code column code then Ok code else Err (BadCode i)

-- the codes of the parameters from the i-th on, or the first that no value has
abbrev pub codes_from : ℕ → SchemaParts → List ℕ → List ℕ → Result (List ℕ) ParamFault
codes_from i schema [] codes = Ok []
codes_from i schema (p ∷ ps) [] = Ok []
codes_from i schema (p ∷ ps) (c ∷ cs) = before (code_at i (slice_get schema.columns p) c) (codes_from (i + 1) schema ps cs)

-- what a query's parameters are, given as codes: these, or the first fault
abbrev pub codes_in : QueryParts → SchemaParts → List ℕ → Result (List ℕ) ParamFault
codes_in q schema codes =
    fault_or (count_fault (length (marks_of schema q.branches)) (length codes)) (codes_from 0 schema (marks_of schema q.branches) codes)
