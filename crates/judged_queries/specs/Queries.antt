-- What a text is as a query for a schema.
use Rattle.std.specs.Prelude.{◌≡◌, ℕ, List, length, Option, Some, None, Result, Ok, Err}
use Rattle.spl_words.specs.Results.{◌>>=◌}
use Rattle.spl_values.specs.Shapes.{SchemaParts}
use Rattle.query_grammar.specs.Queries.{QueryParts}
use Rattle.query_grammar.specs.Machine.{Start}
use Rattle.query_grammar.specs.Faults.{verdict}
use Rattle.query_tokens.specs.Tokens.{tokens_in}
use Rattle.query_parser.specs.declared.fault.QueryFault.{QueryFault}
use Rattle.query_parser.specs.declared.fault.QueryFault.TheVariants.{NoReading, OutOfMemory}
use Rattle.query_reader.specs.Accepted.{checked_of}
use Rattle.query_reader.specs.Refusals.{refusal}
use Rattle.query_reader.specs.declared.checked.Checked.{Checked}

-- the query that a text is, or the place of the first token that no query goes on with; that this is what the grammar says is the law `reading_is_grammar`
abbrev pub reading_of : List ℕ → Result QueryParts ℕ
reading_of text = verdict Start (tokens_in text) (length text)

-- a query, or the refusal of a text that is none
abbrev pub or_no_reading : Result QueryParts ℕ → Result QueryParts QueryFault
or_no_reading (Ok query) = Ok query
or_no_reading (Err at) = Err (NoReading at)

-- what is known of a query without a refusal
abbrev pub unless_refused : QueryParts → SchemaParts → Option QueryFault → Result Checked QueryFault
unless_refused query schema None = Ok (checked_of query schema)
unless_refused query schema (Some fault) = Err fault

-- what is known of the query that a text is, or why it is none that is accepted for the schema
unfoldable pub checked_in : SchemaParts → List ℕ → Result Checked QueryFault
checked_in schema text = do
  query ← or_no_reading (reading_of text)
  unless_refused query schema (refusal query schema)

-- what was answered is what the step gives, unless memory ran out
abbrev pub Judges : {A : Type 0} → Result A QueryFault → Result A QueryFault → Type 0
Judges (Ok x) step = step ≡ Ok x
Judges (Err OutOfMemory) step = Unit {0}
Judges (Err e) step = step ≡ Err e
