-- Accepted queries, and what is known of them.
use Rattle.std.specs.Prelude.{◌≡◌, ℕ, List, length, map, Option, Some, None, Result, Ok, Err}
use Rattle.spl_values.specs.Shapes.{SchemaParts}
use Rattle.query_grammar.specs.declared.condition.Public.{Public}
use Rattle.query_grammar.specs.declared.condition.Public.TheVariants as public
use Rattle.query_grammar.specs.declared.condition.Atom.{Atom}
use Rattle.query_grammar.specs.Queries.{QueryParts, ends_in_range}
use Rattle.query_parser.specs.declared.fault.QueryFault.{QueryFault}
use Rattle.query_parser.specs.declared.fault.QueryFault.TheVariants.{OutOfMemory}
use Rattle.query_reader.specs.declared.checked.Checked.{Checked}
use Rattle.query_reader.specs.Columns.{place_of, literal_code}
use Rattle.query_reader.specs.Uses.{uses_of}
use Rattle.query_tokens.specs.Printing.{canonical_text}
use Rattle.query_reader.specs.Refusals.{refusal, first_branch, atom_name, key_bits, spec_of, no_table, no_column, wrong_type, no_secret, branches_differ, too_wide, too_many_branches, bad_topk, cells_too_wide, too_long}

-- None of the refusals holds.
abbrev pub IsAccepted : QueryParts → SchemaParts → Type 0
IsAccepted q schema = refusal q schema ≡ None

-- No single refusal holds.
pub record IsUnrefused (q : QueryParts) (schema : SchemaParts) : Type 0 where
  pub table : no_table q schema ≡ None
  pub columns : no_column (uses_of q) schema ≡ None
  pub types : wrong_type (uses_of q) schema ≡ None
  pub secret : no_secret q ≡ None
  pub same : branches_differ q ≡ None
  pub narrow : too_wide q schema ≡ None
  pub few : too_many_branches q ≡ None
  pub topk : bad_topk q ≡ None
  pub cells : cells_too_wide (spec_of q schema) ≡ None
  pub short : too_long (canonical_text q) ≡ None

-- The column of a public condition, and the least and the greatest code that it takes.
abbrev pub bound_of : SchemaParts → Public → ℕ × ℕ × ℕ
bound_of schema (public.Equal n l) = (place_of schema n, literal_code schema n l, literal_code schema n l)
bound_of schema (public.Between n l m) = (place_of schema n, literal_code schema n l, literal_code schema n m)

-- What is known of a query with these public conditions, this branch 0, so many branches and bits of the key.
abbrev pub known_of : QueryParts → SchemaParts → List Public → List Atom → ℕ → ℕ → Checked
known_of q schema publics atoms branches bits = record {
  query = q;
  spec = spec_of q schema;
  public = map (bound_of schema) publics;
  columns = map (λ a. place_of schema (atom_name a)) atoms;
  range = ends_in_range atoms;
  branches = branches;
  bits = bits;
}

-- What is known of an accepted query.
abbrev pub checked_of : QueryParts → SchemaParts → Checked
checked_of q schema = known_of q schema q.public (first_branch q.branches) (length q.branches) (key_bits q schema)

-- That is what is known of the query, and the query is accepted.
pub record IsCheckedFor (checked : Checked) (schema : SchemaParts) : Type 0 where
  pub accepted : IsAccepted checked.query schema
  pub known : checked ≡ checked_of checked.query schema

-- The query is accepted as this, or the fault is the first refusal, unless memory ran out.
abbrev pub Checks : Result Checked QueryFault → QueryParts → SchemaParts → Type 0
Checks (Ok c) q schema = IsAccepted q schema × (c ≡ checked_of q schema)
Checks (Err OutOfMemory) q schema = Unit {0}
Checks (Err e) q schema = refusal q schema ≡ Some e

-- The test, which takes no memory, passed where there is no such fault, or it gave the fault.
abbrev pub Finds : Result (Unit {0}) QueryFault → Option QueryFault → Type 0
Finds (Ok x) fault = fault ≡ None
Finds (Err e) fault = fault ≡ Some e

-- The same of a test that takes memory, unless memory ran out.
abbrev pub TellsFault : Result (Unit {0}) QueryFault → Option QueryFault → Type 0
TellsFault (Ok x) fault = fault ≡ None
TellsFault (Err OutOfMemory) fault = Unit {0}
TellsFault (Err e) fault = fault ≡ Some e
