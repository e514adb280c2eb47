use Rattle.std.proofs.Common.{◌≡◌, length}
use Rattle.query_grammar.specs.Machine.{Head, TableEnd}
use Rattle.query_parser.specs.Reading.{verdict_at}
use Rattle.query_parser.specs.Parsing.{ending_state}
use Rattle.query_parser.proofs.condition_reader.condition.Given as goal

abbrev pub invariant-loop-ending : goal.invariant-loop-ending
invariant-loop-ending l = (h : Head) → verdict_at (TableEnd h) l.fn.cursor ≡ verdict_at (ending_state h l.found l.ending) l.cursor

abbrev pub decreases-loop-ending : goal.decreases-loop-ending
decreases-loop-ending l = length l.cursor.tokens
