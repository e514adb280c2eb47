use Rattle.std.proofs.Common.{◌≡◌, [], length}
use Rattle.query_grammar.specs.Machine.{Items}
use Rattle.query_parser.specs.Reading.{verdict_at}
use Rattle.query_parser.proofs.item_reader.items.Given as goal

abbrev pub invariant-loop-items : goal.invariant-loop-items
invariant-loop-items l = verdict_at (Items []) l.fn.cursor ≡ verdict_at (Items l.items.items) l.cursor

abbrev pub decreases-loop-items : goal.decreases-loop-items
decreases-loop-items l = length l.cursor.tokens
