use Rattle.std.proofs.Common.{length}
use Rattle.query_parser.proofs.found.+ends_in_a_range.Given as goal

abbrev pub decreases-ends_in_a_range : goal.decreases-ends_in_a_range
decreases-ends_in_a_range l = length l.atoms.now
