use Rattle.std.proofs.Common.{length}
use Rattle.clear_sql.proofs.matching.+branch_holds.Given as goal

abbrev pub decreases-branch_holds : goal.decreases-branch_holds
decreases-branch_holds l = length l.columns.now
