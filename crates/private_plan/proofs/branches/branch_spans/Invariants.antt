use Rattle.std.proofs.Common.{◌≡◌, ◌-◌, ◌++◌, length}
use Rattle.std.specs.List.{AllZip}
use Rattle.query_reader.specs.Params.{HasBits, branch_columns, times}
use Rattle.private_plan.specs.Branches.{branch_spans}
use Rattle.private_plan.proofs.branches.branch_spans.Given as goal

abbrev pub invariant-loop : goal.invariant-loop
invariant-loop l =
    (l.spans.items ++ branch_spans l.schema.columns (l.checked.branches - l.counter) l.checked.columns l.checked.range l.rest ≡ branch_spans l.schema.columns l.checked.branches l.checked.columns l.checked.range l.params)
    × (AllZip (HasBits l.schema.columns) (times (l.checked.branches - l.counter) (branch_columns l.checked.columns l.checked.range)) l.rest)
    × (length l.spans.items ≡ l.counter)
