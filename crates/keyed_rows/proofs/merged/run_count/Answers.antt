use Rattle.std.proofs.Common.{rules, ◌≡◌, ◌≢◌, Some, get_or, ◌∙◌, arith}
use Rattle.keyed_rows.specs.declared.rows.KeyedRow.{KeyedRow}
use Rattle.keyed_rows.proofs.Runs.{option_other, option_same, row_other, row_same}
use Rattle.keyed_rows.proofs.merged.run_count.Goals as goal
use Rattle.keyed_rows.proofs.merged.run_count.Goals.{then-ne, else-ne}

pub loop-keyed-preserved : goal.loop-keyed-preserved
loop-keyed-preserved c =
    let rows = c.args.rows.now in
    let i = c.loop-keyed.keyed-index in
    let last = c.loop-keyed.last in
    let count = c.loop-keyed.count in
    let none : KeyedRow = record { key = 0; row = 0 } in
    let key = (get_or rows i none).key in
    let before = c.loop-keyed.invariant in
    let few = before.few in
    elim c.if-ne.branch [
      | then-ne w ↦
          let differ : last ≢ Some key = option_other last key (search rules) in
          let is = w.count-is in
          record {
            counted = λ checked t. is ∙ (row_other checked t rows i none c.loop-keyed-test.true count last (before.counted checked t) (before.last checked t) differ).0;
            last = λ checked t. (row_other checked t rows i none c.loop-keyed-test.true count last (before.counted checked t) (before.last checked t) differ).1;
            few = omega arith;
          }
      | else-ne w ↦
          let same : last ≡ Some key = option_same last key (search rules) in
          let is = w.count-is in
          record {
            counted = λ checked t. is ∙ (row_same checked t rows i none c.loop-keyed-test.true count last (before.counted checked t) (before.last checked t) same).0;
            last = λ checked t. (row_same checked t rows i none c.loop-keyed-test.true count last (before.counted checked t) (before.last checked t) same).1;
            few = omega arith;
          }
    ]
