use Rattle.std.proofs.Common.{sym, refl, arith}
use Rattle.std.proofs.lemmas.List.{append-nil}
use Rattle.clear_sql.specs.AnswerText.{row_line}
use Rattle.clear_sql.proofs.Lines.{lines-more, lines-all}
use Rattle.clear_sql.proofs.printing.push_rows.Goals as goal

pub loop-row-init : goal.loop-row-init
loop-row-init c = sym (append-nil c.args.text.now.items)

pub loop-row-preserved : goal.loop-row-preserved
loop-row-preserved c =
    lines-more (row_line c.args.columns.now c.args.sort c.args.show) c.args.rows.now c.loop-row.row-index _ _ c.args.text.now.items c.loop-row.text.items c.push_row.new.text.items c.loop-row-test.true refl c.loop-row.invariant c.in_ok-push_row.ensures

pub returns : goal.returns
returns c = lines-all (row_line c.args.columns.now c.args.sort c.args.show) c.args.rows.now c.loop-row.row-index c.args.text.now.items c.loop-row.text.items (omega arith) c.loop-row.invariant
