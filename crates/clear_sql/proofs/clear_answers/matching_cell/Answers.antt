use Rattle.std.proofs.Common.{◌≡◌, ◌≤◌, length, replicate, ap, sym, ◌∙◌, arith}
use Rattle.std.proofs.lemmas.List.{length-replicate}
use Rattle.spl_values.specs.Shapes.{ShapeParts}
use Rattle.cell_merge.specs.Cells.{cell_width}
use Rattle.cell_merge.specs.TableRows.{adds_in}
use Rattle.clear_sql.proofs.MatchingCells.{none_matching, all_matching}
use Rattle.clear_sql.proofs.clear_answers.matching_cell.Goals as goal

pub loop-row-init : goal.loop-row-init
loop-row-init c =
    let width = c.accepted_has_cells.ensures.width c.args.checked.now c.args.table.now.shape.schema c.requires.checked in
    let words : c.width-words.result ≡ cell_width c.args.checked.now.spec = omega (arith, width, c.width-words.ensures) in
    let zeros = ap (λ n. replicate n 0) words in (
      c.in_ok-all.ensures ∙ (zeros ∙ sym (none_matching (adds_in c.args.table.now.shape.schema.columns) c.args.checked.now c.args.params.now c.args.table.now)),
      ap length (c.in_ok-own.ensures ∙ zeros) ∙ length-replicate (cell_width c.args.checked.now.spec) 0,
    )

pub returns : goal.returns
returns c =
    let count = ap (λ (s : ShapeParts). s.rows) (c.behind-table.view_is ∙ c.shape.ensures.shape) in
    let past : length c.args.table.now.rows ≤ c.loop-row.row = omega (arith, count, c.shape.ensures.valid.count, c.loop-row-test.false) in
    c.loop-row.invariant.0 ∙ all_matching (adds_in c.args.table.now.shape.schema.columns) c.args.checked.now c.args.params.now c.args.table.now c.loop-row.row past
