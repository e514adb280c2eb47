use Rattle.std.proofs.Common.{◌≡◌, ◌^◌, ◌<◌, true, length, sym, ◌∙◌}
use Rattle.cell_merge.specs.Cells.{cell_width}
use Rattle.cell_merge.specs.TableRows.{row_in}
use Rattle.query_reader.specs.Matching.{is_kept}
use Rattle.count_sum.specs.SumPairs.{joined_key, row_cell}
use Rattle.count_sum.proofs.Entries.{entry_added}
use Rattle.count_sum.proofs.rows.add_row.Goals as goal

pub returns : goal.returns
returns c = λ rows are.
    let checked = c.args.checked.now in
    let table = c.args.table.now in
    let row = row_in table c.args.row in
    let kept : is_kept checked.public row ≡ true = sym c.if-not-is_kept.ensures in
    let key : c.join_key.result ≡ joined_key checked table row = rw c.as_slice.ensures at c.join_key.ensures.key in
    let bits = c.accepted_has_keys.ensures.bits checked table.shape.schema c.requires.checked in
    let below : c.join_key.result < 2 ^ checked.bits = rw (bits, ← c.as_slice.ensures) c.join_key.ensures.below in
    let cell : c.cell_of_row.new.out ≡ row_cell checked table row = c.cell_of_row.ensures in
    let wide : length c.cell_of_row.new.out ≡ cell_width checked.spec = c.cell_of_row.auto.out ∙ c.requires.cell in
    rw (c.in_ok-push.ensures.items, c.in_ok-extend_from_slice.ensures.items)
    (entry_added checked table rows row c.args.keys.now.items c.args.cells.now.items c.join_key.result c.cell_of_row.new.out kept key below cell wide are)
