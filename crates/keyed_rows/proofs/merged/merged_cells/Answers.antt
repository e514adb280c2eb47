use Rattle.std.proofs.Common.{◌≡◌, map, take, arith}
use Rattle.cell_merge.specs.Cells.{cell_width}
use Rattle.cell_runs.specs.Runs.{runs}
use Rattle.keyed_rows.specs.KeyedRows.{row_pair}
use Rattle.keyed_rows.proofs.Pairs.{whole}
use Rattle.keyed_rows.proofs.merged.merged_cells.Goals as goal

pub put_cell-requires-clause-whole : goal.put_cell-requires-clause-whole
put_cell-requires-clause-whole c =
    whole (cell_width c.args.checked.now.spec) (runs c.args.checked.now.spec (map (row_pair c.args.checked.now c.args.table.now) (take c.loop-keyed.keyed-index c.args.rows.now))) c.loop-keyed.keys.items c.loop-keyed.cells.items c.loop-keyed.invariant.pairs

pub returns-clause-whole : goal.returns-clause-whole
returns-clause-whole c =
    let narrow = c.accepted_has_cells.ensures.width c.args.checked.now c.args.table.now.shape.schema c.requires.checked in
    let words : c.width-words.result ≡ cell_width c.args.checked.now.spec = let is = c.width-words.ensures in omega arith in
    let all = whole (cell_width c.args.checked.now.spec) (runs c.args.checked.now.spec (map (row_pair c.args.checked.now c.args.table.now) (take c.loop-keyed.keyed-index c.args.rows.now))) c.loop-keyed.keys.items c.loop-keyed.cells.items c.loop-keyed.invariant.pairs in
    rw (c.from_vec-2.ensures, c.from_vec.ensures, words) all
