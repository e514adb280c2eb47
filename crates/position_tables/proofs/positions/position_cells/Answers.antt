use Rattle.std.proofs.Common.{◌≡◌, ◌*◌, length, map, ap, sym, ◌∙◌}
use Rattle.std.specs.List.{range_with_len}
use Rattle.std.proofs.lemmas.List.FromFn.{length-range_with_len}
use Rattle.cell_merge.specs.Cells.{cell_width}
use Rattle.keyed_rows.specs.KeyedRows.{row_pair}
use Rattle.cell_runs.specs.CellsBy.{ArePairs}
use Rattle.position_tables.proofs.PositionPairs.{key_count, position_count, position_keys, position_words}
use Rattle.position_tables.proofs.positions.position_cells.Goals as goal
use Rattle.position_tables.proofs.positions.position_cells.Goals.{After-drop-rows-2}

are_pairs : (c : After-drop-rows-2) → ArePairs (cell_width c.args.checked.now.spec) (map (row_pair c.args.checked.now c.args.table.now) c.in_ok-rows.rows.items) c.in_ok-cells.cells.keys c.in_ok-cells.cells.cells
are_pairs c = rw (← c.deref.ensures.value) c.in_ok-cells.ensures.pairs

-- the positions, as many as there are rows
are_counted : (c : After-drop-rows-2) → c.from_vec.result ≡ range_with_len 0 (length c.in_ok-rows.rows.items)
are_counted c =
    let many = key_count c.args.checked.now c.args.table.now (cell_width c.args.checked.now.spec) c.in_ok-rows.rows.items c.in_ok-cells.cells.keys c.in_ok-cells.cells.cells (are_pairs c) in
    c.from_vec.ensures ∙ (c.counted.ensures ∙ ap (range_with_len 0) (ap (λ l. length l) c.take.ensures.items ∙ many))

pub returns-clause-keys : goal.returns-clause-keys
returns-clause-keys c =
    let rows = c.in_ok-rows.ensures in
    are_counted c ∙ position_keys c.args.checked.now c.args.table.now c.in_ok-rows.rows.items c.shape.ensures.valid rows.rows rows.rising rows.same rows.permutation

pub returns-clause-cells : goal.returns-clause-cells
returns-clause-cells c =
    let rows = c.in_ok-rows.ensures in
    position_words c.args.checked.now c.args.table.now c.in_ok-rows.rows.items c.shape.ensures.valid rows.rows rows.rising rows.same rows.permutation
    (cell_width c.args.checked.now.spec) c.in_ok-cells.cells.keys c.in_ok-cells.cells.cells (are_pairs c)

pub returns-clause-numbered : goal.returns-clause-numbered
returns-clause-numbered c =
    let rows = c.in_ok-rows.ensures in
    are_counted c ∙ position_count c.args.checked.now c.args.table.now c.in_ok-rows.rows.items c.shape.ensures.valid rows.rows rows.rising rows.same rows.permutation

pub returns-clause-whole : goal.returns-clause-whole
returns-clause-whole c =
    let same : length c.from_vec.result ≡ length c.in_ok-cells.cells.keys = ap (λ l. length l) (c.from_vec.ensures ∙ c.counted.ensures) ∙ (length-range_with_len 0 (length c.take.result.items) ∙ ap (λ l. length l) c.take.ensures.items) in
    c.in_ok-cells.ensures.whole ∙ ap (λ n. n * c.in_ok-cells.cells.width) (sym same)
