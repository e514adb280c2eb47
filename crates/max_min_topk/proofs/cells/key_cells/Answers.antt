use Rattle.std.proofs.Common.{List, map, subst}
use Rattle.std.specs.Prelude.{IfOk}
use Rattle.std.proofs.lemmas.Result.{IfOk-weaker}
use Rattle.cell_merge.specs.Cells.{cell_width}
use Rattle.cell_runs.specs.CellsBy.{ArePairs}
use Rattle.cell_runs.specs.Runs.{runs}
use Rattle.count_sum.specs.KeyCells.{key_pairs}
use Rattle.keyed_rows.specs.KeyedRows.{row_pair}
use Rattle.keyed_rows.specs.declared.rows.KeyedRow.{KeyedRow}
use Rattle.max_min_topk.proofs.KeyPairs.{cells_of_keys, few_bits, few_keys}
use Rattle.max_min_topk.proofs.cells.key_cells.Goals as goal

pub returns : goal.returns
returns c =
    let checked = c.args.checked.now in
    let table = c.args.table.now in
    let width = cell_width checked.spec in
    let rows = c.in_ok-rows.ensures in
    let valid = c.shape.ensures.valid in
    let found = c.merged_cells.result in
    let of_runs : IfOk found (λ t. ArePairs width (runs checked.spec (map (row_pair checked table) c.in_ok-rows.rows.items)) t.keys t.cells) =
    subst (λ (l : List KeyedRow). IfOk found (λ t. ArePairs width (runs checked.spec (map (row_pair checked table) l)) t.keys t.cells)) c.deref.ensures.value c.merged_cells.ensures.pairs in
    let pairs : IfOk found (λ t. ArePairs width (key_pairs checked table) t.keys t.cells) =
    IfOk-weaker found _ _ (λ t are. cells_of_keys checked table width c.in_ok-rows.rows.items t.keys t.cells valid rows.rows rows.rising rows.same rows.few are) of_runs in
    let bits = c.accepted_has_keys.ensures.bits checked table.shape.schema c.requires in
    record {
      keys = IfOk-weaker found _ _ (λ t are. are.each_key) pairs;
      cells = IfOk-weaker found _ _ (λ t are. are.each_cell) pairs;
      width = c.merged_cells.ensures.width;
      bits = IfOk-weaker found _ _ (λ t are. few_bits checked table checked.bits t.keys are.each_key bits valid) pairs;
      whole = c.merged_cells.ensures.whole;
      few = IfOk-weaker found _ _ (λ t are. few_keys checked table t.keys are.each_key valid) pairs;
    }
