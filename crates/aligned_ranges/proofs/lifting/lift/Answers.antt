use Rattle.std.proofs.Common.{◌/◌, map, ap, ◌∙◌, subst}
use Rattle.cell_merge.specs.Cells.{cell_width}
use Rattle.cell_runs.specs.CellsBy.{ArePairs, cells_by}
use Rattle.cell_runs.proofs.Groups.{regrouped}
use Rattle.aligned_ranges.proofs.Halves.{half, halved_pairs, halves_keep}
use Rattle.aligned_ranges.proofs.lifting.lift.Goals as goal

pub returns-clause-lifted : goal.returns-clause-lifted
returns-clause-lifted c = λ adds number rows apart few are.
    let spec = c.args.spec.now in
    let pairs = cells_by adds spec number rows in
    let keys = c.from_vec.ensures ∙ (c.halved.ensures ∙ ap (map (λ n. n / 2)) c.take.ensures.items) in
    let before = halved_pairs (cell_width spec) pairs c.args.table.now.keys c.args.table.now.cells c.from_vec.result are keys in
    subst (λ l. ArePairs (cell_width spec) l c.merge_runs.new.table.keys c.merge_runs.new.table.cells)
    (regrouped adds spec number (λ n. n / 2) halves_keep rows apart few)
    (c.merge_runs.ensures.merged (map half pairs) before)
