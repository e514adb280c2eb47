use Rattle.std.proofs.Common.{◌≡◌, ◌++◌, length, take, drop, ap, sym, ◌∙◌, arith, rules}
use Rattle.std.specs.List.{fold}
use Rattle.std.specs.Slice.Iter.{chunks_exact_rest}
use Rattle.std.proofs.lemmas.List.{take_at}
use Rattle.cell_merge.specs.Cells.{blocks, cell_width, merge}
use Rattle.cell_merge.proofs.Blocks.{length-merge_blocks}
use Rattle.combiner.specs.Finals.{cells_in}
use Rattle.combiner.proofs.Cuts.{merge_first, merge_none}
use Rattle.combiner.proofs.finals.merged_cells.Goals as goal

pub loop-cell-preserved : goal.loop-cell-preserved
loop-cell-preserved c =
    let spec = c.args.spec.now in
    let old = c.loop-cell.merged.items in
    let new = c.merge_into.new.into in
    let cell = c.in-Some.cell.now in
    let invariant = c.loop-cell.invariant in
    let steps = c.in-Some.ensures.steps in
    let is : new ≡ merge spec old cell = c.merge_into.ensures ∙ ap (λ l. merge spec l cell) c.deref_mut-in-loop-cell.ensures.value in
    let long : length new ≡ cell_width spec = ap length is ∙ length-merge_blocks (blocks spec.group spec.labels) spec.items old cell in
    let room : length new ≡ c.loop-cell.merged.len = omega (arith, long, invariant.3, c.loop-cell.merged.ok) in
    let kept : take c.loop-cell.merged.len (new ++ drop (length new) old) ≡ new = take_at new (drop (length new) old) c.loop-cell.merged.len room in (
      search rules,
      tt,
      steps.0 ∙ invariant.2,
      ap length kept ∙ long,
      ap (λ l. fold (merge spec) l (cells_in (cell_width spec) (chunks_exact_rest c.next.new.self))) (kept ∙ is)
          ∙ (sym (merge_first spec (cell_width spec) old (chunks_exact_rest c.loop-cell.cell-iterator) cell (chunks_exact_rest c.next.new.self) c.requires.some steps.1.0 (steps.1.1 ∙ invariant.2)) ∙ invariant.4),
    )

pub returns-clause-cell : goal.returns-clause-cell
returns-clause-cell c =
    let short = rw c.loop-cell.invariant.2 at c.in-None.ensures.steps.1.0 in
    sym (merge_none c.args.spec.now (cell_width c.args.spec.now) c.loop-cell.merged.items (chunks_exact_rest c.loop-cell.cell-iterator) short) ∙ c.loop-cell.invariant.4
