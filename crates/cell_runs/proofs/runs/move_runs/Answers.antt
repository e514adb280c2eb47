use Rattle.std.proofs.Common.{refl, arith}
use Rattle.cell_runs.proofs.Moving.{all_moved, count_pairs, keep_moving, start_moving}
use Rattle.cell_runs.proofs.runs.move_runs.Goals as goal

pub loop-place-init : goal.loop-place-init
loop-place-init c = record {
  moving = λ pairs are. start_moving c.args.spec.now c.args.words pairs c.args.keys.now c.args.cells.now are;
  kept = omega arith;
  keys = refl;
  whole = c.requires.whole;
}

pub loop-place-preserved : goal.loop-place-preserved
loop-place-preserved c = record {
  moving = λ pairs are.
      let count = count_pairs c.args.words pairs c.args.keys.now c.args.cells.now are in
      keep_moving c.args.spec.now c.args.words pairs c.loop-place.kept c.add_cell-kept.result c.loop-place.place c.loop-place.keys c.loop-place.cells c.add_cell-kept.new.keys c.add_cell-kept.new.cells
      (omega arith) (c.loop-place.invariant.moving pairs are) c.add_cell-kept.ensures.moved;
  kept = c.add_cell-kept.ensures.bound;
  keys = omega arith;
  whole = rw (c.add_cell-kept.auto.cells, c.add_cell-kept.auto.keys) c.loop-place.invariant.whole;
}

pub returns : goal.returns
returns c = record {
  merged = λ pairs are.
      let count = count_pairs c.args.words pairs c.args.keys.now c.args.cells.now are in
      all_moved c.args.spec.now c.args.words pairs c.loop-place.kept c.loop-place.place c.loop-place.keys c.loop-place.cells (omega arith) (c.loop-place.invariant.moving pairs are);
  bound = let same = c.loop-place.auto.keys in let end = c.loop-place.auto.place-end in let few = c.loop-place.invariant.kept in omega arith;
}
