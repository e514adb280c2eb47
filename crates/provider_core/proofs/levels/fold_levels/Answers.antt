use Rattle.std.proofs.Common.{◌≡◌, ◌≤◌, ◌<◌, ◌+◌, ◌-◌, refl, ap, ◌∙◌, arith}
use Rattle.std.proofs.lemmas.Option.{slice_get_within, get_or_from_slice_get}
use Rattle.key_frames.specs.Keys.{depth}
use Rattle.cell_merge.specs.TableRows.{adds_in}
use Rattle.provider_core.specs.Cells.{first_levels}
use Rattle.provider_core.proofs.AnswerWords.{level_more}
use Rattle.provider_core.proofs.LevelCells.{below_next, by_row_number, few_at, from_row_number, next_at, round_width, row_number}
use Rattle.provider_core.proofs.levels.fold_levels.Goals as goal

pub fold_level-requires-clause-few : goal.fold_level-requires-clause-few
fold_level-requires-clause-few g c κs within =
    let f = c.args.folding.now in
    let frame = f.asked.now.frame in
    let level = c.loop-level.level in
    let each = by_row_number f.asked.now.checked f.table.now frame.round level (first_levels frame.keys - level) c.loop-level.cells c.loop-level.invariant.cells in
    let few = few_at f.asked.now.checked f.table.now (row_number f.asked.now.checked f.table.now frame.round) level c.loop-level.cells.keys c.loop-level.cells.cells c.shape.ensures.valid each in
    omega (arith, few)

pub fold_level-requires-2-clause-few : goal.fold_level-requires-2-clause-few
fold_level-requires-2-clause-few g c κs within =
    let f = c.args.folding.now in
    let frame = f.asked.now.frame in
    let level = c.loop-level.level in
    let each = by_row_number f.asked.now.checked f.table.now frame.round level (first_levels frame.keys - level) c.loop-level.cells c.loop-level.invariant.cells in
    let few = few_at f.asked.now.checked f.table.now (row_number f.asked.now.checked f.table.now frame.round) level c.loop-level.cells.keys c.loop-level.cells.cells c.shape.ensures.valid each in
    omega (arith, few)

pub loop-level-preserved : goal.loop-level-preserved
loop-level-preserved g c =
    let f = c.args.folding.now in
    let checked = f.asked.now.checked in
    let frame = f.asked.now.frame in
    let table = f.table.now in
    let level = c.loop-level.level in
    let bits = first_levels frame.keys in
    let number = row_number checked table frame.round in
    let inside : level ≤ bits = omega (arith, c.loop-level-test.true, c.first_levels-bits.ensures, ap first_levels c.as_slice-keys.ensures) in
    let more : 1 ≤ bits - level = omega (arith, c.loop-level-test.true, c.first_levels-bits.ensures, ap first_levels c.as_slice-keys.ensures) in
    let are = c.loop-level.invariant.cells in
    let here = by_row_number checked table frame.round level (bits - level) c.loop-level.cells are in
    let next = next_at checked table number level c.loop-level.cells.keys c.loop-level.cells.cells c.lift.new.table.keys c.lift.new.table.cells c.shape.ensures.valid (c.lift.ensures.lifted (adds_in table.shape.schema.columns)) here in
    let less : bits - level - 1 ≡ bits - (level + 1) = omega arith in
    let below = below_next checked table number level (bits - level) c.loop-level.cells.keys c.loop-level.cells.cells c.lift.new.table.keys c.lift.new.table.cells more here are.below next in
    record {
      cells = from_row_number checked table frame.round (level + 1) (bits - (level + 1)) c.lift.new.table next (c.lift.ensures.width ∙ are.width ∙ round_width checked table frame.round level) c.lift.ensures.whole (rw less at below);
      done = level_more (g.E.Expander.meaning f.expander.now) f.provider f.first_tree checked table frame.round bits frame.keys level (bits - level) c.loop-level.cells.width c.loop-level.cells.keys c.loop-level.cells.cells c.loop-level.words c.fold_level.new.words
          inside refl (are.width ∙ round_width checked table frame.round level) (rw (round_width checked table frame.round level) at are.each) (rw (c.first_levels-bits.ensures, c.as_slice-keys.ensures) at c.fold_level.ensures) c.loop-level.invariant.done;
    }

pub returns : goal.returns
returns g c = λ i key h.
    let f = c.args.folding.now in
    let checked = f.asked.now.checked in
    let frame = f.asked.now.frame in
    let table = f.table.now in
    let level = c.loop-level.level in
    let least = c.least_depth-least.result in
    let bits = first_levels frame.keys in
    let same_bits : c.first_levels-bits.result ≡ bits = c.first_levels-bits.ensures ∙ ap first_levels c.as_slice-keys.ensures in
    let inside : level ≤ bits = omega (arith, c.loop-level.auto.level-end, same_bits) in
    let last : least ≡ bits - level = omega (arith, c.loop-level.auto.level-end, c.loop-level-test.false, c.least_depth-least.ensures.most, same_bits) in
    let are = c.loop-level.invariant.cells in
    let here = rw (← c.as_slice-keys.ensures) at h in
    let deep = c.least_depth-least.ensures.least i key (slice_get_within c.as_slice-keys.result.now i key here) in
    let same = ap depth (get_or_from_slice_get c.as_slice-keys.result.now i key key here) in
    let reached : bits < depth key + (level + 1) = omega (arith, deep, same, last, inside) in
    level_more (g.E.Expander.meaning f.expander.now) f.provider f.first_tree checked table frame.round bits frame.keys level least c.loop-level.cells.width c.loop-level.cells.keys c.loop-level.cells.cells c.loop-level.words c.fold_level-2.new.words
    inside last (are.width ∙ round_width checked table frame.round level) (rw (round_width checked table frame.round level) at are.each) c.fold_level-2.ensures c.loop-level.invariant.done i key h reached
