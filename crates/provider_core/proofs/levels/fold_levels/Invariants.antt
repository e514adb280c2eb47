use Rattle.std.proofs.Common.{◌≡◌, ◌<◌, ◌+◌, ◌-◌, ℕ, Some, slice_get}
use Rattle.cell_merge.specs.Cells.{cell_width}
use Rattle.key_frames.specs.declared.keys.Key.{Key}
use Rattle.key_frames.specs.Keys.{depth}
use Rattle.provider_core.specs.Cells.{AreCells, by_number, first_levels, words_at}
use Rattle.provider_core.proofs.AnswerWords.{level_words}
use Rattle.provider_core.proofs.levels.fold_levels.Given as goal

abbrev pub invariant-loop-level : goal.invariant-loop-level
invariant-loop-level g l =
    let f = l.folding in
    let checked = f.asked.now.checked in
    let frame = f.asked.now.frame in
    let bits = first_levels frame.keys in
    record {
      cells : AreCells checked f.table.now (by_number frame.round l.level) (bits - l.level) l.cells;
      done : (i : ℕ) (key : Key) → slice_get frame.keys i ≡ Some key → bits < depth key + l.level
          → words_at (cell_width checked.spec) i l.words ≡ level_words (g.E.Expander.meaning f.expander.now) f.provider f.first_tree checked f.table.now frame.round bits i key;
    }
