use Rattle.std.proofs.Common.{ℕ, ◌+◌, List}
use Rattle.std.specs.Prelude.{◌==◌}
use Rattle.spl_words.specs.Folds.{AreEntries, fold_words}
use Rattle.key_frames.specs.Keys.{depth}
use Rattle.key_frames.specs.Trees.{key_share}
use Rattle.provider_core.proofs.Places.{AreSet}
use Rattle.provider_core.proofs.levels.fold_level.Given as goal

abbrev pub invariant-loop-tree : goal.invariant-loop-tree
invariant-loop-tree g l =
    (entries : List (ℕ × List ℕ)) → AreEntries l.width entries l.cells.keys l.cells.cells
    → AreSet l.width l.tree l.keys (λ key. depth key == l.level_depth) (λ i key. fold_words (key_share (g.E.Expander.meaning l.folding.expander.now) l.folding.provider (l.folding.first_tree + i) key) entries l.width) l.initial.words l.words
