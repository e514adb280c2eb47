use Rattle.std.proofs.Common.{ℕ, List, length, take}
use Rattle.spl_words.specs.Folds.{AreEntries, Gains}
use Rattle.key_frames.specs.Trees.{key_shares}
use Rattle.provider_core.proofs.sums.add_keys.Given as goal

abbrev pub invariant-loop-tree : goal.invariant-loop-tree
invariant-loop-tree g l =
    (entries : List (ℕ × List ℕ)) → AreEntries (length l.initial.words) entries l.rows.keys l.rows.cells
    → Gains (key_shares (g.E.Expander.meaning l.folding.expander.now) l.folding.provider 0 (take l.tree l.keys)) entries (length l.initial.words) l.initial.words l.words
