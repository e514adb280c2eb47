use Rattle.std.proofs.Common.{◌≡◌, ◌+◌, ◌-◌, ℕ, List, ◌*◌, length, take, drop, length-drop, refl, sym, ap, ◌∙◌, subst, arith}
use Rattle.std.specs.Prelude.{◌==◌}
use Rattle.std.proofs.lemmas.Bool.{eq-eqb, ne_eqb}
use Rattle.std.proofs.lemmas.List.{length-take-le}
use Rattle.std.proofs.lemmas.Option.{slice_get_read}
use Rattle.spl_words.specs.Folds.{fold_words}
use Rattle.key_frames.specs.declared.keys.Key.{Key}
use Rattle.key_frames.specs.Keys.{depth}
use Rattle.key_frames.specs.Trees.{key_share}
use Rattle.provider_core.proofs.Places.{AreSet, all_set, fold_is, none_set, next_place, one_kept, one_set}
use Rattle.provider_core.proofs.levels.fold_level.Goals as goal
use Rattle.provider_core.proofs.levels.fold_level.Goals.{then-depth-level_depth, else-depth-level_depth}

pub loop-tree-init : goal.loop-tree-init
loop-tree-init g c = λ entries are. none_set _ _ _ _ _

pub loop-tree-preserved : goal.loop-tree-preserved
loop-tree-preserved g c = λ entries are.
    let f = c.args.folding.now in
    let width = c.args.cells.now.width in
    let keys = c.as_slice-keys.result.now in
    let t = c.loop-tree.tree in
    let k = c.index-keys-tree.result in
    let share = λ (i : ℕ) (key : Key). key_share (g.E.Expander.meaning f.expander.now) f.provider (f.first_tree + i) key in
    let here = slice_get_read keys (length keys) t k refl c.loop-tree-test.true c.index-keys-tree.is in
    let before = c.loop-tree.invariant entries are in
    elim c.if-depth-level_depth.branch [
      | then-depth-level_depth w ↦
          let size : t * width + width - t * width ≡ width = omega arith in
          let room = next_place width t (length keys) c.loop-tree-test.true in
          let whole : length c.loop-tree.words ≡ length keys * width = c.loop-tree.auto.words ∙ c.requires.room ∙ ap (λ (ks : List Key). length ks * width) (sym c.as_slice-keys.ensures) in
          let part : length (take (t * width + width - t * width) (drop (t * width) c.loop-tree.words)) ≡ width =
          length-take-le _ (drop (t * width) c.loop-tree.words) (omega (arith, length-drop (t * width) c.loop-tree.words, whole, room)) ∙ size in
          let long : length w.fold_key.new.out ≡ width = w.fold_key.auto.out ∙ part in
          let told = (rw part at w.fold_key.ensures) entries are in
          subst (AreSet width (t + 1) keys (λ key. depth key == c.args.level_depth) (λ i key. fold_words (share i key) entries width) c.args.words.now) (sym w.words-is)
          (one_set width keys _ _ _ t k c.loop-tree.words here before w.fold_key.new.out _ size (sym (ap (λ n. n == c.args.level_depth) c.depth.ensures) ∙ eq-eqb c.depth.result c.args.level_depth w.if-depth-level_depth.true)
          (fold_is (share t k) entries width w.fold_key.new.out told long) long whole)
      | else-depth-level_depth w ↦
          subst (AreSet width (t + 1) keys (λ key. depth key == c.args.level_depth) (λ i key. fold_words (share i key) entries width) c.args.words.now) (sym w.words-is)
          (one_kept width keys _ _ _ t k c.loop-tree.words here before (sym (ap (λ n. n == c.args.level_depth) c.depth.ensures) ∙ ne_eqb c.depth.result c.args.level_depth w.if-depth-level_depth.false))
    ]

pub returns : goal.returns
returns g c = λ entries are i key h.
    let keys = c.as_slice-keys.result.now in
    all_set c.args.cells.now.width keys _ _ _ c.loop-tree.tree c.loop-tree.words c.loop-tree-test.false (c.loop-tree.invariant entries are) i key (rw c.as_slice-keys.ensures h)
