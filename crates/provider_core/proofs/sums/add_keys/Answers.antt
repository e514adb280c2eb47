use Rattle.std.proofs.Common.{◌≡◌, List, length, subst, arith}
use Rattle.std.proofs.Math.Facts.{Fits-lt-pow}
use Rattle.spl_words.specs.Folds.{Gains}
use Rattle.key_frames.specs.declared.keys.Key.{Key}
use Rattle.key_frames.specs.Trees.{key_shares}
use Rattle.provider_core.proofs.KeySums.{no_key, key_more, all_keys}
use Rattle.provider_core.proofs.sums.add_keys.Goals as goal

pub loop-tree-init : goal.loop-tree-init
loop-tree-init g c = λ entries are.
    let f = c.args.folding.now in
    no_key (g.E.Expander.meaning f.expander.now) f.provider entries c.args.words.now (length c.args.words.now) (λ k. Fits-lt-pow (c.type_inv.words k))

pub loop-tree-preserved : goal.loop-tree-preserved
loop-tree-preserved g c = λ entries are.
    let f = c.args.folding.now in
    let width : length c.loop-tree.part ≡ length c.args.words.now = omega (arith, c.loop-tree.auto.part, c.requires.part) in
    key_more (g.E.Expander.meaning f.expander.now) f.provider c.as_slice-keys.result.now c.loop-tree.tree c.index-keys-tree.result entries (length c.args.words.now)
    c.args.words.now c.loop-tree.words c.fold_key.new.out c.add_words.new.words c.loop-tree-test.true c.index-keys-tree.is (c.loop-tree.invariant entries are) ((rw width at c.fold_key.ensures) entries are)
    (λ j b. c.add_words.ensures j (omega (arith, b, c.loop-tree.auto.words)))

pub returns : goal.returns
returns g c = λ entries are.
    let f = c.args.folding.now in
    let e = g.E.Expander.meaning f.expander.now in
    subst (λ (keys : List Key). Gains (key_shares e f.provider 0 keys) entries (length c.args.words.now) c.args.words.now c.loop-tree.words) c.as_slice-keys.ensures
    (all_keys e f.provider c.as_slice-keys.result.now c.loop-tree.tree entries (length c.args.words.now) c.args.words.now c.loop-tree.words c.loop-tree-test.false (c.loop-tree.invariant entries are))
