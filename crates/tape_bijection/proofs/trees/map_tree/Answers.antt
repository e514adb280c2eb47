use Rattle.std.proofs.Common.{ℕ, ap, ap₂, ◌∙◌}
use Rattle.spl_words.specs.declared.provider.Provider.{Provider}
use Rattle.spl_words.specs.declared.provider.Provider.TheVariants.{Zero, One}
use Rattle.spl_words.specs.Secrets.{Secret}
use Rattle.seed_expansion.specs.declared.nodes.Place.{Place}
use Rattle.seed_expansion.specs.Tapes.{leaf_at, or_no_block, or_no_word}
use Rattle.seed_expansion.specs.Leaves.{last_word}
use Rattle.seed_expansion.specs.Walk.{place}
use Rattle.tape_bijection.specs.Moves.{moved_word}
use Rattle.tape_bijection.specs.Mapped.{mapped_blocks, mapped_leaves}
use Rattle.tape_bijection.proofs.MapEnd.{Ended, leaves_made}
use Rattle.tape_bijection.proofs.trees.map_tree.Goals as goal

pub returns-clause-blocks : goal.returns-clause-blocks
unfolding mapped_blocks
returns-clause-blocks c = λ q seed. ap or_no_block (c.in_ok-exchange_leaves.ensures.blocks q) ∙ c.in_ok-ends.ensures.blocks q

pub returns-clause-leaves : goal.returns-clause-leaves
unfolding mapped_leaves
returns-clause-leaves c =
    let s = c.args.from.now in
    let s2 = c.args.to.now in
    let t = c.map_levels.new.tape in
    let ends = c.in_ok-ends.ends in
    let read : Place → ℕ = λ q. or_no_word (leaf_at t q) in
    let spot : Provider → Secret → Secret → Place = λ r v w. place c.args.tree r v.depth w.alpha v.depth in
    let ended : Ended c.args.tape.now t c.args.provider c.args.tree s s2 c.place_of-first.result c.place_of-second.result ends.zero ends.one ends.kept c.leaf_on-word_zero.result c.leaf_on-word_one.result c.leaf_on-word_kept.result c.last_word-last.result c.moved_word_of-moved.result =
    record {
      leaves = c.in_ok-ends.ensures.leaves;
      zero_is = c.in_ok-ends.ensures.zero;
      one_is = c.in_ok-ends.ensures.one;
      kept_is = c.in_ok-ends.ensures.kept;
      first_is = c.place_of-first.ensures ∙ ap₂ (λ r v. spot r v v) c.other-moving.ensures c.from.view_is;
      second_is = c.place_of-second.ensures ∙ ap₂ (spot c.other-moving.result) c.from.view_is c.to.view_is ∙ ap (λ r. spot r s s2) c.other-moving.ensures;
      w0_is = c.leaf_on-word_zero.ensures ∙ ap read (c.place_of-place_zero.ensures ∙ ap (λ v. spot Zero v v) c.from.view_is);
      w1_is = c.leaf_on-word_one.ensures ∙ ap read (c.place_of-place_one.ensures ∙ ap (λ v. spot One v v) c.from.view_is);
      own_is = c.leaf_on-word_kept.ensures ∙ ap read (c.place_of-place_kept.ensures ∙ ap₂ (spot c.args.provider) c.from.view_is c.to.view_is);
      last_is = c.last_word-last.ensures ∙ ap (λ (v : Secret). last_word v.beta ends.zero.bit ends.one.bit c.leaf_on-word_zero.result c.leaf_on-word_one.result) c.from.view_is;
      word_is = c.moved_word_of-moved.ensures ∙ ap (λ (w : Secret). moved_word c.args.provider ends.kept.bit c.leaf_on-word_kept.result c.last_word-last.result w.beta) c.to.view_is;
    } in
    λ q seed. leaves_made c.args.tape.now t c.args.provider c.args.tree s s2 _ _ _ _ _ _ _ _ _ _ ended c.exchange_leaves.new.tape
    c.in_ok-exchange_leaves.ensures.second c.in_ok-exchange_leaves.ensures.first c.in_ok-exchange_leaves.ensures.elsewhere q
