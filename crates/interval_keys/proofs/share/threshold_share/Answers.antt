use Rattle.std.proofs.Common.{◌≡◌, length, ap, ap₂, ◌∙◌, arith, refl}
use Rattle.spl_words.specs.Words.{plus}
use Rattle.seed_expansion.specs.Walk.{node}
use Rattle.seed_expansion.specs.Leaves.{leaf_share}
use Rattle.interval_keys.specs.Thresholds.{terms, threshold_share}
use Rattle.interval_keys.proofs.OneLevel.{Read, node_turns, terms_turn}
use Rattle.interval_keys.proofs.share.threshold_share.Goals as goal

pub loop-level-init : goal.loop-level-init
unfolding node terms
loop-level-init g c = (cc, refl)

pub loop-level-preserved : goal.loop-level-preserved
loop-level-preserved g c =
    let e = g.E.Expander.meaning c.args.expander.now in
    let read : Read e c.args.provider c.args.tree c.args.key.now c.args.x c.loop-level.level c.len-depth.result c.loop-level.node c.goes_right-right.result c.block-block.result c.at-row.result = record {
      depth_is = c.len-depth.ensures;
      node_is = c.loop-level.invariant.0;
      side_is = c.goes_right-right.ensures;
      block_is = c.block-block.ensures ∙ ap (λ q. e.block q c.loop-level.node.seed) c.place_of.ensures;
      row_is = c.at-row.ensures;
    } in
    let term = c.leaf_share.ensures ∙ ap₂ (leaf_share c.args.provider c.loop-level.node.bit) c.word_of-word.ensures c.level_word_of.ensures in (
      c.child_of-node.ensures ∙ node_turns read,
      c.plus-sum.ensures ∙ ap (plus c.loop-level.sum) term ∙ terms_turn read c.loop-level.invariant.1,
    )

pub returns : goal.returns
unfolding threshold_share
returns g c =
    let end : c.loop-level.level ≡ length c.args.key.now.levels = omega arith in
    cc
