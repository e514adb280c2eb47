use Rattle.std.proofs.Common.{◌≡◌, ◌<◌, refl, sym, ap, ap₂, ◌∙◌, arith, subst}
use Rattle.spl_words.specs.declared.provider.Provider.{Provider}
use Rattle.spl_words.specs.declared.provider.Provider.TheVariants.{Zero, One}
use Rattle.spl_words.specs.Secrets.{Secret}
use Rattle.seed_expansion.specs.declared.nodes.Block.{Block}
use Rattle.seed_expansion.specs.declared.nodes.Place.{Place}
use Rattle.seed_expansion.specs.Tapes.{block_at, or_no_block, tape_meaning}
use Rattle.seed_expansion.specs.Walk.{corrections, node, path, place, side}
use Rattle.interval_keys.specs.Thresholds.{level_between}
use Rattle.tape_bijection.specs.Moves.{kept_bit}
use Rattle.tape_bijection.proofs.MapStep.{unmapped}
use Rattle.tape_bijection.proofs.MapLevel.{Did, blocks_next, entries_next, kept_next, moved_with, no_entries, one_next, zero_next}
use Rattle.tape_bijection.proofs.trees.map_levels.Goals as goal

pub loop-level-init : goal.loop-level-init
unfolding path node
loop-level-init c = (
  λ q. sym (unmapped c.args.from.now.kind (tape_meaning c.args.tape.now) c.args.provider c.args.tree c.args.from.now c.args.to.now q 0),
  λ q. refl,
  c.root_of-zero.ensures,
  c.root_of-one.ensures,
  c.root_of-kept.ensures,
  λ q. sym (no_entries c.args.tape.now c.args.provider c.args.tree c.args.from.now c.args.to.now q),
)

pub loop-level-preserved : goal.loop-level-preserved
loop-level-preserved c =
    let s = c.args.from.now in
    let s2 = c.args.to.now in
    let i = c.loop-level.level in
    let t = c.loop-level.tape in
    let new = c.exchange_blocks.new.tape in
    let read : Place → Block = λ q. or_no_block (block_at t q) in
    let spot : Provider → Secret → Secret → Place = λ r v w. place c.args.tree r v.depth w.alpha i in
    let did : Did s.kind c.args.tape.now t c.args.provider c.args.tree s s2 i c.place_of-first.result c.place_of-second.result c.goes_right-keep.result c.goes_right-keep2.result c.loop-level.zero c.loop-level.one c.loop-level.kept c.block_on-block_zero.result c.block_on-block_one.result c.block_on-block_kept.result c.block_on-theirs.result c.level_for-row.result =
    record {
      below = subst (λ (v : Secret). i < v.depth) c.from.view_is c.loop-level-test.true;
      before = c.loop-level.invariant.0;
      zero_is = c.loop-level.invariant.2;
      one_is = c.loop-level.invariant.3;
      kept_is = c.loop-level.invariant.4;
      first_is = c.place_of-first.ensures ∙ ap₂ (λ r v. spot r v v) c.other-moving.ensures c.from.view_is;
      second_is = c.place_of-second.ensures ∙ ap₂ (spot c.other-moving.result) c.from.view_is c.to.view_is ∙ ap (λ r. spot r s s2) c.other-moving.ensures;
      keep_is = c.goes_right-keep.ensures ∙ ap (λ (v : Secret). side v.depth v.alpha i) c.from.view_is;
      keep2_is = c.goes_right-keep2.ensures ∙ ap₂ (λ (v w : Secret). side v.depth w.alpha i) c.from.view_is c.to.view_is;
      b0_is = c.block_on-block_zero.ensures ∙ ap read (c.place_of-place_zero.ensures ∙ ap (λ v. spot Zero v v) c.from.view_is);
      b1_is = c.block_on-block_one.ensures ∙ ap read (c.place_of-place_one.ensures ∙ ap (λ v. spot One v v) c.from.view_is);
      own_is = c.block_on-block_kept.ensures ∙ ap read (c.place_of-place_kept.ensures ∙ ap₂ (spot c.args.provider) c.from.view_is c.to.view_is);
      theirs_is = c.block_on-theirs.ensures;
      row_is = c.level_for-row.ensures ∙ ap (λ (v : Secret). level_between c.goes_right-keep.result v.beta c.loop-level.zero.bit c.loop-level.one.bit c.block_on-block_zero.result c.block_on-block_one.result) c.from.view_is;
    } in (
      blocks_next s.kind c.args.tape.now t c.args.provider c.args.tree s s2 i _ _ _ _ _ _ _ _ _ _ _ _ did new
          (c.in_ok-exchange_blocks.ensures.second ∙ c.moved_of-moved.ensures ∙ ap₂ (λ (v w : Secret). moved_with v.kind c.args.provider w.beta c.goes_right-keep.result c.goes_right-keep2.result c.loop-level.kept.bit c.level_for-row.result c.block_on-theirs.result c.block_on-block_kept.result) c.from.view_is c.to.view_is)
          c.in_ok-exchange_blocks.ensures.first c.in_ok-exchange_blocks.ensures.elsewhere,
      λ q. c.in_ok-exchange_blocks.ensures.leaves q ∙ c.loop-level.invariant.1 q,
      c.child_of-zero.ensures ∙ zero_next s.kind c.args.tape.now t c.args.provider c.args.tree s s2 i _ _ _ _ _ _ _ _ _ _ _ _ did,
      c.child_of-one.ensures ∙ one_next s.kind c.args.tape.now t c.args.provider c.args.tree s s2 i _ _ _ _ _ _ _ _ _ _ _ _ did,
      c.child_of-kept.ensures ∙ kept_next s.kind c.args.tape.now t c.args.provider c.args.tree s s2 i _ _ _ _ _ _ _ _ _ _ _ _ did,
      entries_next s.kind c.args.tape.now t c.args.provider c.args.tree s s2 i _ _ _ _ _ _ _ _ _ _ _ _ did new
          c.in_ok-exchange_blocks.ensures.second_entry c.in_ok-exchange_blocks.ensures.first_entry c.in_ok-exchange_blocks.ensures.elsewhere c.loop-level.invariant.5,
    )

pub returns-clause-kept : goal.returns-clause-kept
unfolding kept_bit
returns-clause-kept c =
    let end : c.loop-level.level ≡ c.args.from.now.depth = omega (arith, ap (λ (v : Secret). v.depth) c.from.view_is) in
    let e = tape_meaning c.args.tape.now in
    let s = c.args.from.now in
    ap (λ n. n.bit) c.loop-level.invariant.4 ∙ ap (λ n. (node e c.args.provider c.args.tree s.depth 0 (corrections e c.args.tree s (0, 0) s.depth) c.args.to.now.alpha n).bit) end
