use Rattle.std.proofs.Common.{◌≡◌, length, ap, ◌∙◌, arith}
use Rattle.spl_words.specs.Secrets.{Secret}
use Rattle.spl_words.specs.declared.secret.TreeKind.TheVariants.{Threshold}
use Rattle.seed_expansion.specs.Walk.{path}
use Rattle.interval_keys.specs.Thresholds.{levels}
use Rattle.interval_keys.proofs.ThresholdLaw.{length-levels}
use Rattle.interval_keys.proofs.OneLevel.{Turn, zero_turns, one_turns, rows_grow}
use Rattle.interval_keys.proofs.Made.{threshold_made}
use Rattle.interval_keys.proofs.make.make_threshold.Goals as goal

pub loop-level-init : goal.loop-level-init
unfolding path levels
loop-level-init g c = (cc, cc, c.new-levels.ensures)

pub loop-level-preserved : goal.loop-level-preserved
loop-level-preserved g c =
    let e = g.E.Expander.meaning c.args.expander.now in
    let s : Secret = record { kind = Threshold; depth = c.args.bits; alpha = c.args.alpha; beta = c.args.beta } in
    let turn : Turn e c.args.tree s c.args.roots c.loop-level.level c.loop-level.zero c.loop-level.one c.goes_right-keep_right.result c.block-block_zero.result c.block-block_one.result c.level_for-row.result = record {
      zero_is = c.loop-level.invariant.0;
      one_is = c.loop-level.invariant.1;
      side_is = c.goes_right-keep_right.ensures;
      b0_is = c.block-block_zero.ensures ∙ ap (λ q. e.block q c.loop-level.zero.seed) c.place_of-place_zero.ensures;
      b1_is = c.block-block_one.ensures ∙ ap (λ q. e.block q c.loop-level.one.seed) c.place_of-place_one.ensures;
      row_is = c.level_for-row.ensures;
    } in (
      c.child_of-zero.ensures ∙ zero_turns turn,
      c.child_of-one.ensures ∙ one_turns turn,
      c.in_ok-push.ensures.ok ∙ rows_grow turn c.loop-level.invariant.2,
    )

pub returns-clause-keys : goal.returns-clause-keys
returns-clause-keys g c =
    let end : c.loop-level.level ≡ c.args.bits = omega arith in
    threshold_made (g.E.Expander.meaning c.args.expander.now) c.args.tree (record { kind = Threshold; depth = c.args.bits; alpha = c.args.alpha; beta = c.args.beta }) c.args.roots
    (record {
      end = end;
      zero_is = c.loop-level.invariant.0;
      one_is = c.loop-level.invariant.1;
      w0_is = cc (c.leaf-word_zero.ensures, c.place_of-leaf_zero.ensures);
      w1_is = cc (c.leaf-word_one.ensures, c.place_of-leaf_one.ensures);
      last_is = c.last_word-last.ensures;
    })
    c.loop-level.invariant.2 c.in_ok-copied.ensures.cases

pub returns-clause-levels : goal.returns-clause-levels
returns-clause-levels g c =
    let end : c.loop-level.level ≡ c.args.bits = omega arith in
    let long : length c.loop-level.levels ≡ c.args.bits = ap length c.loop-level.invariant.2 ∙ length-levels _ _ _ _ _ ∙ end in
    (long, ap length c.in_ok-copied.ensures.cases ∙ long)
