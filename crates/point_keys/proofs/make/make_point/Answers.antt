use Rattle.std.proofs.Common.{◌≡◌, length, ap, ◌∙◌, add-one, arith}
use Rattle.spl_words.specs.declared.secret.TreeKind.TheVariants.{Point}
use Rattle.seed_expansion.specs.Walk.{path, corrections, correction_of}
use Rattle.seed_expansion.proofs.Walk.{corrections-more, length-corrections}
use Rattle.point_keys.proofs.Made.{point_made}
use Rattle.point_keys.proofs.make.make_point.Goals as goal

pub loop-level-init : goal.loop-level-init
unfolding path corrections
loop-level-init g c = (cc, cc, c.new-levels.ensures)

pub loop-level-preserved : goal.loop-level-preserved
unfolding path correction_of
loop-level-preserved g c = (rw add-one (cc), rw add-one (cc), rw corrections-more (cc (c.in_ok-push.ensures.ok)))

pub returns-clause-keys : goal.returns-clause-keys
returns-clause-keys g c =
    let end : c.loop-level.level ≡ c.args.bits = omega arith in
    point_made (g.E.Expander.meaning c.args.expander.now) c.args.tree (record { kind = Point; depth = c.args.bits; alpha = c.args.alpha; beta = c.args.beta }) c.args.roots
    (record {
      end = end;
      zero_is = c.loop-level.invariant.0;
      one_is = c.loop-level.invariant.1;
      w0_is = cc (c.leaf-word_zero.ensures, c.place_of-leaf_zero.ensures);
      w1_is = cc (c.leaf-word_one.ensures, c.place_of-leaf_one.ensures);
      last_is = c.last_word-last.ensures;
    })
    c.loop-level.invariant.2 c.in_ok-copied.ensures.cases

pub returns-clause-levels : goal.returns-clause-levels
returns-clause-levels g c =
    let end : c.loop-level.level ≡ c.args.bits = omega arith in
    let long : length c.loop-level.levels ≡ c.args.bits = ap length c.loop-level.invariant.2 ∙ length-corrections _ _ _ _ _ ∙ end in
    (long, ap length c.in_ok-copied.ensures.cases ∙ long)
