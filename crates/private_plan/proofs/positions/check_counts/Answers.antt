use Rattle.std.proofs.Common.{length, Err, sym, ap, ◌∙◌, arith, rules}
use Rattle.std.specs.Slice.Iter.{chunks_exact_rest}
use Rattle.std.proofs.lemmas.List.{length-append}
use Rattle.std.proofs.lemmas.Result.{err_from_is_err_and}
use Rattle.private_plan.specs.declared.secrets.SecretFault.{SecretFault}
use Rattle.private_plan.proofs.PositionSlots.{no_pair, pair_passed, pair_refused}
use Rattle.private_plan.proofs.positions.check_counts.Goals as goal

pub loop-pair-preserved : goal.loop-pair-preserved
loop-pair-preserved c =
    let invariant = c.loop-pair.invariant in
    let steps = c.in-Some.ensures.steps in
    let rest = chunks_exact_rest c.next.new.self in
    let pair = c.in-Some.pair.now in
    let two = steps.1.1 ∙ invariant.2 in
    let long = ap length steps.1.0 ∙ length-append pair rest in
    let passed = sym c.check_pair.ensures ∙ c.in_ok-check_pair.was in (
      search rules,
      tt,
      steps.0 ∙ invariant.2,
      omega (arith, long, two, invariant.3),
      sym (pair_passed c.args.rows c.from.result c.loop-pair.place (chunks_exact_rest c.loop-pair.pair-iterator) pair rest c.from.ensures steps.1.0 two passed) ∙ invariant.4,
    )

pub returns-in_err-check_pair : goal.returns-in_err-check_pair
returns-in_err-check_pair c =
    let invariant = c.loop-pair.invariant in
    let steps = c.in-Some.ensures.steps in
    let failed = err_from_is_err_and c.from_residual.result c.from_residual.ensures.1 in
    let refused = sym c.check_pair.ensures ∙ c.in_err-check_pair.was in
    failed.1 ∙ ap (λ (e : SecretFault). Err e) failed.2
    ∙ (sym (pair_refused c.args.rows c.from.result c.loop-pair.place (chunks_exact_rest c.loop-pair.pair-iterator) c.in-Some.pair.now (chunks_exact_rest c.next.new.self) _ c.from.ensures steps.1.0 (steps.1.1 ∙ invariant.2) refused) ∙ invariant.4)

pub returns : goal.returns
returns c =
    let short = rw c.loop-pair.invariant.2 at c.in-None.ensures.steps.1.0 in
    sym (no_pair c.args.rows c.loop-pair.place (chunks_exact_rest c.loop-pair.pair-iterator) short) ∙ c.loop-pair.invariant.4
