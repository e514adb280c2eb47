use Rattle.std.proofs.Common.{◌≡◌, ◌+◌, ◌-◌, ◌++◌, suc, take, drop, ap, sym, subst, ◌∙◌, arith}
use Rattle.std.specs.List.{AllZip}
use Rattle.std.proofs.lemmas.List.{append_assoc, append-nil}
use Rattle.query_reader.specs.Matching.{branch_params}
use Rattle.query_reader.specs.Params.{HasBits, branch_columns, times}
use Rattle.query_reader.proofs.Known.{checked_some, checked_columns, checked_bits, checked_narrow, checked_branches}
use Rattle.private_plan.specs.Branches.{branch_span, branch_spans}
use Rattle.private_plan.proofs.Spans.{front, back, own_params}
use Rattle.private_plan.proofs.branches.branch_spans.Goals as goal

pub split_at-requires : goal.split_at-requires
split_at-requires c =
    let checked = c.args.checked.now in
    let columns = c.args.schema.now.columns in
    let some = checked_some checked c.args.schema.now c.requires.accepted c.facts.ensures.form in
    let m = checked.branches - (c.loop.counter + 1) in
    let left : checked.branches - c.loop.counter ≡ suc m = omega (arith, c.loop-test.true) in
    let zip = subst (λ k. AllZip (HasBits columns) (times k (branch_columns checked.columns checked.range)) c.loop.rest.now) left c.loop.invariant.1 in
    let each : c.params_of_branch-each.result ≡ branch_params checked.columns checked.range = c.params_of_branch-each.ensures ∙ ap (λ l. branch_params l checked.range) c.as_slice-places.ensures in
    rw each (own_params columns checked.columns checked.range some m c.loop.rest.now zip).0

pub branch_span-requires-clause-some : goal.branch_span-requires-clause-some
branch_span-requires-clause-some c = rw c.as_slice-places.ensures (checked_some c.args.checked.now c.args.schema.now c.requires.accepted c.facts.ensures.form)

pub branch_span-requires-clause-columns : goal.branch_span-requires-clause-columns
branch_span-requires-clause-columns c = rw c.as_slice-places.ensures (checked_columns c.args.checked.now c.args.schema.now c.requires.accepted)

pub branch_span-requires-clause-bits : goal.branch_span-requires-clause-bits
branch_span-requires-clause-bits c =
    let bits = checked_bits c.args.checked.now c.args.schema.now c.requires.accepted in
    rw (c.as_slice-places.ensures, ← bits) (checked_narrow c.args.checked.now c.args.schema.now c.requires.accepted)

pub branch_span-requires-clause-below : goal.branch_span-requires-clause-below
branch_span-requires-clause-below c =
    let checked = c.args.checked.now in
    let columns = c.args.schema.now.columns in
    let some = checked_some checked c.args.schema.now c.requires.accepted c.facts.ensures.form in
    let m = checked.branches - (c.loop.counter + 1) in
    let left : checked.branches - c.loop.counter ≡ suc m = omega (arith, c.loop-test.true) in
    let zip = subst (λ k. AllZip (HasBits columns) (times k (branch_columns checked.columns checked.range)) c.loop.rest.now) left c.loop.invariant.1 in
    let each : c.params_of_branch-each.result ≡ branch_params checked.columns checked.range = c.params_of_branch-each.ensures ∙ ap (λ l. branch_params l checked.range) c.as_slice-places.ensures in
    rw (c.as_slice-places.ensures, c.split_at.ensures.front, each) (front columns checked.columns checked.range some m c.loop.rest.now zip)

pub branch_span-requires-clause-enough : goal.branch_span-requires-clause-enough
branch_span-requires-clause-enough c =
    let checked = c.args.checked.now in
    let columns = c.args.schema.now.columns in
    let some = checked_some checked c.args.schema.now c.requires.accepted c.facts.ensures.form in
    let m = checked.branches - (c.loop.counter + 1) in
    let left : checked.branches - c.loop.counter ≡ suc m = omega (arith, c.loop-test.true) in
    let zip = subst (λ k. AllZip (HasBits columns) (times k (branch_columns checked.columns checked.range)) c.loop.rest.now) left c.loop.invariant.1 in
    let each : c.params_of_branch-each.result ≡ branch_params checked.columns checked.range = c.params_of_branch-each.ensures ∙ ap (λ l. branch_params l checked.range) c.as_slice-places.ensures in
    rw (c.as_slice-places.ensures, c.split_at.ensures.front, each) (own_params columns checked.columns checked.range some m c.loop.rest.now zip).1

pub push-requires : goal.push-requires
push-requires c =
    let few = (checked_branches c.args.checked.now c.args.schema.now c.requires.accepted).1 in
    (omega arith, omega (arith, few, c.loop-test.true, c.loop.invariant.2))

pub loop-preserved : goal.loop-preserved
unfolding branch_spans
loop-preserved c =
    let checked = c.args.checked.now in
    let columns = c.args.schema.now.columns in
    let some = checked_some checked c.args.schema.now c.requires.accepted c.facts.ensures.form in
    let m = checked.branches - (c.loop.counter + 1) in
    let left : checked.branches - c.loop.counter ≡ suc m = omega (arith, c.loop-test.true) in
    let zip = subst (λ k. AllZip (HasBits columns) (times k (branch_columns checked.columns checked.range)) c.loop.rest.now) left c.loop.invariant.1 in
    let each : c.params_of_branch-each.result ≡ branch_params checked.columns checked.range = c.params_of_branch-each.ensures ∙ ap (λ l. branch_params l checked.range) c.as_slice-places.ensures in
    let own = c.branch_span.ensures ∙ (ap (λ l. branch_span columns l checked.range c.split_at.result.0.now) c.as_slice-places.ensures ∙ ap (branch_span columns checked.columns checked.range) (c.split_at.ensures.front ∙ ap (λ k. take k c.loop.rest.now) each)) in
    let more = c.split_at.ensures.back ∙ ap (λ k. drop k c.loop.rest.now) each in
    let invariant = subst (λ k. c.loop.spans.items ++ branch_spans columns k checked.columns checked.range c.loop.rest.now ≡ branch_spans columns checked.branches checked.columns checked.range c.args.params.now) left c.loop.invariant.0 in (
      rw (c.push.ensures.items, own, more, append_assoc) (invariant),
      rw more (back columns checked.columns checked.range some m c.loop.rest.now zip),
      c.push.ensures.len ∙ ap (λ n. n + 1) c.loop.invariant.2,
    )

pub returns-clause-spans : goal.returns-clause-spans
unfolding branch_spans
returns-clause-spans c =
    let checked = c.args.checked.now in
    let none : checked.branches - c.loop.counter ≡ 0 = omega (arith, c.loop-test.false) in
    sym (append-nil c.loop.spans.items)
    ∙ (ap (λ k. c.loop.spans.items ++ branch_spans c.args.schema.now.columns k checked.columns checked.range c.loop.rest.now) (sym none) ∙ c.loop.invariant.0)
