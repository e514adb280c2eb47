use Rattle.std.proofs.Common.{◌≤◌, Ok, Err, List, sym, ap, subst, ◌∙◌}
use Rattle.std.proofs.lemmas.Result.{err_from_is_err_and}
use Rattle.spl_words.specs.Secrets.{Secret}
use Rattle.spl_values.specs.Shapes.{ShapeParts}
use Rattle.private_plan.specs.declared.plans.Plan.{Plan}
use Rattle.private_plan.specs.declared.secrets.SecretFault.{SecretFault}
use Rattle.private_plan.specs.Counts.{counts_taken}
use Rattle.private_plan.proofs.PositionSlots.{counts_few, never_both, secrets_refused, secrets_told}
use Rattle.private_plan.proofs.secrets.round_secrets.Goals as goal

pub check_counts-requires : goal.check_counts-requires
check_counts-requires c =
    let plan = c.requires.plan in
    counts_few c.args.checked.now c.args.shape.now c.args.round c.args.counts.now c.requires.accepted c.requires.round.0 (subst (λ (p : Plan). c.args.round ≤ p.rounds) plan c.requires.round.1) c.requires.none
    (λ e. c.requires.told e ∙ ap (λ (p : Plan). p.first_words) plan)

pub returns-in_err-check_counts-clause-refusals : goal.returns-in_err-check_counts-clause-refusals
returns-in_err-check_counts-clause-refusals c = λ e told.
    let failed = err_from_is_err_and c.from_residual.result c.from_residual.ensures.1 in
    let refused = sym (ap (λ (s : ShapeParts). counts_taken s.rows 0 c.args.counts.now) c.shape.view_is) ∙ (sym c.check_counts.ensures ∙ c.in_err-check_counts.was) in
    failed.1 ∙ ap (λ (x : SecretFault). Err x) failed.2
    ∙ (sym (secrets_refused c.args.checked.now c.args.shape.now c.args.params.now (record { number = c.args.round; counts = c.args.counts.now }) _ refused) ∙ told)

pub returns-in_err-secrets-clause-refusals : goal.returns-in_err-secrets-clause-refusals
returns-in_err-secrets-clause-refusals c = λ e told.
    let taken = sym (ap (λ (s : ShapeParts). counts_taken s.rows 0 c.args.counts.now) c.shape.view_is) ∙ (sym c.check_counts.ensures ∙ c.in_ok-check_counts.was) in
    absurd (never_both _ _ _ (secrets_told c.args.checked.now c.args.shape.now c.args.params.now (record { number = c.args.round; counts = c.args.counts.now }) taken) told)

pub returns-clause-gives : goal.returns-clause-gives
returns-clause-gives c =
    let taken = sym (ap (λ (s : ShapeParts). counts_taken s.rows 0 c.args.counts.now) c.shape.view_is) ∙ (sym c.check_counts.ensures ∙ c.in_ok-check_counts.was) in
    secrets_told c.args.checked.now c.args.shape.now c.args.params.now (record { number = c.args.round; counts = c.args.counts.now }) taken
    ∙ ap (λ (l : List Secret). Ok l) (sym (c.from_vec.ensures ∙ c.in_ok-secrets.ensures))

pub returns-clause-refusals : goal.returns-clause-refusals
returns-clause-refusals c = λ e told.
    let taken = sym (ap (λ (s : ShapeParts). counts_taken s.rows 0 c.args.counts.now) c.shape.view_is) ∙ (sym c.check_counts.ensures ∙ c.in_ok-check_counts.was) in
    absurd (never_both _ _ _ (secrets_told c.args.checked.now c.args.shape.now c.args.params.now (record { number = c.args.round; counts = c.args.counts.now }) taken) told)
