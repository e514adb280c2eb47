use Rattle.std.proofs.Common.{◌-◌, ◌^◌, ◌∙◌, ap, min, not, Some, position, option_map}
use Rattle.query_reader.specs.Refusals.{same_atoms}
use Rattle.query_reader.proofs.form.differing_branch.Goals as goal

pub returns-in-Some : goal.returns-in-Some
returns-in-Some c =
    ap Some c.capped.ensures
    ∙ ap (option_map (λ i. min i (2 ^ 32 - 1))) (c.in-Some.ensures ∙ ap (λ x. position (λ b. not (same_atoms x b)) c.args.branches.now) c.first_branch.ensures)

pub returns-in-None : goal.returns-in-None
returns-in-None c =
    ap (option_map (λ i. min i (2 ^ 32 - 1))) (c.in-None.ensures ∙ ap (λ x. position (λ b. not (same_atoms x b)) c.args.branches.now) c.first_branch.ensures)
