use Rattle.std.proofs.Common.{◌++◌, List, ap, sym, ◌∙◌}
use Rattle.std.proofs.lemmas.List.{append-nil}
use Rattle.clear_sql.specs.declared.answer.Group.{Group}
use Rattle.clear_sql.proofs.CellAnswers.{no_group, some_group}
use Rattle.clear_sql.proofs.reading.push_label.Goals as goal

pub returns-then-rows-eq0 : goal.returns-then-rows-eq0
returns-then-rows-eq0 c =
    sym (ap (λ (l : List Group). c.args.groups.now.items ++ l) (no_group c.args.columns.now c.args.items.now c.args.label c.args.block.now c.if-rows-eq0.true) ∙ append-nil c.args.groups.now.items)

pub returns : goal.returns
returns c =
    let now = rw c.in_ok-results.ensures at c.in_ok-push.ensures.items in
    now ∙ ap (λ (l : List Group). c.args.groups.now.items ++ l) (sym (some_group c.args.columns.now c.args.items.now c.args.label c.args.block.now c.if-rows-eq0.false))
