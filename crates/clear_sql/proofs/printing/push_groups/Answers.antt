use Rattle.std.proofs.Common.{sym, arith}
use Rattle.std.proofs.lemmas.List.{append-nil}
use Rattle.clear_sql.specs.AnswerText.{group_lines}
use Rattle.clear_sql.proofs.Lines.{lines-more, lines-all}
use Rattle.clear_sql.proofs.printing.push_groups.Goals as goal

pub loop-group-init : goal.loop-group-init
loop-group-init c = sym (append-nil c.args.text.now.items)

pub loop-group-preserved : goal.loop-group-preserved
loop-group-preserved c =
    lines-more (group_lines c.args.columns.now c.args.spec.now) c.args.groups.now c.loop-group.group-index c.group-item.result c.group-item.result c.args.text.now.items c.loop-group.text.items c.push_group.new.text.items c.loop-group-test.true c.group-item.is c.loop-group.invariant c.in_ok-push_group.ensures

pub returns : goal.returns
returns c = lines-all (group_lines c.args.columns.now c.args.spec.now) c.args.groups.now c.loop-group.group-index c.args.text.now.items c.loop-group.text.items (omega arith) c.loop-group.invariant

pub push_group-requires-clause-group : goal.push_group-requires-clause-group
push_group-requires-clause-group c = rw c.group-item.is (c.requires.groups c.loop-group.group-index c.group-item.result c.loop-group-test.true)
