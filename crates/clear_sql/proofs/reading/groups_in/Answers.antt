use Rattle.std.proofs.Common.{◌∙◌, arith}
use Rattle.clear_sql.proofs.CellAnswers.{no_labels, one-block-reads}
use Rattle.clear_sql.proofs.reading.groups_in.Goals as goal

pub whole_group-requires-clause-words : goal.whole_group-requires-clause-words
whole_group-requires-clause-words c =
    let whole = rw c.in-None.is at c.requires.length in
    let reads = rw c.in-None.is at c.requires.words in
    rw c.as_slice-items.ensures (one-block-reads c.args.columns.now c.args.spec.now.items c.args.cell.now (omega arith) reads)

pub groups_of-requires-clause-words : goal.groups_of-requires-clause-words
groups_of-requires-clause-words c = rw c.as_slice-items.ensures (rw c.in-Some.is at c.requires.words)

pub returns-then-spec-eq0 : goal.returns-then-spec-eq0
returns-then-spec-eq0 c =
    rw c.in-Some.is (no_labels c.args.columns.now c.args.spec.now.items c.args.spec.now.labels c.args.cell.now c.from_vec.result c.if-spec-eq0.true (c.from_vec.ensures ∙ c.new.ensures.items))
