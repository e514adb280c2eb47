use Rattle.std.proofs.Common.{◌-◌, ◌^◌, ◌<◌, ◌++◌, List, map, slice_index, ap, sym, ◌∙◌, arith, rules}
use Rattle.std.proofs.lemmas.List.{append-nil}
use Rattle.cell_merge.specs.declared.entry.Entry.{Entry}
use Rattle.clear_sql.specs.CellAnswers.{entry_row}
use Rattle.clear_sql.proofs.CellAnswers.{no_entry, one_entry, one_entry-reads}
use Rattle.clear_sql.proofs.reading.push_entry.Goals as goal

pub returns-then-place-eq0 : goal.returns-then-place-eq0
returns-then-place-eq0 c =
    rw (no_entry c.args.entry.now c.requires.length c.if-place-eq0.true) (sym (append-nil c.args.rows.now.items))

pub overflow_cast-row : goal.overflow_cast-row
overflow_cast-row c =
    let reads = one_entry-reads c.args.columns.now c.args.sort c.args.show c.args.entry.now c.requires.length c.if-place-eq0.false c.requires.words in
    let few = reads.row in
    let small : slice_index c.args.entry.now 0 - 1 < 2 ^ 32 = omega arith in
    search rules

pub value_of-sort_value-requires-clause-code : goal.value_of-sort_value-requires-clause-code
value_of-sort_value-requires-clause-code c =
    (one_entry-reads c.args.columns.now c.args.sort c.args.show c.args.entry.now c.requires.length c.if-place-eq0.false c.requires.words).sort_code

pub value_of-show_value-requires-clause-code : goal.value_of-show_value-requires-clause-code
value_of-show_value-requires-clause-code c =
    (one_entry-reads c.args.columns.now c.args.sort c.args.show c.args.entry.now c.requires.length c.if-place-eq0.false c.requires.words).show_code

pub returns : goal.returns
returns c =
    let now = rw (c.value_of-sort_value.ensures, c.value_of-show_value.ensures) at c.in_ok-push.ensures.items in
    now ∙ ap (λ (l : List Entry). c.args.rows.now.items ++ map (entry_row c.args.columns.now c.args.sort c.args.show) l) (sym (one_entry c.args.entry.now c.requires.length c.if-place-eq0.false))
