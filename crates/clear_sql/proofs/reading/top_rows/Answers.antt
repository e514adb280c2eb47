use Rattle.std.proofs.Common.{◌++◌, List, map, ap, sym, ◌∙◌, arith}
use Rattle.cell_merge.specs.Entries.{entries_of}
use Rattle.clear_sql.specs.declared.answer.TopRow.{TopRow}
use Rattle.clear_sql.specs.CellAnswers.{entry_row}
use Rattle.clear_sql.proofs.CellAnswers.{entries-parts, rows-more, rows-end}
use Rattle.clear_sql.proofs.reading.top_rows.Goals as goal

pub loop-i-init : goal.loop-i-init
loop-i-init c = record {
  rows = ap (λ (l : List TopRow). l ++ map (entry_row c.args.columns.now c.args.sort c.args.show) (entries_of c.args.words.now)) (sym c.new-rows.ensures.items);
  reads = c.requires.words;
}

pub push_entry-requires-clause-words : goal.push_entry-requires-clause-words
push_entry-requires-clause-words c =
    (entries-parts c.args.columns.now c.args.sort c.args.show c.args.words.now c.loop-i.i (omega arith) c.loop-i.invariant.reads).0

pub loop-i-preserved : goal.loop-i-preserved
loop-i-preserved c = record {
  rows = rows-more (entry_row c.args.columns.now c.args.sort c.args.show) c.args.words.now c.loop-i.i (map (entry_row c.args.columns.now c.args.sort c.args.show) (entries_of c.args.words.now)) c.loop-i.rows.items c.push_entry.new.rows.items (omega arith) c.loop-i.invariant.rows c.in_ok-push_entry.ensures;
  reads = (entries-parts c.args.columns.now c.args.sort c.args.show c.args.words.now c.loop-i.i (omega arith) c.loop-i.invariant.reads).1;
}

pub returns : goal.returns
returns c =
    c.from_vec.ensures
    ∙ rows-end (entry_row c.args.columns.now c.args.sort c.args.show) c.args.words.now c.loop-i.i (map (entry_row c.args.columns.now c.args.sort c.args.show) (entries_of c.args.words.now)) c.loop-i.rows.items (omega arith) c.loop-i.invariant.rows
