use Rattle.std.proofs.Common.{ℕ, [], ◌∷◌, ap, sym, ◌∙◌, arith, inl, inr}
use Rattle.cell_merge.specs.Rows.{code}
use Rattle.cell_merge.specs.TableRows.{row_in}
use Rattle.cell_merge.proofs.RowCells.{one_top, one_word, no_entry, greatest_of_one, least_of_one}
use Rattle.cell_merge.proofs.row.row_words.Goals as goal

pub returns-then-k-gt0 : goal.returns-then-k-gt0
returns-then-k-gt0 c =
    let zeros = rw c.in-TopK.is at c.requires.zeros in
    rw c.in-TopK.is
    (one_top c.in-TopK.k c.in-TopK.sort c.in-TopK.show c.code_word.result c.code_word-then-k-gt0.result (row_in c.args.table.now c.args.row) c.args.out.now c.write_entry.new.words c.if-k-gt0.true zeros
    c.code_word.ensures c.code_word-then-k-gt0.ensures c.write_entry.ensures)

pub returns-else-k-gt0 : goal.returns-else-k-gt0
returns-else-k-gt0 c =
    let zeros = rw c.in-TopK.is at c.requires.zeros in
    rw c.in-TopK.is (no_entry c.in-TopK.k _ c.args.out.now (omega arith) zeros)

pub returns-in-Max : goal.returns-in-Max
returns-in-Max c =
    let x = code c.in-Max.column (row_in c.args.table.now c.args.row) in
    elim c.in-Max.is [
      | inl e ↦ let zeros = rw e at c.requires.zeros in rw e (one_word c.args.out.now c.code_word-in-Max.result x zeros c.code_word-in-Max.ensures ∙ ap (λ (n : ℕ). n ∷ []) (sym (greatest_of_one x)))
      | inr e ↦ let zeros = rw e at c.requires.zeros in rw e (one_word c.args.out.now c.code_word-in-Max.result x zeros c.code_word-in-Max.ensures ∙ ap (λ (n : ℕ). n ∷ []) (sym (least_of_one x)))
    ]
