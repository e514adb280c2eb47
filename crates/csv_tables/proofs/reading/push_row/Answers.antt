use Rattle.std.proofs.Common.{◌≡◌, ◌∷◌, ◌++◌, [], Err, length, sym, ap, ◌∙◌, arith, append_assoc}
use Rattle.std.proofs.lemmas.Result.{err_from_is_err_and}
use Rattle.csv.specs.Records.{fields_of}
use Rattle.spl_values.specs.CellTexts.{value_of_text}
use Rattle.spl_values.specs.Shapes.{ColumnParts}
use Rattle.csv_tables.specs.Reading.{row_number}
use Rattle.csv_tables.specs.declared.fault.TableFault.TheVariants as fault
use Rattle.csv_tables.proofs.Fields.{field-past, row-short, row-full, row_number-capped, cell-same, cells-next, cells-fault, cells-end}
use Rattle.csv_tables.proofs.reading.push_row.Goals as goal

pub returns-then-len-columns-clause-err : goal.returns-then-len-columns-clause-err
returns-then-len-columns-clause-err c _ =
    let row : c.unwrap_or-row.result ≡ row_number c.args.number = c.unwrap_or-row.ensures ∙ row_number-capped c.try_from.result c.args.number c.try_from.ensures in
    row-short c.args.number c.args.columns.now (fields_of c.args.byte_record.now) (λ e. c.if-len-columns.true (c.len.ensures ∙ e)) ∙ ap (λ n. Err (fault.RowLength n)) (sym row)

pub unreachable-requires : goal.unreachable-requires
unreachable-requires c =
    let past = field-past (fields_of c.args.byte_record.now) c.loop-place.place c.in_default.ensures.value in
    omega (arith, past, c.len.ensures, c.if-len-columns.false, c.loop-place-test.true)

pub returns-in_err-value-clause-err : goal.returns-in_err-value-clause-err
returns-in_err-value-clause-err c =
    let p = err_from_is_err_and c.from_residual.result c.from_residual.ensures.1 in
    let column : ColumnParts = c.index-columns-place.result in
    let inv = c.loop-place.invariant in
    let full : length (fields_of c.args.byte_record.now) ≡ length c.args.columns.now = sym c.len.ensures ∙ c.if-len-columns.false in
    let row : c.unwrap_or-row.result ≡ row_number c.args.number = c.unwrap_or-row.ensures ∙ row_number-capped c.try_from.result c.args.number c.try_from.ensures in
    let bad = sym (cell-same c.args.number c.unwrap_or-row.result c.loop-place.place (value_of_text column.kind c.in-Some.field.now) row) ∙ sym c.in_err-value.ensures in
    rw (p.1, p.2) (λ other. row-full c.args.number c.args.columns.now (fields_of c.args.byte_record.now) full
    ∙ cells-fault c.args.number c.args.columns.now (fields_of c.args.byte_record.now) c.loop-place.place inv.0 c.in-Some.field.now column c.in_err-value.field-0.0
    c.in-Some.ensures.value c.loop-place-test.true c.index-columns-place.is bad inv.2)

pub loop-place-preserved : goal.loop-place-preserved
loop-place-preserved c =
    let column : ColumnParts = c.index-columns-place.result in
    let inv = c.loop-place.invariant in
    let row : c.unwrap_or-row.result ≡ row_number c.args.number = c.unwrap_or-row.ensures ∙ row_number-capped c.try_from.result c.args.number c.try_from.ensures in
    let good = sym (cell-same c.args.number c.unwrap_or-row.result c.loop-place.place (value_of_text column.kind c.in-Some.field.now) row) ∙ sym c.in_ok-value.ensures in (
      inv.0 ++ c.in_ok-value.value ∷ [],
      c.in_ok-push.ensures ∙ ap (λ t. t ++ c.in_ok-value.value ∷ []) inv.1 ∙ append_assoc c.args.cells.now.items inv.0 (c.in_ok-value.value ∷ []),
      cells-next c.args.number c.args.columns.now (fields_of c.args.byte_record.now) c.loop-place.place inv.0 c.in-Some.field.now column c.in_ok-value.value
          c.in-Some.ensures.value c.loop-place-test.true c.index-columns-place.is good inv.2,
    )

pub returns-clause-ok : goal.returns-clause-ok
returns-clause-ok c =
    let full : length (fields_of c.args.byte_record.now) ≡ length c.args.columns.now = sym c.len.ensures ∙ c.if-len-columns.false in
    let inv = c.loop-place.invariant in (
      inv.0,
      row-full c.args.number c.args.columns.now (fields_of c.args.byte_record.now) full
          ∙ cells-end c.args.number c.args.columns.now (fields_of c.args.byte_record.now) c.loop-place.place inv.0 full c.loop-place-test.false inv.2,
      inv.1,
    )
