use Rattle.std.proofs.Common.{sym}
use Rattle.std.proofs.lemmas.Result.{err_from_is_err_and}
use Rattle.std.specs.Str.Lines.{lines}
use Rattle.spl_values.proofs.ShapeLaws.{lines-none, lines-table, lines-one, lines-rows, lines-columns, lines-whole, schema_is, rows_are}
use Rattle.spl_values.proofs.shape_reader.read_shape.Goals as goal

pub returns-in_default-clause-err : goal.returns-in_default-clause-err
returns-in_default-clause-err c _ = lines-none (lines c.args.bytes.now) c.in_default.ensures.line

pub returns-in_err-table-clause-err : goal.returns-in_err-table-clause-err
returns-in_err-table-clause-err c =
    let p = err_from_is_err_and c.from_residual.result c.from_residual.ensures.1 in
    rw (p.1, p.2) (λ other. lines-table (lines c.args.bytes.now) c.in-Some.first.now (lines c.in-Some.left.now) c.in_err-table.field-0.0 c.in-Some.ensures.line (c.in_err-table.ensures.err other))

pub returns-in_default-first_line-clause-err : goal.returns-in_default-first_line-clause-err
returns-in_default-first_line-clause-err c _ =
    lines-one (lines c.args.bytes.now) c.in-Some.first.now (lines c.in-Some.left.now) c.in_ok-table.table c.in-Some.ensures.line c.in_default-first_line.ensures.line c.in_ok-table.ensures.ok

pub returns-in_err-rows-clause-err : goal.returns-in_err-rows-clause-err
returns-in_err-rows-clause-err c =
    let p = err_from_is_err_and c.from_residual-in_err-rows.result c.from_residual-in_err-rows.ensures.1 in
    rw (p.1, p.2) (λ other. lines-rows (lines c.args.bytes.now) c.in-Some.first.now c.in-Some-first_line.second.now (lines c.in-Some.left.now) (lines c.in-Some-first_line.left.now) c.in_ok-table.table
    c.in_err-rows.field-0.0 c.in-Some.ensures.line c.in-Some-first_line.ensures.line c.in_ok-table.ensures.ok (sym c.in_err-rows.ensures))

pub returns-in_err-columns-clause-err : goal.returns-in_err-columns-clause-err
returns-in_err-columns-clause-err c =
    let p = err_from_is_err_and c.from_residual-in_err-columns.result c.from_residual-in_err-columns.ensures.1 in
    rw (p.1, p.2) (λ other. lines-columns (lines c.args.bytes.now) c.in-Some.first.now c.in-Some-first_line.second.now (lines c.in-Some.left.now) (lines c.in-Some-first_line.left.now) c.in_ok-table.table c.in_ok-rows.rows
    c.in_err-columns.field-0.0 c.in-Some.ensures.line c.in-Some-first_line.ensures.line c.in_ok-table.ensures.ok (sym c.in_ok-rows.ensures) (c.in_err-columns.ensures.err other))

pub invariant_of-schema : goal.invariant_of-schema
invariant_of-schema c = schema_is c.in-Some.first.now (lines c.in-Some-first_line.left.now) c.in_ok-table.table c.in_ok-columns.columns c.in_ok-table.ensures.ok c.in_ok-columns.ensures.ok

pub invariant_of-result : goal.invariant_of-result
invariant_of-result c = record {
  schema = schema_is c.in-Some.first.now (lines c.in-Some-first_line.left.now) c.in_ok-table.table c.in_ok-columns.columns c.in_ok-table.ensures.ok c.in_ok-columns.ensures.ok;
  few = rows_are c.in-Some-first_line.second.now c.in_ok-rows.rows (sym c.in_ok-rows.ensures);
}

pub returns-clause-ok : goal.returns-clause-ok
returns-clause-ok c = lines-whole (lines c.args.bytes.now) c.in-Some.first.now c.in-Some-first_line.second.now (lines c.in-Some.left.now) (lines c.in-Some-first_line.left.now) c.in_ok-table.table c.in_ok-rows.rows
    c.in_ok-columns.columns c.in-Some.ensures.line c.in-Some-first_line.ensures.line c.in_ok-table.ensures.ok (sym c.in_ok-rows.ensures) c.in_ok-columns.ensures.ok
