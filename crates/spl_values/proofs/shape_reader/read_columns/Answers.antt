use Rattle.std.proofs.Common.{◌≡◌, ◌≢◌, [], ◌∷◌, ◌++◌, Ok, length, ℕ, sym, ap, ◌∙◌, arith, vec_len, true, false, ◌==◌, length-append}
use Rattle.std.proofs.lemmas.Result.{err_from_is_err_and}
use Rattle.std.proofs.lemmas.Bool.Decides.{nat_tests}
use Rattle.std.specs.Str.Lines.{lines}
use Rattle.spl_values.specs.ShapeTexts.{columns_of_lines}
use Rattle.spl_values.proofs.ShapeReading.{columns-end, columns-missing, columns-full, columns-bad, columns-more}
use Rattle.spl_values.proofs.shape_reader.read_columns.Goals as goal

is_zero : (n : ℕ) → true ≡ (n == 0) → n ≡ 0
is_zero n h = grind (arith, nat_tests)

not_zero : (n : ℕ) → false ≡ (n == 0) → n ≢ 0
not_zero n h = grind (arith, nat_tests)

pub returns-then-len-eq-MAX_COLUMNS-clause-err : goal.returns-then-len-eq-MAX_COLUMNS-clause-err
returns-then-len-eq-MAX_COLUMNS-clause-err c _ =
    let full : length c.loop-line.columns.items ≡ 24 = omega (arith, c.loop-line.columns.ok.0) in
    c.loop-line.invariant.read ∙ columns-full c.loop-line.columns.items (lines c.loop-line.left.now) c.in-Some.line.now (lines c.in-Some.rest.now) c.in-Some.ensures.line full

pub returns-in_err-column-clause-err : goal.returns-in_err-column-clause-err
returns-in_err-column-clause-err c =
    let p = err_from_is_err_and c.from_residual.result c.from_residual.ensures.1 in
    let room : length c.loop-line.columns.items ≢ 24 = (λ e. c.if-len-eq-MAX_COLUMNS.false (omega (arith, e, c.len.ensures, c.loop-line.columns.ok.0))) in
    let bad = rw c.as_slice.ensures.value at c.in_err-column.ensures.err in
    rw (p.1, p.2) (λ other. c.loop-line.invariant.read ∙ columns-bad c.loop-line.columns.items (lines c.loop-line.left.now) c.in-Some.line.now (lines c.in-Some.rest.now) c.in_err-column.field-0.0 c.in-Some.ensures.line room (bad other))

pub loop-line-preserved : goal.loop-line-preserved
loop-line-preserved c =
    let room : length c.loop-line.columns.items ≢ 24 = (λ e. c.if-len-eq-MAX_COLUMNS.false (omega (arith, e, c.len.ensures, c.loop-line.columns.ok.0))) in
    let good = rw c.as_slice.ensures.value at c.in_ok-column.ensures.ok in
    let step = columns-more c.loop-line.columns.items (lines c.loop-line.left.now) c.in-Some.line.now (lines c.in-Some.rest.now) (c.loop-line.columns.items ++ c.in_ok-column.column ∷ []) c.in-Some.ensures.line room good in
    record {
      read = c.loop-line.invariant.read ∙ step ∙ ap (λ cs. columns_of_lines cs (lines c.in-Some.rest.now)) (sym c.in_ok-push.ensures);
      few = omega (arith, ap length c.in_ok-push.ensures, length-append c.loop-line.columns.items (c.in_ok-column.column ∷ []), c.push.new.columns.ok.0, c.loop-line.columns.ok.0, c.loop-line.invariant.few, room);
    }

pub returns-then-is_empty-clause-err : goal.returns-then-is_empty-clause-err
returns-then-is_empty-clause-err c _ = c.loop-line.invariant.read ∙ columns-missing c.loop-line.columns.items (lines c.loop-line.left.now) c.in_default.ensures.line (let e : vec_len c.loop-line.columns ≡ 0 = is_zero (vec_len c.loop-line.columns) c.if-is_empty.ensures in omega (arith, e, c.loop-line.columns.ok.0))

pub returns-clause-ok : goal.returns-clause-ok
returns-clause-ok c = c.loop-line.invariant.read ∙ columns-end c.loop-line.columns.items (lines c.loop-line.left.now) c.in_default.ensures.line (λ e. not_zero (vec_len c.loop-line.columns) c.if-is_empty.ensures (omega (arith, e, c.loop-line.columns.ok.0))) ∙ ap Ok (sym c.from_vec.ensures)
