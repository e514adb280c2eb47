use Rattle.std.proofs.Common.{◌≡◌, Bool, true, false, not, refl, sym, ap, ◌∙◌, arith}
use Rattle.std.specs.Str.{bytes_eq}
use Rattle.csv.specs.Records.{fields_of}
use Rattle.spl_values.specs.Shapes.{ColumnParts}
use Rattle.csv_tables.proofs.Fields.{field-past, header-next}
use Rattle.csv_tables.proofs.reading.is_header.Goals as goal

not_true : (b : Bool) → true ≡ not b → b ≡ false
not_true true e = absurd cc
not_true false e = refl

not_false : (b : Bool) → false ≡ not b → b ≡ true
not_false true e = refl
not_false false e = absurd cc

pub returns-in_default : goal.returns-in_default
returns-in_default c =
    let past = field-past (fields_of c.args.byte_record.now) c.loop-place.place c.in_default.ensures.value in
    absurd (omega (arith, past, c.len.ensures, c.if-len-columns.false, c.loop-place-test.true))

pub returns-then-ne : goal.returns-then-ne
returns-then-ne c =
    let column : ColumnParts = c.index-columns-place.result in
    let next = header-next (fields_of c.args.byte_record.now) c.args.columns.now c.loop-place.place c.in-Some.field.now column c.in-Some.ensures.value c.loop-place-test.true c.index-columns-place.is in
    let name : c.as_bytes.result.now ≡ column.name = c.as_bytes.ensures ∙ ap (λ (x : ColumnParts). x.name) c.column.view_is in
    let test : bytes_eq c.in-Some.field.now column.name ≡ false = ap (λ n. bytes_eq c.in-Some.field.now n) (sym name) ∙ not_true (bytes_eq c.in-Some.field.now c.as_bytes.result.now) c.if-ne.ensures in
    sym (c.loop-place.invariant ∙ next ∙ rw test refl)

pub loop-place-preserved : goal.loop-place-preserved
loop-place-preserved c =
    let column : ColumnParts = c.index-columns-place.result in
    let next = header-next (fields_of c.args.byte_record.now) c.args.columns.now c.loop-place.place c.in-Some.field.now column c.in-Some.ensures.value c.loop-place-test.true c.index-columns-place.is in
    let name : c.as_bytes.result.now ≡ column.name = c.as_bytes.ensures ∙ ap (λ (x : ColumnParts). x.name) c.column.view_is in
    let test : bytes_eq c.in-Some.field.now column.name ≡ true = ap (λ n. bytes_eq c.in-Some.field.now n) (sym name) ∙ not_false (bytes_eq c.in-Some.field.now c.as_bytes.result.now) c.if-ne.ensures in
    c.loop-place.invariant ∙ next ∙ rw test refl
