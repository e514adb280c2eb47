use Rattle.std.proofs.Common.{arith, ◌≡◌, ◌<◌, length, ap, sym, ◌∙◌, slice_get, Some}
use Rattle.spl_values.specs.Kinds.{bits_of}
use Rattle.spl_values.specs.Shapes.{ColumnParts, SchemaParts}
use Rattle.spl_values.proofs.RowLaws.{column_bits-at}
use Rattle.std.proofs.lemmas.Option.{slice_get-get_or}
use Rattle.std.proofs.lemmas.Bool.Decides.{nat_tests}
use Rattle.private_plan.proofs.columns.column_bits.Goals as goal

pub returns-in-Some : goal.returns-in-Some
returns-in-Some c =
    let columns = c.args.schema.now.columns in
    let place = c.args.place in
    let column : ColumnParts = c.in-Some.column.now in
    let same : c.as_slice.result.now ≡ columns = c.as_slice.ensures ∙ ap (λ (s : SchemaParts). s.columns) c.schema.view_is in
    let there : place < length c.as_slice.result.now = grind (arith, nat_tests, c.in-Some.ensures.lookup.0) in
    let here : slice_get c.as_slice.result.now place ≡ Some column = slice_get-get_or c.as_slice.result.now place column there ∙ ap (λ (x : ColumnParts). Some x) (sym c.in-Some.ensures.lookup.1) in
    let at = ap (λ l. slice_get l place) (sym same) ∙ here in
    c.bits.ensures ∙ (ap (λ (x : ColumnParts). bits_of x.kind) c.column.view_is ∙ sym (column_bits-at columns place column at))
