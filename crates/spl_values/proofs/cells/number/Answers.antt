use Rattle.std.proofs.Common.{◌≡◌, Err, true, refl, sym, ap, ◌∙◌}
use Rattle.std.proofs.lemmas.Str.{IsUtf8-from_ascii}
use Rattle.std.proofs.lemmas.Str.Parse.{parse_digits}
use Rattle.spl_values.specs.CellTexts.{is_number}
use Rattle.spl_values.proofs.CellLaws.{digits_model, number_parts, number_is_ascii, too_large}
use Rattle.spl_values.proofs.cells.number.Goals as goal

pub unreachable-requires : goal.unreachable-requires
unreachable-requires c =
    let digits : is_number c.args.text.now ≡ true = sym c.if-not-is_number.ensures in
    c.in-Err.ensures.cases.0 (IsUtf8-from_ascii c.args.text.now (number_is_ascii c.args.text.now digits))

pub returns-in-Err-parse : goal.returns-in-Err-parse
returns-in-Err-parse c =
    let digits : is_number c.args.text.now ≡ true = sym c.if-not-is_number.ensures in
    let same = c.in-Ok.ensures.cases.0 in
    let all = (number_parts c.in-Ok.digits.now (ap is_number same ∙ digits)).1 in
    let refused = parse_digits digits_model 64 c.in-Ok.digits.now (Err c.in-Err-parse.field-0) c.in-Err-parse.ensures.value.0 all in
    let test = too_large c.args.text.now digits (rw same at refused) in
    rw (digits, test) refl
