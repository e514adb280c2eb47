use Rattle.std.proofs.Common.{ap, sym, ◌∙◌}
use Rattle.spl_values.specs.Names.{is_name}
use Rattle.spl_values.specs.ShapeTexts.{kind_of_text}
use Rattle.spl_values.proofs.ShapeReading.{name_label_bytes, column-unnamed, column-untyped, column-whole, no_kind, read_kind_is_kind}
use Rattle.spl_values.proofs.shape_reader.read_column.Goals as goal

pub returns-in_default : goal.returns-in_default
returns-in_default c =
    let none = rw c.in_default.is at c.cut.ensures.none_after in
    sym (column-untyped c.args.line.now (ap kind_of_text none ∙ no_kind))

pub returns-then-not-is_name : goal.returns-then-not-is_name
returns-then-not-is_name c = sym (column-unnamed c.args.line.now (ap is_name (sym c.cut.ensures.before) ∙ sym c.if-not-is_name.ensures))

pub returns-in_default-2 : goal.returns-in_default-2
returns-in_default-2 c =
    let after = rw c.in-Some.is at c.cut.ensures.after in
    sym (column-untyped c.args.line.now (ap kind_of_text (sym after) ∙ sym c.in_ok-kind.ensures ∙ c.in_default-2.is))

pub name_of-requires : goal.name_of-requires
name_of-requires c = name_label_bytes c.cut.result.0.now (sym c.if-not-is_name.ensures)

pub invariant_of-result : goal.invariant_of-result
invariant_of-result c = record {
  named = rw c.in_ok-name.ensures (sym c.if-not-is_name.ensures);
  typed = read_kind_is_kind c.in-Some.text.now c.in-Some-2.kind (sym c.in_ok-kind.ensures ∙ c.in-Some-2.is);
}

pub returns : goal.returns
returns c =
    let after = rw c.in-Some.is at c.cut.ensures.after in
    let whole = column-whole c.args.line.now c.in-Some-2.kind (ap is_name (sym c.cut.ensures.before) ∙ sym c.if-not-is_name.ensures)
    (ap kind_of_text (sym after) ∙ sym c.in_ok-kind.ensures ∙ c.in-Some-2.is) in
    rw (c.in_ok-name.ensures, c.cut.ensures.before) (sym whole)
