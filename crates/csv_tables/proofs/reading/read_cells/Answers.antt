use Rattle.std.proofs.Common.{◌≡◌, ◌*◌, [], true, false, length, take, sym, ap, ◌∙◌}
use Rattle.std.proofs.lemmas.Result.{err_from_is_err_and}
use Rattle.std.specs.Cmp.Lexicographic.{pointwise}
use Rattle.std.specs.Str.{bytes_eq}
use Rattle.csv.specs.Machine.{next_record}
use Rattle.csv.specs.Reading.{default_config, records_from, strip_bom}
use Rattle.csv.specs.Records.{fields_of}
use Rattle.csv.specs.declared.parser.State.TheVariants as st
use Rattle.spl_values.specs.Shapes.{names_of}
use Rattle.csv_tables.specs.Reading.{row_of}
use Rattle.csv_tables.proofs.Records.{took-some, took-none, header-none, header-bad, header-good, judged-start, judged-more, judged-bad, judged-end}
use Rattle.csv_tables.proofs.reading.read_cells.Goals as goal

pub next_record-requires : goal.next_record-requires
next_record-requires c = (st.StartRecord, strip_bom c.args.bytes.now, c.reader_of-reader.ensures)

pub next_record-requires-in-loop-number : goal.next_record-requires-in-loop-number
next_record-requires-in-loop-number c =
    let j = c.loop-number.invariant.3 in
    (c.loop-number.reader.state, j.text, j.stands)

pub returns-then-not-branch-clause-err : goal.returns-then-not-branch-clause-err
returns-then-not-branch-clause-err c _ =
    let took = c.in_ok-next_record.ensures st.StartRecord (strip_bom c.args.bytes.now) c.reader_of-reader.ensures in
    header-none c.args.columns.now c.args.bytes.now
    (took-none c.next_record.new.reader c.in_ok-next_record.field-0 (fields_of c.next_record.new.byte_record) (next_record default_config st.StartRecord [] [] (strip_bom c.args.bytes.now)) took c.if-not-branch.true)

pub returns-then-not-is_header-clause-err : goal.returns-then-not-is_header-clause-err
returns-then-not-is_header-clause-err c _ =
    let took = c.in_ok-next_record.ensures st.StartRecord (strip_bom c.args.bytes.now) c.reader_of-reader.ensures in
    let p = took-some c.next_record.new.reader c.in_ok-next_record.field-0 (fields_of c.next_record.new.byte_record) (next_record default_config st.StartRecord [] [] (strip_bom c.args.bytes.now)) took c.if-not-branch.false in
    let other : pointwise bytes_eq (fields_of c.next_record.new.byte_record) (names_of c.args.columns.now) ≡ false = sym c.is_header.ensures ∙ c.if-not-is_header.true in
    header-bad c.args.columns.now c.args.bytes.now p.0 p.1 (rw p.2 at other)

pub loop-number-init : goal.loop-number-init
loop-number-init c =
    let took = c.in_ok-next_record.ensures st.StartRecord (strip_bom c.args.bytes.now) c.reader_of-reader.ensures in
    let p = took-some c.next_record.new.reader c.in_ok-next_record.field-0 (fields_of c.next_record.new.byte_record) (next_record default_config st.StartRecord [] [] (strip_bom c.args.bytes.now)) took c.if-not-branch.false in
    let same : pointwise bytes_eq (fields_of c.next_record.new.byte_record) (names_of c.args.columns.now) ≡ true = sym c.is_header.ensures ∙ c.if-not-is_header.false in
    (p.0, p.1, rw p.2 at same, rw c.in_ok-cells.ensures.items (judged-start c.args.columns.now c.args.bytes.now c.next_record.new.reader (c.args.stated * length c.args.columns.now) p.0 p.1 p.3))

pub returns-then-not-branch-2-clause-ok : goal.returns-then-not-branch-2-clause-ok
returns-then-not-branch-2-clause-ok c =
    let inv = c.loop-number.invariant in
    let j = inv.3 in
    let took = c.in_ok-next_record-2.ensures c.loop-number.reader.state j.text j.stands in
    let none = took-none c.next_record-in-loop-number.new.reader c.in_ok-next_record-2.field-0 (fields_of c.next_record-in-loop-number.new.byte_record) (next_record default_config c.loop-number.reader.state [] [] j.text) took c.if-not-branch-2.true in (
      j.rows,
      header-good c.args.columns.now c.args.bytes.now inv.0 inv.1 inv.2
          ∙ judged-end c.args.columns.now (records_from default_config (length (strip_bom c.args.bytes.now)) inv.0.1 inv.0.2) c.loop-number.reader c.loop-number.number (c.args.stated * length c.args.columns.now) c.loop-number.cells.items j none,
      j.counted,
      j.kept,
    )

pub returns-in_err-push_row-clause-err : goal.returns-in_err-push_row-clause-err
returns-in_err-push_row-clause-err c =
    let q = err_from_is_err_and c.from_residual-in_err-push_row.result c.from_residual-in_err-push_row.ensures.1 in
    let inv = c.loop-number.invariant in
    let j = inv.3 in
    let took = c.in_ok-next_record-2.ensures c.loop-number.reader.state j.text j.stands in
    let p = took-some c.next_record-in-loop-number.new.reader c.in_ok-next_record-2.field-0 (fields_of c.next_record-in-loop-number.new.byte_record) (next_record default_config c.loop-number.reader.state [] [] j.text) took c.if-not-branch-2.false in
    let bad = c.in_err-push_row.ensures.err in
    rw (q.1, q.2) (λ other. header-good c.args.columns.now c.args.bytes.now inv.0 inv.1 inv.2
    ∙ judged-bad c.args.columns.now (records_from default_config (length (strip_bom c.args.bytes.now)) inv.0.1 inv.0.2) c.loop-number.reader c.loop-number.number (c.args.stated * length c.args.columns.now) c.loop-number.cells.items p.0 c.in_err-push_row.field-0.0 j p.1
    (ap (row_of c.loop-number.number c.args.columns.now) (sym p.2) ∙ bad other))

pub loop-number-preserved : goal.loop-number-preserved
loop-number-preserved c =
    let inv = c.loop-number.invariant in
    let j = inv.3 in
    let took = c.in_ok-next_record-2.ensures c.loop-number.reader.state j.text j.stands in
    let p = took-some c.next_record-in-loop-number.new.reader c.in_ok-next_record-2.field-0 (fields_of c.next_record-in-loop-number.new.byte_record) (next_record default_config c.loop-number.reader.state [] [] j.text) took c.if-not-branch-2.false in
    let good = c.in_ok-push_row.ensures.ok in
    let kept = c.truncate.ensures.items ∙ ap (take (c.args.stated * length c.args.columns.now)) good.2 in (
      inv.0,
      inv.1,
      inv.2,
      judged-more c.args.columns.now (records_from default_config (length (strip_bom c.args.bytes.now)) inv.0.1 inv.0.2) c.loop-number.reader c.next_record-in-loop-number.new.reader c.loop-number.number (c.args.stated * length c.args.columns.now) c.loop-number.cells.items
          c.truncate.new.self.items good.0 p.0 j p.1 p.3 (ap (row_of c.loop-number.number c.args.columns.now) (sym p.2) ∙ good.1) kept,
    )
