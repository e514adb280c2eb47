use Rattle.std.proofs.Common.{◌≡◌, map, ap, sym, ◌∙◌, subst, arith}
use Rattle.std.specs.Prelude.{All}
use Rattle.std.specs.List.{filter}
use Rattle.query_reader.specs.Matching.{is_kept, kept_rows}
use Rattle.count_sum.proofs.KeptRows.{rows_to-all}
use Rattle.keyed_rows.specs.KeyedRows.{IsKeyed, keyed}
use Rattle.keyed_rows.proofs.Sorted.{keyed_more, keyed_same, kept_keyed}
use Rattle.keyed_rows.proofs.rows.kept_with_keys.Goals as goal
use Rattle.keyed_rows.proofs.rows.kept_with_keys.Goals.{then-is_kept+in_ok-push, else-is_kept}

pub join_key-requires-clause-columns : goal.join_key-requires-clause-columns
join_key-requires-clause-columns c = rw c.as_slice.ensures (c.accepted_has_keys.ensures.columns c.args.checked.now c.args.table.now.shape.schema c.requires)

pub join_key-requires-clause-bits : goal.join_key-requires-clause-bits
join_key-requires-clause-bits c =
    let bits = c.accepted_has_keys.ensures.bits c.args.checked.now c.args.table.now.shape.schema c.requires in
    let narrow = c.accepted_has_keys.ensures.narrow c.args.checked.now c.args.table.now.shape.schema c.requires in
    rw (c.as_slice.ensures, ← bits) narrow

pub loop-row-preserved : goal.loop-row-preserved
loop-row-preserved c = elim c.if-is_kept.branch [
  | then-is_kept+in_ok-push w ↦ keyed_more c.args.checked.now c.args.table.now c.loop-row.row w.join_key.result c.loop-row.keyed.items c.if-is_kept.keyed.items
      (sym c.is_kept.ensures ∙ w.if-is_kept.true) (rw w.as_slice.ensures at w.join_key.ensures.key) (ap (λ v. v.items) w.keyed-is ∙ w.in_ok-push.ensures.items) c.loop-row.invariant
  | else-is_kept w ↦ ap (λ v. v.items) w.keyed-is ∙ keyed_same c.args.checked.now c.args.table.now c.loop-row.row c.loop-row.keyed.items (sym c.is_kept.ensures ∙ w.if-is_kept.false) c.loop-row.invariant
]

pub returns-clause-keyed : goal.returns-clause-keyed
returns-clause-keyed c =
    let checked = c.args.checked.now in
    let table = c.args.table.now in
    let all : c.loop-row.keyed.items ≡ map (keyed checked table) (kept_rows checked table) = c.loop-row.invariant ∙ ap (λ l. map (keyed checked table) (filter (is_kept checked.public) l)) (rows_to-all table c.loop-row.row c.shape.ensures.valid (let end = c.loop-row.auto.row-end in let same = ap (λ s. s.rows) c.shape.ensures.shape in let inside = ap (λ s. s.rows) c.behind-table.view_is in let stop = c.loop-row-test.false in omega arith)) in
    subst (All (IsKeyed checked table)) (sym all) (kept_keyed checked table c.shape.ensures.valid)
