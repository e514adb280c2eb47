use Rattle.std.proofs.Common.{◌≡◌, sym, ap, ◌∙◌}
use Rattle.cell_merge.specs.TableRows.{row_in}
use Rattle.count_sum.specs.SumPairs.{joined_key}
use Rattle.provider_core.proofs.FirstCells.{key_kept, key_left_out}
use Rattle.provider_core.proofs.ones.kept_keys.Goals as goal
use Rattle.provider_core.proofs.ones.kept_keys.Goals.{then-is_kept+in_ok-push, else-is_kept}

pub join_key-requires-clause-columns : goal.join_key-requires-clause-columns
join_key-requires-clause-columns c = rw c.as_slice.ensures (c.accepted_has_keys.ensures.columns c.args.checked.now c.args.table.now.shape.schema c.requires)

pub loop-row-preserved : goal.loop-row-preserved
loop-row-preserved c =
    let checked = c.args.checked.now in
    let table = c.args.table.now in
    elim c.if-is_kept.branch [
      | then-is_kept+in_ok-push w ↦
          let key : w.join_key.result ≡ joined_key checked table (row_in table c.loop-row.row) = rw w.as_slice.ensures at w.join_key.ensures.key in
          ap (λ v. v.items) w.keys-is ∙ w.in_ok-push.ensures.items ∙ key_kept checked table c.loop-row.row _ _ (sym c.is_kept.ensures ∙ w.if-is_kept.true) key c.loop-row.invariant
      | else-is_kept w ↦ ap (λ v. v.items) w.keys-is ∙ c.loop-row.invariant ∙ key_left_out checked table c.loop-row.row (sym c.is_kept.ensures ∙ w.if-is_kept.false)
    ]
