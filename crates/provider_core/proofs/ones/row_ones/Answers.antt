use Rattle.std.proofs.Common.{length, sym, ap, ◌∙◌}
use Rattle.provider_core.proofs.FirstCells.{ones_are}
use Rattle.provider_core.proofs.ones.row_ones.Goals as goal

pub returns : goal.returns
returns c =
    ones_are c.args.checked.now c.args.table.now c.shape.ensures.valid c.requires c.from_vec.result c.from_vec-2.result c.len.result (c.from_vec.ensures ∙ c.in_ok-keys.ensures)
    (ap (λ l. length l) c.from_vec.ensures ∙ sym c.in_ok-keys.keys.ok.0 ∙ sym c.len.ensures) (c.from_vec-2.ensures ∙ c.in_ok-words.ensures.items_if_clones_equal (λ y h. h))
