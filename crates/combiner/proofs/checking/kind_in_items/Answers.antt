use Rattle.std.proofs.Common.{sym, ◌∙◌, arith}
use Rattle.cell_merge.specs.declared.spec.CellItem.TheVariants.{Count}
use Rattle.combiner.proofs.WordKinds.{item_here, item_behind}
use Rattle.combiner.proofs.checking.kind_in_items.Goals as goal

pub returns-then-rest-words : goal.returns-then-rest-words
returns-then-rest-words c =
    c.kind_in_item.ensures ∙ sym (c.loop-item.invariant ∙ item_here c.args.items.now c.loop-item.item-index c.loop-item.rest Count c.loop-item-test.true (omega arith))

pub loop-item-preserved : goal.loop-item-preserved
loop-item-preserved c =
    rw c.item_words-words.ensures (c.loop-item.invariant ∙ item_behind c.args.items.now c.loop-item.item-index c.loop-item.rest Count c.loop-item-test.true (omega arith))
