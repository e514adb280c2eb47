use Rattle.std.proofs.Common.{◌∙◌}
use Rattle.std.proofs.lemmas.Result.{err_from_is_err_and}
use Rattle.query_parser.specs.declared.fault.ReadFault.TheVariants.{NoReading}
use Rattle.query_parser.specs.Reading.{verdict_at}
use Rattle.query_parser.specs.Parsing.{listed_at}
use Rattle.query_parser.proofs.Steps.{listed_law, listed_state, gave, refused, turned, over_with}
use Rattle.query_parser.proofs.item_reader.items.Goals as goal

pub returns-in_err-item : goal.returns-in_err-item
returns-in_err-item c =
    let p = err_from_is_err_and c.from_residual.result c.from_residual.ensures.1 in
    rw (p.1, p.2) (refused _ (listed_at c.loop-items.cursor) (λ x. verdict_at (listed_state c.loop-items.items.items x.0) x.1) (NoReading c.in_err-item.field-0.0.at) (c.loop-items.invariant ∙ listed_law c.loop-items.items.items c.loop-items.cursor) c.in_err-item.ensures.read)

pub returns-then-not-more : goal.returns-then-not-more
returns-then-not-more c =
    let g =
    gave _ (listed_at c.loop-items.cursor) (λ x. verdict_at (listed_state c.loop-items.items.items x.0) x.1) _
    (c.loop-items.invariant ∙ listed_law c.loop-items.items.items c.loop-items.cursor) c.in_ok-item.ensures.read in
    over_with _ c.loop-items.items.items _ c.in_ok-item.item c.in_ok-item.more _ g c.if-not-more.true c.in_ok-push.ensures.items

pub loop-items-preserved : goal.loop-items-preserved
loop-items-preserved c =
    let g =
    gave _ (listed_at c.loop-items.cursor) (λ x. verdict_at (listed_state c.loop-items.items.items x.0) x.1) _
    (c.loop-items.invariant ∙ listed_law c.loop-items.items.items c.loop-items.cursor) c.in_ok-item.ensures.read in
    turned _ c.loop-items.items.items _ c.in_ok-item.item c.in_ok-item.more _ g c.if-not-more.false c.in_ok-push.ensures.items
