use Rattle.std.proofs.Common.{sym, ◌∙◌, ap}
use Rattle.std.proofs.lemmas.Result.{err_from_is_err_and}
use Rattle.query_grammar.specs.Machine.{nothing_found}
use Rattle.query_parser.specs.declared.fault.ReadFault.TheVariants.{NoReading}
use Rattle.query_parser.specs.Reading.{verdict_at}
use Rattle.query_parser.specs.Parsing.{turn_at, opening_at, ending_state}
use Rattle.query_parser.proofs.Steps.{gave, refused}
use Rattle.query_parser.proofs.PartSteps.{turn_law, opening_law, with_ending}
use Rattle.query_parser.proofs.condition_reader.condition.Goals as goal

pub returns-in_err-ending-clause-moves : goal.returns-in_err-ending-clause-moves
returns-in_err-ending-clause-moves c h =
    let p = err_from_is_err_and c.from_residual.result c.from_residual.ensures.1 in
    rw (p.1, p.2) (refused _ (opening_at c.args.cursor.now) (λ x. verdict_at (ending_state h nothing_found x.0) x.1) (NoReading c.in_err-ending.field-0.0.at) (opening_law h c.args.cursor.now) c.in_err-ending.ensures.read)

pub loop-ending-init : goal.loop-ending-init
loop-ending-init c h =
    gave _ (opening_at c.args.cursor.now) (λ x. verdict_at (ending_state h nothing_found x.0) x.1) _ (opening_law h c.args.cursor.now) c.in_ok-ending.ensures.read
    ∙ ap (λ w. verdict_at (ending_state h w c.in_ok-ending.ending) c.opening.new.cursor) (sym c.new-found.ensures)

pub returns-in_err-ending-2-clause-moves : goal.returns-in_err-ending-2-clause-moves
returns-in_err-ending-2-clause-moves c h =
    let p = err_from_is_err_and c.from_residual-in_err-ending-2.result c.from_residual-in_err-ending-2.ensures.1 in
    rw (p.1, p.2)
    (refused _ (turn_at c.loop-ending.found c.loop-ending.cursor) (with_ending h) c.in_err-ending-2.field-0.0
    (c.loop-ending.invariant h ∙ ap (λ e. verdict_at (ending_state h c.loop-ending.found e) c.loop-ending.cursor) c.in-More.is ∙ turn_law h c.loop-ending.found c.loop-ending.cursor)
    c.in_err-ending-2.ensures.read)

pub loop-ending-preserved : goal.loop-ending-preserved
loop-ending-preserved c h =
    gave _ (turn_at c.loop-ending.found c.loop-ending.cursor) (with_ending h) _
    (c.loop-ending.invariant h ∙ ap (λ e. verdict_at (ending_state h c.loop-ending.found e) c.loop-ending.cursor) c.in-More.is ∙ turn_law h c.loop-ending.found c.loop-ending.cursor)
    c.in_ok-ending-2.ensures.read
