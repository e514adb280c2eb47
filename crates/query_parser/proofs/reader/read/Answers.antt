use Rattle.std.proofs.Common.{[], Ok, ◌∙◌, ap}
use Rattle.std.proofs.lemmas.Result.{err_from_is_err_and}
use Rattle.query_grammar.specs.declared.token.Symbol.TheVariants.{Select}
use Rattle.query_grammar.specs.Machine.{Head, Items, TableEnd, query_of}
use Rattle.query_parser.specs.declared.fault.ReadFault.TheVariants.{NoReading}
use Rattle.query_parser.specs.Reading.{verdict_at}
use Rattle.query_parser.specs.Parsing.{symbol_at, name_at, closing_at}
use Rattle.query_parser.proofs.Drafts.{drafted_as}
use Rattle.query_parser.proofs.Steps.{gave, refused, carry, start_law, table_law}
use Rattle.query_parser.proofs.PartSteps.{closing_law}
use Rattle.query_parser.proofs.reader.read.Goals as goal

pub returns-in_err-expect : goal.returns-in_err-expect
returns-in_err-expect c =
    let p = err_from_is_err_and c.from_residual.result c.from_residual.ensures.1 in
    rw (p.1, p.2) (refused _ (symbol_at Select c.args.cursor.now) (verdict_at (Items [])) (NoReading c.in_err-expect.field-0.0.at) (start_law c.args.cursor.now) c.in_err-expect.ensures.read)

pub returns-in_err-items : goal.returns-in_err-items
returns-in_err-items c =
    let e1 = gave _ (symbol_at Select c.args.cursor.now) (verdict_at (Items [])) _ (start_law c.args.cursor.now) c.in_ok-expect.ensures.read in
    let p = err_from_is_err_and c.from_residual-in_err-items.result c.from_residual-in_err-items.ensures.1 in
    rw (p.1, p.2) (carry _ _ c.in_err-items.field-0.0 e1 c.in_err-items.ensures)

pub returns-in_err-table : goal.returns-in_err-table
returns-in_err-table c =
    let e1 = gave _ (symbol_at Select c.args.cursor.now) (verdict_at (Items [])) _ (start_law c.args.cursor.now) c.in_ok-expect.ensures.read in
    let e2 = e1 ∙ c.in_ok-items.ensures in
    let p = err_from_is_err_and c.from_residual-in_err-table.result c.from_residual-in_err-table.ensures.1 in
    rw (p.1, p.2) (refused _ (name_at c.items.new.cursor) (λ x. verdict_at (TableEnd (record { items = c.in_ok-items.items.items; table = x.0 })) x.1) (NoReading c.in_err-table.field-0.0.at) (e2 ∙ table_law c.in_ok-items.items.items c.items.new.cursor) c.in_err-table.ensures.read)

pub returns-in_err-conditions : goal.returns-in_err-conditions
returns-in_err-conditions c =
    let e1 = gave _ (symbol_at Select c.args.cursor.now) (verdict_at (Items [])) _ (start_law c.args.cursor.now) c.in_ok-expect.ensures.read in
    let e2 = e1 ∙ c.in_ok-items.ensures in
    let e3 = gave _ (name_at c.items.new.cursor) (λ x. verdict_at (TableEnd (record { items = c.in_ok-items.items.items; table = x.0 })) x.1) _ (e2 ∙ table_law c.in_ok-items.items.items c.items.new.cursor) c.in_ok-table.ensures.read in
    let h : Head = record { items = c.in_ok-items.items.items; table = c.in_ok-table.table } in
    let p = err_from_is_err_and c.from_residual-in_err-conditions.result c.from_residual-in_err-conditions.ensures.1 in
    rw (p.1, p.2) (carry _ _ c.in_err-conditions.field-0.0 e3 (c.in_err-conditions.ensures.moves h))

pub returns-in_err-group : goal.returns-in_err-group
returns-in_err-group c =
    let e1 = gave _ (symbol_at Select c.args.cursor.now) (verdict_at (Items [])) _ (start_law c.args.cursor.now) c.in_ok-expect.ensures.read in
    let e2 = e1 ∙ c.in_ok-items.ensures in
    let e3 = gave _ (name_at c.items.new.cursor) (λ x. verdict_at (TableEnd (record { items = c.in_ok-items.items.items; table = x.0 })) x.1) _ (e2 ∙ table_law c.in_ok-items.items.items c.items.new.cursor) c.in_ok-table.ensures.read in
    let h : Head = record { items = c.in_ok-items.items.items; table = c.in_ok-table.table } in
    let e4 = e3 ∙ c.in_ok-conditions.ensures.moves h in
    let p = err_from_is_err_and c.from_residual-in_err-group.result c.from_residual-in_err-group.ensures.1 in
    rw (p.1, p.2) (refused _ (closing_at c.in_ok-conditions.ending c.condition.new.cursor) (λ x. Ok (query_of h c.in_ok-conditions.conditions x.0)) (NoReading c.in_err-group.field-0.0.at) (e4 ∙ closing_law h c.in_ok-conditions.conditions c.in_ok-conditions.ending c.condition.new.cursor c.in_ok-conditions.ensures.ends) c.in_err-group.ensures.read)

pub returns : goal.returns
returns c =
    let e1 = gave _ (symbol_at Select c.args.cursor.now) (verdict_at (Items [])) _ (start_law c.args.cursor.now) c.in_ok-expect.ensures.read in
    let e2 = e1 ∙ c.in_ok-items.ensures in
    let e3 = gave _ (name_at c.items.new.cursor) (λ x. verdict_at (TableEnd (record { items = c.in_ok-items.items.items; table = x.0 })) x.1) _ (e2 ∙ table_law c.in_ok-items.items.items c.items.new.cursor) c.in_ok-table.ensures.read in
    let h : Head = record { items = c.in_ok-items.items.items; table = c.in_ok-table.table } in
    let e4 = e3 ∙ c.in_ok-conditions.ensures.moves h in
    gave _ (closing_at c.in_ok-conditions.ending c.condition.new.cursor) (λ x. Ok (query_of h c.in_ok-conditions.conditions x.0)) _ (e4 ∙ closing_law h c.in_ok-conditions.conditions c.in_ok-conditions.ending c.condition.new.cursor c.in_ok-conditions.ensures.ends) c.in_ok-group.ensures.read
    ∙ ap Ok (drafted_as c.in_ok-items.items.items c.from_vec.result c.in_ok-table.table c.in_ok-conditions.conditions c.in_ok-public.public c.in_ok-public.branches c.in_ok-group.group c.from_vec.ensures c.in_ok-public.ensures.0 c.in_ok-public.ensures.1)
