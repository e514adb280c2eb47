use Rattle.spl_values.proofs.RowLaws.{row_parts, value_fits}
use Rattle.spl_values.proofs.tables.Table.value.Goals as goal

pub get-requires : goal.get-requires
get-requires c =
    let row = rw (← c.self.view_is) at c.requires.row in
    let column = rw (← c.self.view_is) at c.requires.column in
    let parts = row_parts c.self.inside.shape.schema.columns c.self.inside.rows c.self.inside.shape.rows c.args.row c.args.column c.self.invariant.count c.self.invariant.rows row column in
    record { row = parts.row; place = parts.place }

pub returns-clause-fits : goal.returns-clause-fits
returns-clause-fits c =
    let row = rw (← c.self.view_is) at c.requires.row in
    let column = rw (← c.self.view_is) at c.requires.column in
    let parts = row_parts c.self.inside.shape.schema.columns c.self.inside.rows c.self.inside.shape.rows c.args.row c.args.column c.self.invariant.count c.self.invariant.rows row column in
    rw (← c.self.view_is) (value_fits c.self.inside.shape.schema.columns c.self.inside.rows c.args.row c.args.column c.get.result parts c.get.ensures)
