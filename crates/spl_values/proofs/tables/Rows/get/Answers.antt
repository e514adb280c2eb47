use Rattle.std.proofs.Common.{◌+◌, ◌*◌, length, refl, ◌∙◌, arith}
use Rattle.std.proofs.lemmas.Option.{slice_get_read}
use Rattle.spl_values.proofs.RowLaws.{InRows, in_rows, value-in}
use Rattle.spl_values.proofs.tables.Rows.get.Goals as goal
use Rattle.spl_values.proofs.tables.Rows.get.Goals.{After-self}

-- where the value stands
place_of : (c : After-self) → InRows c.self.inside.width c.self.inside.count c.self.inside.cells.items c.args.row c.args.place
place_of c = in_rows c.self.inside.width c.self.inside.count c.self.inside.cells.items c.args.self.now c.args.row c.args.place c.self.view_is c.self.invariant c.requires.row c.requires.place

pub overflow_mul-row : goal.overflow_mul-row
overflow_mul-row c = let at = place_of c in omega (arith, at.within, c.self.inside.cells.ok.0, c.self.inside.cells.small)

pub overflow_add-row : goal.overflow_add-row
overflow_add-row c = let at = place_of c in omega (arith, at.within, c.self.inside.cells.ok.0, c.self.inside.cells.small)

pub index-requires : goal.index-requires
index-requires c = let at = place_of c in omega (arith, at.within, c.self.inside.cells.ok.0)

pub returns : goal.returns
returns c =
    let at = in_rows c.self.inside.width c.self.inside.count c.self.inside.cells.items c.args.self.now c.args.row c.args.place c.self.view_is c.self.invariant c.requires.row c.requires.place in
    rw (← c.self.view_is) (value-in c.self.inside.width c.self.inside.count c.self.inside.cells.items c.args.row c.args.place at.row at.place
    ∙ slice_get_read c.self.inside.cells.items (length c.self.inside.cells.items) (c.args.row * c.self.inside.width + c.args.place) c.index.result.now refl at.within c.index.ensures)
