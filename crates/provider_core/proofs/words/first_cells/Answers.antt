use Rattle.std.proofs.Common.{inl, inr}
use Rattle.provider_core.proofs.FirstCells.{key_cells_are, position_cells_are, row_cells_are}
use Rattle.provider_core.proofs.words.first_cells.Goals as goal

pub returns-in-Sum : goal.returns-in-Sum
returns-in-Sum c =
    let e = c.row_cells.ensures in
    rw c.in-Sum.is (row_cells_are c.args.checked.now c.args.table.now c.row_cells.result e.keys e.cells e.width e.bits e.whole)

pub returns-in-Point : goal.returns-in-Point
returns-in-Point c =
    let e = c.key_cells.ensures in
    let are = key_cells_are c.args.checked.now c.args.table.now c.key_cells.result e.keys e.cells e.width e.bits e.whole in
    elim c.in-Point.is [ inl p ↦ rw p are | inr a ↦ rw a are ]

pub returns-in-Position : goal.returns-in-Position
returns-in-Position c =
    let e = c.position_cells.ensures in
    rw (c.in-Position.is, c.if-round-eq2.true) (position_cells_are c.args.checked.now c.args.table.now c.position_cells.result c.shape.ensures.valid e.keys e.cells e.width e.numbered e.whole)
