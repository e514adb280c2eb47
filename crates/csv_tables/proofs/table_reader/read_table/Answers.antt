use Rattle.std.proofs.Common.{◌≡◌, ap, ◌∙◌}
use Rattle.spl_values.specs.Shapes.{SchemaParts, ShapeParts, IsShape}
use Rattle.csv_tables.proofs.Tables.{whole_of}
use Rattle.csv_tables.proofs.table_reader.read_table.Goals as goal

pub from_cells-rows-requires : goal.from_cells-rows-requires
from_cells-rows-requires c =
    let s : ShapeParts = record { schema = record { table = c.schema.inside.table; columns = c.schema.inside.columns }; rows = c.shape.inside.rows } in
    let same : s ≡ c.args.shape.now = ap (λ (x : SchemaParts). record { schema = x; rows = c.shape.inside.rows }) c.schema.view_is ∙ c.shape.view_is in
    let valid : IsShape s = rw (← c.schema.view_is) at c.shape.invariant in
    let read = rw c.as_slice-columns.ensures at c.in_ok-cells.ensures.ok in
    let whole = whole_of s c.args.bytes.now c.in_ok-cells.cells.items read.0 c.in_ok-cells.found valid read.1 read.2 read.3 c.if-found-shape.false in
    rw c.as_slice-columns.ensures whole.size

pub new-requires : goal.new-requires
new-requires c =
    let s : ShapeParts = record { schema = record { table = c.schema.inside.table; columns = c.schema.inside.columns }; rows = c.shape.inside.rows } in
    let same : s ≡ c.args.shape.now = ap (λ (x : SchemaParts). record { schema = x; rows = c.shape.inside.rows }) c.schema.view_is ∙ c.shape.view_is in
    let valid : IsShape s = rw (← c.schema.view_is) at c.shape.invariant in
    let read = rw c.as_slice-columns.ensures at c.in_ok-cells.ensures.ok in
    let whole = whole_of s c.args.bytes.now c.in_ok-cells.cells.items read.0 c.in_ok-cells.found valid read.1 read.2 read.3 c.if-found-shape.false in
    let rows : c.from_cells-rows.result ≡ read.0 = rw (c.from_cells-rows.ensures, c.as_slice-columns.ensures) whole.parts in
    rw (c.in_ok-clone.ensures.cases, rows, ← same) whole.table

pub returns-clause-ok : goal.returns-clause-ok
returns-clause-ok c =
    let s : ShapeParts = record { schema = record { table = c.schema.inside.table; columns = c.schema.inside.columns }; rows = c.shape.inside.rows } in
    let same : s ≡ c.args.shape.now = ap (λ (x : SchemaParts). record { schema = x; rows = c.shape.inside.rows }) c.schema.view_is ∙ c.shape.view_is in
    let valid : IsShape s = rw (← c.schema.view_is) at c.shape.invariant in
    let read = rw c.as_slice-columns.ensures at c.in_ok-cells.ensures.ok in
    let whole = whole_of s c.args.bytes.now c.in_ok-cells.cells.items read.0 c.in_ok-cells.found valid read.1 read.2 read.3 c.if-found-shape.false in
    let rows : c.from_cells-rows.result ≡ read.0 = rw (c.from_cells-rows.ensures, c.as_slice-columns.ensures) whole.parts in
    rw (c.new.ensures, rows, ← same) whole.says
