-- What one item asks of the columns of a row.
use Rattle.std.specs.Prelude.{List}
use Rattle.spl_values.specs.Shapes.{ColumnParts}
use Rattle.cell_merge.specs.declared.spec.CellItem.{CellItem}
use Rattle.cell_merge.specs.TableRows.{HasColumns, AddsNumbers, KeepsWords}

-- the item's words can be had from rows of those columns
pub record ItemFits (columns : List ColumnParts) (item : CellItem) : Type 0 where
  pub present : HasColumns columns item
  pub summed : AddsNumbers columns item
  pub kept : KeepsWords columns item
