-- A cell of an accepted query has a word at least.
use Rattle.std.proofs.Common.{◌≡◌, ◌<◌, ◌≤◌, ◌+◌, ℕ, List, [], length, Option, Some, None, arith, get_or, slice_get, leb, IsTrue, ◌&&◌}
use Rattle.std.specs.Prelude.{All}
use Rattle.std.specs.List.{list_all}
use Rattle.std.proofs.lemmas.Bool.{and_parts, leb-true}
use Rattle.std.proofs.lemmas.Option.{slice_get-get_or}
use Rattle.std.proofs.Math.Nat.{le-mul_of_pos_right}
use Rattle.spl_values.specs.Kinds.{is_kind}
use Rattle.spl_values.specs.Names.{is_label, is_distinct}
use Rattle.spl_values.specs.Shapes.{SchemaParts, ColumnParts, IsColumn, IsSchema}
use Rattle.spl_values.specs.declared.kinds.ColumnType.{ColumnType}
use Rattle.spl_values.specs.declared.kinds.ColumnType.TheVariants.{Uint, Text, Enum}
use Rattle.cell_merge.specs.declared.spec.CellSpec.{CellSpec}
use Rattle.cell_merge.specs.Cells.{blocks, cell_width, items_width}
use Rattle.cell_merge.specs.TableRows.{SpecFits, GroupsLabels, HasLabels, kind_in}

no_column : ColumnParts
no_column = record { name = []; kind = Uint 0 }

kind_there : (columns : List ColumnParts) (c : ℕ) → All IsColumn columns → c < length columns → IsTrue (is_kind (kind_in columns c))
kind_there columns c all h =
    let here : slice_get columns c ≡ Some (get_or columns c no_column) = slice_get-get_or columns c no_column h in
    rw here (all c no_column h).typed

some_labels : (labels : ℕ) (kind : ColumnType) → IsTrue (is_kind kind) → HasLabels labels kind → 1 ≤ labels
some_labels labels (Uint b) typed has = absurd has
some_labels labels (Text k) typed has = absurd has
some_labels labels (Enum names) typed has =
    let three = and_parts (leb 1 (length names) && leb (length names) 64 && list_all is_label names) (is_distinct names) typed in
    let two = and_parts (leb 1 (length names) && leb (length names) 64) (list_all is_label names) three.0 in
    let one = and_parts (leb 1 (length names)) (leb (length names) 64) two.0 in
    let some = leb-true 1 (length names) one.0 in
    omega (arith, some, has)

some_blocks : (columns : List ColumnParts) (labels : ℕ) (group : Option ℕ) → All IsColumn columns → GroupsLabels columns labels group → 1 ≤ blocks group labels
some_blocks columns labels None all fits = omega arith
some_blocks columns labels (Some c) all fits = some_labels labels (kind_in columns c) (kind_there columns c all fits.0) fits.1

pub some_words : (spec : CellSpec) (schema : SchemaParts) → IsSchema schema → SpecFits spec schema.columns → 1 ≤ cell_width spec
some_words spec schema s fits =
    let n = some_blocks schema.columns spec.labels spec.group s.columns fits.grouped in
    let wide : 0 < 1 + items_width spec.items = omega arith in
    let more = le-mul_of_pos_right (blocks spec.group spec.labels) wide in
    omega (arith, n, more)
