-- When a query is refused for a schema: each refusal, and the first of them.
use Rattle.std.specs.Prelude.{ℕ, ◌-◌, ◌^◌, ◌==◌, Bool, true, false, not, ◌&&◌, ◌||◌, nat_lt, min, List, [], ◌∷◌, length, map, find, position, Option, Some, None, is_none, option_map}
use Rattle.std.specs.List.{list_any, sum_by}
use Rattle.std.specs.Str.{bytes_eq}
use Rattle.spl_values.specs.Kinds.{bits_of}
use Rattle.spl_values.specs.Shapes.{SchemaParts}
use Rattle.spl_values.specs.declared.kinds.ColumnType.{ColumnType}
use Rattle.spl_values.specs.declared.kinds.ColumnType.TheVariants.{Uint, Enum}
use Rattle.cell_merge.specs.declared.spec.CellItem.{CellItem}
use Rattle.cell_merge.specs.declared.spec.CellItem.TheVariants as cell
use Rattle.cell_merge.specs.declared.spec.CellSpec.{CellSpec}
use Rattle.cell_merge.specs.Cells.{cell_width}
use Rattle.query_grammar.specs.declared.item.Item.{Item}
use Rattle.query_grammar.specs.declared.item.Item.TheVariants as item
use Rattle.query_grammar.specs.declared.condition.Atom.{Atom}
use Rattle.query_grammar.specs.declared.condition.Atom.TheVariants as atom
use Rattle.query_grammar.specs.Queries.{QueryParts}
use Rattle.query_tokens.specs.Printing.{canonical_text}
use Rattle.query_parser.specs.declared.fault.QueryFault.{QueryFault}
use Rattle.query_parser.specs.declared.fault.QueryFault.TheVariants.{NoTable, NoColumn, WrongType, NoSecret, BranchesDiffer, TooWide, TooManyBranches, BadTopk, CellsTooWide, TooLong}
use Rattle.query_reader.specs.declared.uses.Role.{Role}
use Rattle.query_reader.specs.declared.uses.Role.TheVariants.{Summed, Ranked, Compared, Bounded, Secret, Grouped}
use Rattle.query_reader.specs.declared.uses.Use.{Use}
use Rattle.query_reader.specs.Uses.{uses_of}
use Rattle.query_reader.specs.Columns.{column_of, place_of, kind_of, literal_value, column_bits, labels_of}

-- The fault, where the test holds.
abbrev pub fault_if : Bool → QueryFault → Option QueryFault
fault_if true e = Some e
fault_if false e = None

-- The table's name isn't the schema's.
abbrev pub no_table : QueryParts → SchemaParts → Option QueryFault
no_table q schema = fault_if (not (bytes_eq q.table schema.table)) NoTable

-- The first of these names that is no column.
abbrev pub no_column : List Use → SchemaParts → Option QueryFault
no_column uses schema = option_map (λ u. NoColumn u.name) (find (λ u. is_none (column_of schema u.name)) uses)

-- A column of that type can't stand there.
abbrev pub is_wrong : ColumnType → Role → Bool
is_wrong (Uint b) Summed = false
is_wrong kind Summed = true
is_wrong kind Ranked = nat_lt 64 (bits_of kind)
is_wrong kind (Compared l) = is_none (literal_value kind l)
is_wrong kind (Bounded l m) = is_none (literal_value kind l) || is_none (literal_value kind m)
is_wrong kind Secret = false
is_wrong (Enum labels) Grouped = false
is_wrong kind Grouped = true

-- The column is there and can't stand there.
abbrev pub is_wrong_in : Option ColumnType → Role → Bool
is_wrong_in None role = false
is_wrong_in (Some kind) role = is_wrong kind role

-- The first of these names whose column can't stand where the name does.
abbrev pub wrong_type : List Use → SchemaParts → Option QueryFault
wrong_type uses schema = option_map (λ u. WrongType u.name) (find (λ u. is_wrong_in (kind_of schema u.name) u.role) uses)

-- There is no branch, and so no question mark.
abbrev pub no_secret : QueryParts → Option QueryFault
no_secret q = fault_if (length q.branches == 0) NoSecret

-- The atoms of branch 0.
abbrev pub first_branch : List (List Atom) → List Atom
first_branch [] = []
first_branch (b ∷ bs) = b

-- Two atoms are the same.
abbrev pub same_atom : Atom → Atom → Bool
same_atom (atom.Equal n) (atom.Equal m) = bytes_eq n m
same_atom (atom.Between n) (atom.Between m) = bytes_eq n m
same_atom _ _ = false

-- Two branches have the same atoms.
abbrev pub same_atoms : List Atom → List Atom → Bool
same_atoms [] [] = true
same_atoms (x ∷ xs) (y ∷ ys) = same_atom x y && same_atoms xs ys
same_atoms _ _ = false

-- The first branch, from 0, whose atoms aren't those of branch 0; 2^32 - 1 where it stands behind that.
abbrev pub differing : List (List Atom) → Option ℕ
differing branches = option_map (λ i. min i (2 ^ 32 - 1)) (position (λ b. not (same_atoms (first_branch branches) b)) branches)

-- A branch has other atoms than branch 0.
abbrev pub branches_differ : QueryParts → Option QueryFault
branches_differ q = option_map BranchesDiffer (differing q.branches)

-- The column of an atom.
abbrev pub atom_name : Atom → List ℕ
atom_name (atom.Equal n) = n
atom_name (atom.Between n) = n

-- The bits of the joined key.
abbrev pub key_bits : QueryParts → SchemaParts → ℕ
key_bits q schema = sum_by (λ a. column_bits schema (atom_name a)) (first_branch q.branches)

-- The joined key has over 128 bits.
abbrev pub too_wide : QueryParts → SchemaParts → Option QueryFault
too_wide q schema = fault_if (nat_lt 128 (key_bits q schema)) (TooWide (min (key_bits q schema) (2 ^ 64 - 1)))

-- There are over 8 branches.
abbrev pub too_many_branches : QueryParts → Option QueryFault
too_many_branches q = fault_if (nat_lt 8 (length q.branches)) (TooManyBranches (length q.branches))

-- The item is TOPK with a number that it doesn't take, or where it can't stand.
abbrev pub is_bad_topk : Bool → ℕ → Item → Bool
is_bad_topk grouped items (item.TopK k sort show) = (k == 0) || nat_lt 32 k || grouped || not (items == 1)
is_bad_topk grouped items _ = false

-- There is such an item.
abbrev pub bad_topk : QueryParts → Option QueryFault
bad_topk q = fault_if (list_any (is_bad_topk (not (is_none q.group)) (length q.items)) q.items) BadTopk

-- An item, with the places of its columns.
abbrev pub cell_item : SchemaParts → Item → CellItem
cell_item schema item.Count = cell.Count
cell_item schema (item.Sum n) = cell.Sum (place_of schema n)
cell_item schema (item.Avg n) = cell.Avg (place_of schema n)
cell_item schema (item.Max n) = cell.Max (place_of schema n)
cell_item schema (item.Min n) = cell.Min (place_of schema n)
cell_item schema (item.TopK k sort show) = cell.TopK (min k (2 ^ 32 - 1)) (place_of schema sort) (place_of schema show)

-- How many blocks a cell has: one for each label of the group's column.
abbrev pub group_labels : SchemaParts → Option (List ℕ) → ℕ
group_labels schema None = 1
group_labels schema (Some n) = labels_of schema n

-- What a cell of the query keeps.
abbrev pub spec_of : QueryParts → SchemaParts → CellSpec
spec_of q schema = record { group = option_map (place_of schema) q.group; labels = group_labels schema q.group; items = map (cell_item schema) q.items }

-- A cell has over 128 words.
abbrev pub cells_too_wide : CellSpec → Option QueryFault
cells_too_wide spec = fault_if (nat_lt 128 (cell_width spec)) (CellsTooWide (min (cell_width spec) (2 ^ 64 - 1)))

-- The canonical text has over 4,096 bytes.
abbrev pub too_long : List ℕ → Option QueryFault
too_long text = fault_if (nat_lt 4096 (length text)) (TooLong (length text))

-- The first fault of two, and of several.
abbrev pub or_else : Option QueryFault → Option QueryFault → Option QueryFault
or_else (Some e) next = Some e
or_else None next = next

-- The refusals of names: the table's, one that is no column, one whose column can't stand there.
unfoldable pub name_refusal : QueryParts → SchemaParts → Option QueryFault
name_refusal q schema = or_else (no_table q schema) (or_else (no_column (uses_of q) schema) (wrong_type (uses_of q) schema))

-- The refusals of form: no secret, branches that differ, a key too wide, too many branches, TOPK where it can't stand.
unfoldable pub form_refusal : QueryParts → SchemaParts → Option QueryFault
form_refusal q schema = or_else (no_secret q) (or_else (branches_differ q) (or_else (too_wide q schema) (or_else (too_many_branches q) (bad_topk q))))

-- The refusals of size: cells too wide, a text too long.
unfoldable pub size_refusal : QueryParts → SchemaParts → Option QueryFault
size_refusal q schema = or_else (cells_too_wide (spec_of q schema)) (too_long (canonical_text q))

-- The first refusal that holds, in this order.
unfoldable pub refusal : QueryParts → SchemaParts → Option QueryFault
refusal q schema = or_else (name_refusal q schema) (or_else (form_refusal q schema) (size_refusal q schema))
