-- What holds of the columns of an accepted query, and of what its cells keep.
use Rattle.std.proofs.Common.{◌≡◌, ℕ, ◌<◌, ◌≤◌, false, List, [], ◌∷◌, ◌++◌, length, map, Option, Some, None, refl, sym, ap, subst, ◌∙◌, arith, get_or, slice_get}
use Rattle.std.specs.Prelude.{All, is_none, option_map, unwrap_or}
use Rattle.std.specs.List.{AllByRecursion, flat_map}
use Rattle.std.specs.Str.{bytes_eq}
use Rattle.std.proofs.lemmas.Bool.Decides.{nat_tests}
use Rattle.std.proofs.lemmas.List.Quantifiers.{position-Some}
use Rattle.std.proofs.lemmas.Option.{slice_get-get_or}
use Rattle.spl_values.specs.Kinds.{bits_of}
use Rattle.spl_values.specs.Shapes.{SchemaParts, ColumnParts}
use Rattle.spl_values.specs.Tables.{column_bits}
use Rattle.spl_values.specs.declared.kinds.ColumnType.{ColumnType}
use Rattle.spl_values.specs.declared.kinds.ColumnType.TheVariants.{Uint, Text, Enum}
use Rattle.spl_values.proofs.RowLaws.{column_bits-at}
use Rattle.cell_merge.specs.declared.spec.CellItem.{CellItem}
use Rattle.cell_merge.specs.TableRows.{HasColumns, AddsNumbers, KeepsWords, GroupsLabels, HasLabels, IsNumbers, SpecFits, kind_in}
use Rattle.query_grammar.specs.declared.item.Item.{Item}
use Rattle.query_grammar.specs.declared.item.Item.TheVariants as item
use Rattle.query_grammar.specs.declared.condition.Public.{Public}
use Rattle.query_grammar.specs.declared.condition.Public.TheVariants as public
use Rattle.query_grammar.specs.declared.condition.Atom.{Atom}
use Rattle.query_grammar.specs.declared.condition.Atom.TheVariants as atom
use Rattle.query_grammar.specs.Queries.{QueryParts}
use Rattle.query_parser.specs.declared.fault.QueryFault.TheVariants.{NoColumn, WrongType}
use Rattle.query_reader.specs.declared.uses.Role.{Role}
use Rattle.query_reader.specs.declared.uses.Role.TheVariants.{Summed, Ranked, Grouped}
use Rattle.query_reader.specs.declared.uses.Use.{Use}
use Rattle.query_reader.specs.Uses.{item_uses, public_use, atom_use, group_uses, uses_of}
use Rattle.query_reader.specs.Columns.{column_of, place_of, kind_at, kind_of, labels_in, labels_of}
use Rattle.query_reader.specs.Accepted.{IsAccepted, bound_of}
use Rattle.query_reader.specs.Refusals.{is_wrong, is_wrong_in, first_branch, atom_name, cell_item, group_labels, spec_of}
use Rattle.query_reader.proofs.Few.{unrefused}
use Rattle.query_reader.proofs.Lists.{no_image, none_found, each_left, each_right, each_both, all_lists, all_images, all_of}

-- ---- names that are columns

-- the column of a name that is one
pub record Found (schema : SchemaParts) (name : List ℕ) : Type 0 where
  pub inside : place_of schema name < length schema.columns
  pub kind : kind_of schema name ≡ Some (kind_in schema.columns (place_of schema name))
  pub bits : column_bits schema.columns (place_of schema name) ≡ bits_of (kind_in schema.columns (place_of schema name))

no_column : ColumnParts
no_column = record { name = []; kind = Uint 0 }

found_at : (schema : SchemaParts) (name : List ℕ) (o : Option ℕ) → column_of schema name ≡ o → is_none o ≡ false → Found schema name
found_at schema name None e h = absurd cc
found_at schema name (Some i) e h =
    let within = position-Some (λ (c : ColumnParts). bytes_eq c.name name) schema.columns i no_column e in
    let place : place_of schema name ≡ i = ap (λ o. unwrap_or o 0) e in
    let here : slice_get schema.columns i ≡ Some (get_or schema.columns i no_column) = slice_get-get_or schema.columns i no_column within.0 in
    let at : slice_get schema.columns (place_of schema name) ≡ Some (get_or schema.columns i no_column) = rw place here in
    let kind : kind_in schema.columns (place_of schema name) ≡ (get_or schema.columns i no_column).kind = rw at refl in
    record {
      inside = rw place within.0;
      kind = ap (kind_at schema) e ∙ (ap (option_map (λ (c : ColumnParts). c.kind)) here ∙ ap Some (sym kind));
      bits = column_bits-at schema.columns (place_of schema name) (get_or schema.columns i no_column) at ∙ ap bits_of (sym kind);
    }

pub found : (schema : SchemaParts) (name : List ℕ) → is_none (column_of schema name) ≡ false → Found schema name
found schema name h = found_at schema name (column_of schema name) refl h

-- a name's column is there, and can stand where the name does
abbrev pub Stands : SchemaParts → Use → Type 0
Stands schema u = (is_none (column_of schema u.name) ≡ false) × (is_wrong_in (kind_of schema u.name) u.role ≡ false)

pub all_stand : (q : QueryParts) (schema : SchemaParts) → IsAccepted q schema → AllByRecursion (Stands schema) (uses_of q)
all_stand q schema h =
    let no = unrefused q schema h in
    let columns = none_found (λ (u : Use). is_none (column_of schema u.name)) (uses_of q) (no_image (λ (u : Use). NoColumn u.name) _ no.columns) in
    let types = none_found (λ (u : Use). is_wrong_in (kind_of schema u.name) u.role) (uses_of q) (no_image (λ (u : Use). WrongType u.name) _ no.types) in
    each_both (λ (u : Use). is_none (column_of schema u.name) ≡ false) (λ (u : Use). is_wrong_in (kind_of schema u.name) u.role ≡ false) (uses_of q) columns types

-- the column is there and has such a type
pub record Stood (schema : SchemaParts) (name : List ℕ) (role : Role) : Type 0 where
  pub found : Found schema name
  pub right : is_wrong (kind_in schema.columns (place_of schema name)) role ≡ false

pub stood : (schema : SchemaParts) (name : List ℕ) (role : Role) → is_none (column_of schema name) ≡ false → is_wrong_in (kind_of schema name) role ≡ false → Stood schema name role
stood schema name role h k =
    let f = found schema name h in
    record { found = f; right = ap (λ o. is_wrong_in o role) (sym f.kind) ∙ k }

-- ---- items

numbers : (kind : ColumnType) → is_wrong kind Summed ≡ false → IsNumbers kind
numbers (Uint b) h = tt
numbers (Text k) h = absurd cc
numbers (Enum labels) h = absurd cc

words : (kind : ColumnType) → is_wrong kind Ranked ≡ false → bits_of kind ≤ 64
words (Uint b) h = grind (arith, nat_tests)
words (Text k) h = grind (arith, nat_tests)
words (Enum labels) h = grind (arith, nat_tests)

labels_are : (kind : ColumnType) → is_wrong kind Grouped ≡ false → HasLabels (labels_in (Some kind)) kind
labels_are (Uint b) h = absurd cc
labels_are (Text k) h = absurd cc
labels_are (Enum labels) h = refl

ranked : (schema : SchemaParts) (n : List ℕ) → Stood schema n Ranked → column_bits schema.columns (place_of schema n) ≤ 64
ranked schema n s = rw s.found.bits (words (kind_in schema.columns (place_of schema n)) s.right)

-- what an item asks of the columns
record ItemStands (columns : List ColumnParts) (i : CellItem) : Type 0 where
  present : HasColumns columns i
  summed : AddsNumbers columns i
  kept : KeepsWords columns i

summed_item : (schema : SchemaParts) (n : List ℕ) → Stands schema (record { name = n; role = Summed }) → Stood schema n Summed
summed_item schema n h = stood schema n Summed h.0 h.1

ranked_item : (schema : SchemaParts) (n : List ℕ) → Stands schema (record { name = n; role = Ranked }) → Stood schema n Ranked
ranked_item schema n h = stood schema n Ranked h.0 h.1

item_stands : (schema : SchemaParts) (i : Item) → AllByRecursion (Stands schema) (item_uses i) → ItemStands schema.columns (cell_item schema i)
item_stands schema item.Count h = record { present = tt; summed = tt; kept = tt }
item_stands schema (item.Sum n) h =
    let s = summed_item schema n h.0 in
    record { present = s.found.inside; summed = numbers (kind_in schema.columns (place_of schema n)) s.right; kept = tt }
item_stands schema (item.Avg n) h =
    let s = summed_item schema n h.0 in
    record { present = s.found.inside; summed = numbers (kind_in schema.columns (place_of schema n)) s.right; kept = tt }
item_stands schema (item.Max n) h =
    let s = ranked_item schema n h.0 in
    record { present = s.found.inside; summed = tt; kept = ranked schema n s }
item_stands schema (item.Min n) h =
    let s = ranked_item schema n h.0 in
    record { present = s.found.inside; summed = tt; kept = ranked schema n s }
item_stands schema (item.TopK k sort show) h =
    let s = ranked_item schema sort h.0 in
    let t = ranked_item schema show h.1.0 in
    record { present = (s.found.inside, t.found.inside); summed = tt; kept = (ranked schema sort s, ranked schema show t) }

group_stands : (schema : SchemaParts) (g : Option (List ℕ)) → AllByRecursion (Stands schema) (group_uses g) → GroupsLabels schema.columns (group_labels schema g) (option_map (place_of schema) g)
group_stands schema None h = tt
group_stands schema (Some n) h =
    let s = stood schema n Grouped h.0.0 h.0.1 in
    let kind = kind_in schema.columns (place_of schema n) in
    let count : labels_of schema n ≡ labels_in (Some kind) = ap labels_in s.found.kind in
    (s.found.inside, subst (λ l. HasLabels l kind) (sym count) (labels_are kind s.right))

-- ---- the parts of all names

record Parts (q : QueryParts) (schema : SchemaParts) : Type 0 where
  items : AllByRecursion (Stands schema) (flat_map item_uses q.items)
  public : AllByRecursion (Stands schema) (map public_use q.public)
  branches : AllByRecursion (Stands schema) (flat_map (map atom_use) q.branches)
  group : AllByRecursion (Stands schema) (group_uses q.group)

parts : (q : QueryParts) (schema : SchemaParts) → IsAccepted q schema → Parts q schema
parts q schema h =
    let all = all_stand q schema h in
    let items = flat_map item_uses q.items in
    let publics = map public_use q.public in
    let atoms = flat_map (map atom_use) q.branches in
    let group = group_uses q.group in
    let front = each_left (Stands schema) (items ++ publics ++ atoms) group all in
    let first = each_left (Stands schema) (items ++ publics) atoms front in
    record {
      items = each_left (Stands schema) items publics first;
      public = each_right (Stands schema) items publics first;
      branches = each_right (Stands schema) (items ++ publics) atoms front;
      group = each_right (Stands schema) (items ++ publics ++ atoms) group all;
    }

pub spec_fits : (q : QueryParts) (schema : SchemaParts) → IsAccepted q schema → SpecFits (spec_of q schema) schema.columns
spec_fits q schema h =
    let p = parts q schema h in
    let Each = λ (P : CellItem → Type 0). AllByRecursion (λ i. P (cell_item schema i)) q.items in
    let present : Each (HasColumns schema.columns) = all_lists (Stands schema) (λ i. HasColumns schema.columns (cell_item schema i)) item_uses (λ i s. (item_stands schema i s).present) q.items p.items in
    let summed : Each (AddsNumbers schema.columns) = all_lists (Stands schema) (λ i. AddsNumbers schema.columns (cell_item schema i)) item_uses (λ i s. (item_stands schema i s).summed) q.items p.items in
    let kept : Each (KeepsWords schema.columns) = all_lists (Stands schema) (λ i. KeepsWords schema.columns (cell_item schema i)) item_uses (λ i s. (item_stands schema i s).kept) q.items p.items in
    record {
      present = all_of (HasColumns schema.columns) (cell_item schema) q.items present;
      summed = all_of (AddsNumbers schema.columns) (cell_item schema) q.items summed;
      kept = all_of (KeepsWords schema.columns) (cell_item schema) q.items kept;
      grouped = group_stands schema q.group p.group;
    }

-- ---- the columns of conditions

public_stands : (schema : SchemaParts) (p : Public) → Stands schema (public_use p) → (bound_of schema p).0 < length schema.columns
public_stands schema (public.Equal n l) h = (found schema n h.0).inside
public_stands schema (public.Between n l m) h = (found schema n h.0).inside

pub publics_stand : (q : QueryParts) (schema : SchemaParts) → IsAccepted q schema → All (λ (b : ℕ × ℕ × ℕ). b.0 < length schema.columns) (map (bound_of schema) q.public)
publics_stand q schema h =
    all_of (λ (b : ℕ × ℕ × ℕ). b.0 < length schema.columns) (bound_of schema) q.public
    (all_images (Stands schema) (λ p. (bound_of schema p).0 < length schema.columns) public_use (public_stands schema) q.public (parts q schema h).public)

-- the column of an atom is there
abbrev pub AtomStands : SchemaParts → Atom → Type 0
AtomStands schema a = Found schema (atom_name a)

atom_stands : (schema : SchemaParts) (a : Atom) → Stands schema (atom_use a) → AtomStands schema a
atom_stands schema (atom.Equal n) h = found schema n h.0
atom_stands schema (atom.Between n) h = found schema n h.0

branch_stands : (schema : SchemaParts) (branch : List Atom) → AllByRecursion (Stands schema) (map atom_use branch) → AllByRecursion (AtomStands schema) branch
branch_stands schema branch h = all_images (Stands schema) (AtomStands schema) atom_use (atom_stands schema) branch h

first_stands : (schema : SchemaParts) (branches : List (List Atom)) → AllByRecursion (AllByRecursion (AtomStands schema)) branches → AllByRecursion (AtomStands schema) (first_branch branches)
first_stands schema [] h = tt
first_stands schema (b ∷ bs) h = h.0

-- the columns of branch 0 are there
pub atoms_stand : (q : QueryParts) (schema : SchemaParts) → IsAccepted q schema → AllByRecursion (AtomStands schema) (first_branch q.branches)
atoms_stand q schema h =
    first_stands schema q.branches (all_lists (Stands schema) (AllByRecursion (AtomStands schema)) (map atom_use) (branch_stands schema) q.branches (parts q schema h).branches)
