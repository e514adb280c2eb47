-- The key of an accepted query, and the columns of its parameters.
use Rattle.std.proofs.Common.{◌≡◌, ℕ, zero, suc, ◌+◌, ◌*◌, ◌<◌, ◌≤◌, Bool, true, false, not, List, [], ◌∷◌, ◌++◌, length, map, Some, refl, sym, ap, ◌∙◌, arith, get_or, slice_get, IsTrue}
use Rattle.std.specs.List.{AllByRecursion, AllZip, flat_map, sum_by, list_all}
use Rattle.std.proofs.Math.Nat.{add-mul, zero-mul}
use Rattle.std.proofs.lemmas.Bool.Decides.{nat_tests}
use Rattle.std.proofs.lemmas.List.{length-append}
use Rattle.std.proofs.lemmas.List.Sums.{sum_by-cons}
use Rattle.std.proofs.lemmas.Slice.Eq.{bytes_eq-Decides}
use Rattle.std.proofs.lemmas.Slice.Zip.{AllZip-long}
use Rattle.std.proofs.lemmas.Option.{slice_get-get_or}
use Rattle.spl_values.specs.Kinds.{is_kind, bits_of}
use Rattle.spl_values.specs.Shapes.{SchemaParts, ColumnParts, IsSchema}
use Rattle.spl_values.specs.Tables.{column_bits, key_bits}
use Rattle.spl_values.specs.declared.kinds.ColumnType.{ColumnType}
use Rattle.spl_values.specs.declared.kinds.ColumnType.TheVariants.{Uint, Text, Enum}
use Rattle.cell_merge.specs.TableRows.{kind_in}
use Rattle.query_grammar.specs.declared.condition.Atom.{Atom}
use Rattle.query_grammar.specs.declared.condition.Atom.TheVariants as atom
use Rattle.query_grammar.specs.Queries.{ends_in_range, ranges_last, is_branch}
use Rattle.query_reader.specs.Columns.{place_of, bits_in, column_bits as name_bits}
use Rattle.query_reader.specs.Refusals.{first_branch, atom_name, same_atom, same_atoms}
use Rattle.query_reader.specs.Matching.{branch_params}
use Rattle.query_reader.specs.Params.{atom_marks, marks_of, branch_columns, times}
use Rattle.query_reader.proofs.Lists.{both_true, first_passes, each_append}
use Rattle.query_reader.proofs.Facts.{Found, AtomStands}

-- ---- the columns of a branch, and the bits of their key

-- the places of the columns of some atoms
abbrev pub places : SchemaParts → List Atom → List ℕ
places schema atoms = map (λ a. place_of schema (atom_name a)) atoms

pub places_inside : (schema : SchemaParts) (atoms : List Atom) → AllByRecursion (AtomStands schema) atoms → AllByRecursion (λ c. c < length schema.columns) (places schema atoms)
places_inside schema [] h = tt
places_inside schema (a ∷ more) h = (h.0.inside, places_inside schema more h.1)

bits_same : (schema : SchemaParts) (n : List ℕ) → Found schema n → name_bits schema n ≡ column_bits schema.columns (place_of schema n)
bits_same schema n f = ap bits_in f.kind ∙ sym f.bits

pub key_same : (schema : SchemaParts) (atoms : List Atom) → AllByRecursion (AtomStands schema) atoms
    → sum_by (λ a. name_bits schema (atom_name a)) atoms ≡ key_bits schema.columns (places schema atoms)
unfolding key_bits
key_same schema [] h = refl
key_same schema (a ∷ more) h =
    let rest = key_same schema more h.1 in
    let here = bits_same schema (atom_name a) h.0 in
    sum_by-cons (λ (b : Atom). name_bits schema (atom_name b)) a more ∙ (ap (λ n. n + sum_by (λ b. name_bits schema (atom_name b)) more) here ∙ ap (λ n. column_bits schema.columns (place_of schema (atom_name a)) + n) rest)

some_bits : (kind : ColumnType) → IsTrue (is_kind kind) → 1 ≤ bits_of kind
some_bits (Uint b) h = grind (arith, nat_tests)
some_bits (Text k) h = grind (arith, nat_tests)
some_bits (Enum labels) h = grind (arith, nat_tests)

column_typed : (schema : SchemaParts) (i : ℕ) → IsSchema schema → i < length schema.columns → IsTrue (is_kind (kind_in schema.columns i))
column_typed schema i s h =
    let none : ColumnParts = record { name = []; kind = Uint 0 } in
    let here : slice_get schema.columns i ≡ Some (get_or schema.columns i none) = slice_get-get_or schema.columns i none h in
    let typed = (s.columns i none h).typed in
    rw here typed

pub key_has_bits : (schema : SchemaParts) (atoms : List Atom) → IsSchema schema → 1 ≤ length atoms → AllByRecursion (AtomStands schema) atoms → 1 ≤ key_bits schema.columns (places schema atoms)
unfolding key_bits
key_has_bits schema [] s n h = absurd (omega arith)
key_has_bits schema (a ∷ more) s n h =
    let place = place_of schema (atom_name a) in
    let typed = column_typed schema place s h.0.inside in
    let some = some_bits (kind_in schema.columns place) typed in
    let bits = h.0.bits in
    omega (arith, some, bits)

-- ---- the form of the branches

first_some : (atoms : List Atom) → is_branch atoms ≡ true → 1 ≤ length atoms
first_some [] h = absurd cc
first_some (a ∷ more) h = omega arith

first_last : (atoms : List Atom) → is_branch atoms ≡ true → ranges_last atoms ≡ true
first_last [] h = absurd cc
first_last (a ∷ more) h = h

-- the first branch has atoms, and a range only last
pub record FirstForm (branches : List (List Atom)) : Type 0 where
  pub some : 1 ≤ length (first_branch branches)
  pub last : ranges_last (first_branch branches) ≡ true

pub first_form : (branches : List (List Atom)) → 1 ≤ length branches → list_all is_branch branches ≡ true → FirstForm branches
first_form [] n h = absurd (omega arith)
first_form (b ∷ bs) n h =
    let is = first_passes is_branch b bs h in
    record { some = first_some b is; last = first_last b is }

-- ---- the columns of parameters

atoms_marks : (schema : SchemaParts) (atoms : List Atom) → ranges_last atoms ≡ true → flat_map (atom_marks schema) atoms ≡ branch_columns (places schema atoms) (ends_in_range atoms)
atoms_marks schema [] h = refl
atoms_marks schema (atom.Equal n ∷ []) h = refl
atoms_marks schema (atom.Between n ∷ []) h = refl
atoms_marks schema (atom.Equal n ∷ b ∷ more) h = ap (λ l. place_of schema n ∷ l) (atoms_marks schema (b ∷ more) h)
atoms_marks schema (atom.Between n ∷ b ∷ more) h = absurd cc

same_marks : (schema : SchemaParts) (a b : Atom) → same_atom a b ≡ true → atom_marks schema a ≡ atom_marks schema b
same_marks schema (atom.Equal n) (atom.Equal m) h = ap (λ (n : List ℕ). place_of schema n ∷ []) ((bytes_eq-Decides n m).0 h)
same_marks schema (atom.Between n) (atom.Between m) h = ap (λ (n : List ℕ). place_of schema n ∷ place_of schema n ∷ []) ((bytes_eq-Decides n m).0 h)
same_marks schema (atom.Equal n) (atom.Between m) h = absurd cc
same_marks schema (atom.Between n) (atom.Equal m) h = absurd cc

same_branch : (schema : SchemaParts) (xs ys : List Atom) → same_atoms xs ys ≡ true → flat_map (atom_marks schema) xs ≡ flat_map (atom_marks schema) ys
same_branch schema [] [] h = refl
same_branch schema [] (y ∷ ys) h = absurd cc
same_branch schema (x ∷ xs) [] h = absurd cc
same_branch schema (x ∷ xs) (y ∷ ys) h =
    let both = both_true (same_atom x y) (same_atoms xs ys) h in
    ap (λ l. l ++ flat_map (atom_marks schema) xs) (same_marks schema x y both.0) ∙ ap (λ l. atom_marks schema y ++ l) (same_branch schema xs ys both.1)

is_true : (t : Bool) → not t ≡ false → t ≡ true
is_true true h = refl
is_true false h = absurd cc

same_branches : (schema : SchemaParts) (first : List Atom) (branches : List (List Atom)) → AllByRecursion (λ b. not (same_atoms first b) ≡ false) branches
    → marks_of schema branches ≡ times (length branches) (flat_map (atom_marks schema) first)
same_branches schema first [] h = refl
same_branches schema first (b ∷ bs) h =
    let here = same_branch schema first b (is_true (same_atoms first b) h.0) in
    ap (λ l. l ++ marks_of schema bs) (sym here) ∙ ap (λ l. flat_map (atom_marks schema) first ++ l) (same_branches schema first bs h.1)

pub marks_columns : (schema : SchemaParts) (branches : List (List Atom)) → FirstForm branches → AllByRecursion (λ b. not (same_atoms (first_branch branches) b) ≡ false) branches
    → marks_of schema branches ≡ times (length branches) (branch_columns (places schema (first_branch branches)) (ends_in_range (first_branch branches)))
marks_columns schema branches f h =
    same_branches schema (first_branch branches) branches h ∙ ap (times (length branches)) (atoms_marks schema (first_branch branches) f.last)

pub columns_each : (P : ℕ → Type 0) (columns : List ℕ) (range : Bool) → AllByRecursion P columns → AllByRecursion P (branch_columns columns range)
columns_each P [] range h = tt
columns_each P (c ∷ []) true h = (h.0, (h.0, tt))
columns_each P (c ∷ []) false h = (h.0, tt)
columns_each P (c ∷ d ∷ cs) range h = (h.0, columns_each P (d ∷ cs) range h.1)

pub times_each : (P : ℕ → Type 0) (n : ℕ) (xs : List ℕ) → AllByRecursion P xs → AllByRecursion P (times n xs)
times_each P zero xs h = tt
times_each P (suc n) xs h = each_append P xs (times n xs) h (times_each P n xs h)

length-branch_columns : (columns : List ℕ) (range : Bool) → 1 ≤ length columns → length (branch_columns columns range) ≡ branch_params columns range
length-branch_columns [] range h = absurd (omega arith)
length-branch_columns (c ∷ []) true h = refl
length-branch_columns (c ∷ []) false h = refl
length-branch_columns (c ∷ d ∷ cs) range h =
    let rest = length-branch_columns (d ∷ cs) range (omega arith) in
    let e : branch_params (c ∷ d ∷ cs) range ≡ suc (branch_params (d ∷ cs) range) = omega arith in
    ap suc rest ∙ sym e

length-times : (n : ℕ) (xs : List ℕ) → length (times n xs) ≡ n * length xs
length-times zero xs = omega (arith, zero-mul (length xs))
length-times (suc n) xs =
    let rest = length-times n xs in
    let split : (n + 1) * length xs ≡ n * length xs + 1 * length xs = add-mul n 1 (length xs) in
    let sum : length (xs ++ times n xs) ≡ length xs + length (times n xs) = length-append xs (times n xs) in
    omega (arith, rest, split, sum)

pub count_of : (n : ℕ) (columns : List ℕ) (range : Bool) (params : List ℕ) (R : ℕ → ℕ → Type 0) → 1 ≤ length columns → AllZip R (times n (branch_columns columns range)) params
    → length params ≡ n * branch_params columns range
count_of n columns range params R h z =
    AllZip-long R (times n (branch_columns columns range)) params z
    ∙ (length-times n (branch_columns columns range) ∙ ap (λ k. n * k) (length-branch_columns columns range h))
