-- What is known of an accepted query and of its parameters.
use Rattle.std.proofs.Common.{◌≡◌, ℕ, ◌<◌, ◌≤◌, false, not, nat_lt, eqb, List, length, sym, ap, subst, ◌∙◌, arith}
use Rattle.std.specs.Prelude.{All}
use Rattle.std.specs.List.{AllByRecursion}
use Rattle.std.proofs.lemmas.Bool.Decides.{nat_tests}
use Rattle.std.proofs.lemmas.List.{length-map}
use Rattle.spl_values.specs.Shapes.{SchemaParts, IsSchema}
use Rattle.spl_values.specs.Tables.{key_bits}
use Rattle.cell_merge.specs.Cells.{cell_width}
use Rattle.cell_merge.specs.TableRows.{SpecFits}
use Rattle.query_grammar.specs.Canonical.{IsQuery}
use Rattle.query_grammar.specs.Queries.{QueryParts, ends_in_range}
use Rattle.query_parser.specs.declared.fault.QueryFault.TheVariants.{NoSecret, BranchesDiffer}
use Rattle.query_reader.specs.declared.checked.Checked.{Checked}
use Rattle.query_reader.specs.Accepted.{IsCheckedFor}
use Rattle.query_reader.specs.Columns.{place_of}
use Rattle.query_reader.specs.Refusals.{first_branch, atom_name, same_atoms, spec_of}
use Rattle.query_reader.specs.Params.{AreParamsFor, HasBits, HaveBits, branch_columns, marks_of, times}
use Rattle.query_reader.proofs.Few.{not_if, at_most, unrefused, few_branches, narrow_key}
use Rattle.query_reader.proofs.Lists.{no_image, none_placed, zip_with, all_at}
use Rattle.query_reader.proofs.Facts.{spec_fits, publics_stand, atoms_stand}
use Rattle.query_reader.proofs.Keys.{FirstForm, first_form, places, places_inside, key_same, key_has_bits, marks_columns, columns_each, times_each, count_of}

module _ (checked : Checked) (schema : SchemaParts) (h : IsCheckedFor checked schema) where
  abbrev pub query : QueryParts
  query = checked.query

  pub checked_fits : SpecFits checked.spec schema.columns
  checked_fits = subst (λ s. SpecFits s schema.columns) (sym (ap (λ (c : Checked). c.spec) h.known)) (spec_fits query schema h.accepted)

  pub checked_width : cell_width checked.spec ≤ 128
  checked_width =
      let spec : checked.spec ≡ spec_of query schema = ap (λ (c : Checked). c.spec) h.known in
      let narrow = at_most 128 (cell_width (spec_of query schema)) (not_if (nat_lt 128 (cell_width (spec_of query schema))) _ (unrefused query schema h.accepted).cells) in
      subst (λ s. cell_width s ≤ 128) (sym spec) narrow

  branches_are : checked.branches ≡ length query.branches
  branches_are = ap (λ (c : Checked). c.branches) h.known

  some_branches : 1 ≤ length query.branches
  some_branches = grind (arith, nat_tests, not_if (eqb (length query.branches) 0) NoSecret (unrefused query schema h.accepted).secret)

  pub checked_branches : (1 ≤ checked.branches) × (checked.branches ≤ 8)
  checked_branches = (rw branches_are some_branches, rw branches_are (few_branches query schema h.accepted))

  columns_are : checked.columns ≡ places schema (first_branch query.branches)
  columns_are = ap (λ (c : Checked). c.columns) h.known

  inside : AllByRecursion (λ c. c < length schema.columns) (places schema (first_branch query.branches))
  inside = places_inside schema (first_branch query.branches) (atoms_stand query schema h.accepted)

  pub checked_columns : All (λ c. c < length schema.columns) checked.columns
  checked_columns = rw columns_are (all_at (λ c. c < length schema.columns) (places schema (first_branch query.branches)) inside)

  pub checked_publics : All (λ (b : ℕ × ℕ × ℕ). b.0 < length schema.columns) checked.public
  checked_publics = let e = ap (λ (c : Checked). c.public) h.known in subst (All (λ (b : ℕ × ℕ × ℕ). b.0 < length schema.columns)) (sym e) (publics_stand query schema h.accepted)

  pub checked_bits : checked.bits ≡ key_bits schema.columns checked.columns
  checked_bits =
      ap (λ (c : Checked). c.bits) h.known
      ∙ (key_same schema (first_branch query.branches) (atoms_stand query schema h.accepted) ∙ ap (key_bits schema.columns) (sym columns_are))

  pub checked_narrow : checked.bits ≤ 128
  checked_narrow = let e = ap (λ (c : Checked). c.bits) h.known in rw e (narrow_key query schema h.accepted)

  form : IsQuery query → FirstForm query.branches
  form q = first_form query.branches some_branches q.branches

  length-places : length (places schema (first_branch query.branches)) ≡ length (first_branch query.branches)
  length-places = length-map (first_branch query.branches) (λ a. place_of schema (atom_name a))

  pub checked_some : IsQuery query → 1 ≤ length checked.columns
  checked_some q = let some = (form q).some in let e = ap length columns_are ∙ length-places in omega (arith, some, e)

  pub checked_least : IsQuery query → IsSchema schema → 1 ≤ checked.bits
  checked_least q s =
      let least = key_has_bits schema (first_branch query.branches) s (form q).some (atoms_stand query schema h.accepted) in
      let e = checked_bits ∙ ap (key_bits schema.columns) columns_are in
      omega (arith, least, e)

  -- ---- parameters

  all_same : AllByRecursion (λ b. not (same_atoms (first_branch query.branches) b) ≡ false) query.branches
  all_same =
      none_placed (λ b. not (same_atoms (first_branch query.branches) b)) query.branches
      (no_image _ _ (no_image BranchesDiffer _ (unrefused query schema h.accepted).same))

  marks_are : IsQuery query → marks_of schema query.branches ≡ times checked.branches (branch_columns checked.columns checked.range)
  marks_are q =
      let range = ap (λ (c : Checked). c.range) h.known in
      marks_columns schema query.branches (form q) all_same
      ∙ (ap (λ n. times n (branch_columns (places schema (first_branch query.branches)) (ends_in_range (first_branch query.branches)))) (sym branches_are)
      ∙ (ap (λ l. times checked.branches (branch_columns l (ends_in_range (first_branch query.branches)))) (sym columns_are)
      ∙ ap (λ r. times checked.branches (branch_columns checked.columns r)) (sym range)))

  pub params_known : IsQuery query → (params : List ℕ) → HaveBits schema.columns (marks_of schema query.branches) params → AreParamsFor checked schema params
  params_known q params z =
      let columns = times checked.branches (branch_columns checked.columns checked.range) in
      let bits : HaveBits schema.columns columns params = rw (← marks_are q) z in
      let here : AllByRecursion (λ c. c < length schema.columns) checked.columns = rw columns_are inside in
      let there = times_each (λ c. c < length schema.columns) checked.branches (branch_columns checked.columns checked.range) (columns_each (λ c. c < length schema.columns) checked.columns checked.range here) in
      let below = zip_with (λ c. c < length schema.columns) (λ c p. c < length schema.columns → HasBits schema.columns c p) (HasBits schema.columns) (λ c p i b. b i) columns params there bits in
      record {
        count = count_of checked.branches checked.columns checked.range params (HasBits schema.columns) (checked_some q) below;
        below = below;
      }
