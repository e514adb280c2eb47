-- The rows of the cells that come back, and the words of these cells.
use Rattle.std.proofs.Common.{◌≡◌, ℕ, ◌^◌, ◌<◌, ◌≤◌, true, ◌&&◌, List, [], ◌∷◌, length, refl, sym, ap, subst, arith}
use Rattle.std.specs.Prelude.{map}
use Rattle.std.specs.List.{AllByRecursion, filter, flat_map}
use Rattle.spl_words.specs.Secrets.{Secret}
use Rattle.spl_values.specs.Tables.{TableParts, IsTable}
use Rattle.cell_merge.specs.Rows.{Row}
use Rattle.cell_merge.specs.Cells.{Addends, cell}
use Rattle.cell_merge.specs.TableRows.{adds_in, rows_of}
use Rattle.cell_merge.proofs.Lists.{length-filter-le}
use Rattle.query_reader.specs.declared.checked.Checked.{Checked}
use Rattle.query_reader.specs.Accepted.{IsCheckedFor}
use Rattle.query_reader.specs.Matching.{is_kept, matching_rows, some_branch_holds}
use Rattle.query_reader.proofs.Known.{checked_fits}
use Rattle.clear_sql.proofs.MatchingCells.{filter_filter, length-rows_of}
use Rattle.count_sum.specs.SumPairs.{joined_key}
use Rattle.private_plan.specs.declared.plans.PlanKind.{PlanKind}
use Rattle.private_plan.specs.declared.plans.PlanKind.TheVariants as kind
use Rattle.private_plan.specs.Plans.{brings_cells, kind_of}
use Rattle.session_model.specs.Cells.{ArePicked, cells_back, each_told, rows_back, rows_for, told_by}
use Rattle.session_model.proofs.CellWords.{AreWords, cell_small, filter_few, rows_are, words_both}

-- ---- rows

pub told_picked : (checked : Checked) (t : TableParts) (number : Row → ℕ) (bits : ℕ) (s : Secret) → ArePicked t (told_by checked t number bits s)
told_picked checked t number bits s = (_, filter_filter (is_kept checked.public) _ (rows_of t))

pub each_picked : (checked : Checked) (t : TableParts) (number : Row → ℕ) (bits : ℕ) (ss : List Secret) → AllByRecursion (ArePicked t) (map (told_by checked t number bits) ss)
each_picked checked t number bits [] = tt
each_picked checked t number bits (s ∷ ss) = (told_picked checked t number bits s, each_picked checked t number bits ss)

-- each cell that comes back is one of rows of the table that pass a test
pub back_picked : (checked : Checked) (t : TableParts) (params : List ℕ) → AllByRecursion (ArePicked t) (rows_back checked t params)
unfolding rows_back
back_picked checked t params = by_kind (kind_of checked t.shape.schema.columns)
  where
    by_kind : (k : PlanKind) → AllByRecursion (ArePicked t) (rows_for k checked t params)
    by_kind kind.Sum =
        let holds = some_branch_holds checked.branches checked.columns checked.range params in
        (((λ r. is_kept checked.public r && holds r), filter_filter (is_kept checked.public) holds (rows_of t)), tt)
    by_kind kind.Point = each_picked checked t (joined_key checked t) checked.bits _
    by_kind kind.Aligned = each_picked checked t (joined_key checked t) checked.bits _
    by_kind kind.Position = tt

picked_few : (t : TableParts) (rows : List Row) → ArePicked t rows → length rows ≤ length t.rows
picked_few t rows is =
    let short = length-filter-le is.0 (rows_of t) in
    let count = length-rows_of t in
    let same = ap length is.1 in
    omega (arith, short, count, same)

pub each_few : (t : TableParts) (back : List (List Row)) → AllByRecursion (ArePicked t) back → AllByRecursion (λ rows. length rows ≤ length t.rows) back
each_few t [] each = tt
each_few t (rows ∷ back) each = (picked_few t rows each.0, each_few t back each.1)

-- ---- their cells

module _ (checked : Checked) (t : TableParts) (valid : IsTable t) (accepted : IsCheckedFor checked t.shape.schema) where
  abbrev adds : Addends
  adds = adds_in t.shape.schema.columns

  pub picked_small : (rows : List Row) → ArePicked t rows → AreWords (cell adds checked.spec rows)
  picked_small rows is =
      let columns = t.shape.schema.columns in
      let fits = checked_fits checked t.shape.schema accepted in
      let count = length-rows_of t in
      let few : length (rows_of t) < 2 ^ 64 = omega (arith, count, valid.count, valid.shape.few) in
      subst (λ l. AreWords (cell adds checked.spec l)) (sym is.1) (cell_small columns adds checked.spec (filter is.0 (rows_of t)) fits.kept (filter_few columns is.0 (rows_of t) (rows_are t valid, few)))

  pub each_small : (back : List (List Row)) → AllByRecursion (ArePicked t) back → AreWords (flat_map (cell adds checked.spec) back)
  each_small [] each = tt
  each_small (rows ∷ back) each = words_both (cell adds checked.spec rows) (flat_map (cell adds checked.spec) back) (picked_small rows each.0) (each_small back each.1)

  pub cells_small : (params : List ℕ) → AreWords (cells_back checked t params)
  cells_small params = each_small (rows_back checked t params) (back_picked checked t params)

-- what comes back of a sum are the matching rows
pub sum_rows : (checked : Checked) (t : TableParts) (params : List ℕ) → kind_of checked t.shape.schema.columns ≡ kind.Sum → rows_back checked t params ≡ matching_rows checked params t ∷ []
unfolding rows_back
sum_rows checked t params sum = ap (λ k. rows_for k checked t params) sum

-- and else those that each secret tells
pub told_back : (checked : Checked) (t : TableParts) (params : List ℕ) → brings_cells (kind_of checked t.shape.schema.columns) ≡ true → rows_back checked t params ≡ each_told checked t params
unfolding rows_back
told_back checked t params brings = by_kind (kind_of checked t.shape.schema.columns) brings
  where
    by_kind : (k : PlanKind) → brings_cells k ≡ true → rows_for k checked t params ≡ each_told checked t params
    by_kind kind.Sum brings = absurd cc
    by_kind kind.Point brings = refl
    by_kind kind.Aligned brings = refl
    by_kind kind.Position brings = absurd cc
