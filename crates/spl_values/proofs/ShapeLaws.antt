-- What a text that reads as a shape keeps.
use Rattle.std.proofs.Common.{◌≡◌, ◌≢◌, ℕ, ◌+◌, ◌<◌, ◌≤◌, ◌==◌, Bool, true, false, ◌&&◌, ◌||◌, not, cond, nat_le, List, [], ◌∷◌, ◌++◌, length, All, Option, Some, None, Result, Ok, Err, option_map, option_and_then, refl, sym, ap, subst, ◌∙◌, arith, codes, ◌⊎◌, inl, inr, length-append}
use Rattle.std.specs.List.{list_any, before_first, after_first}
use Rattle.std.specs.Option.{option_map_or}
use Rattle.std.specs.Str.{bytes_eq}
use Rattle.std.proofs.lemmas.List.{map-append}
use Rattle.std.proofs.lemmas.List.Elements.{All-push, All-nil}
use Rattle.std.proofs.lemmas.Slice.Eq.{bytes_eq-Decides}
use Rattle.std.proofs.lemmas.Bool.Decides.{nat_tests}
use Rattle.spl_values.specs.Names.{is_name, is_distinct}
use Rattle.spl_values.specs.Shapes.{ColumnParts, IsColumn, IsSchema, names_of}
use Rattle.spl_values.specs.ShapeTexts.{after_prefix, if_name, if_rows, plain_number, kind_of_text, column_of_line, added, result_and_then, table_of_line, rows_of_line, columns_of_lines, shape_of_lines}
use Rattle.spl_values.specs.declared.kinds.ColumnType.{ColumnType}
use Rattle.spl_values.specs.declared.shape_reader.ShapeFault.{ShapeFault}
use Rattle.spl_values.specs.declared.shape_reader.ShapeFault.TheVariants as shape
use Rattle.spl_values.proofs.ShapeReading.{read_kind_is_kind}

test_of : (b : Bool) → (b ≡ true) ⊎ (b ≡ false)
test_of true = inl refl
test_of false = inr refl

-- a text is another exactly where the other is it
pub bytes_turned : (a b : List ℕ) → bytes_eq a b ≡ false → bytes_eq b a ≡ false
bytes_turned a b h =
    elim (test_of (bytes_eq b a)) [
      | inl same ↦ let e : b ≡ a = (bytes_eq-Decides b a).0 same in let f = (bytes_eq-Decides a b).1 (sym e) in absurd cc
      | inr other ↦ other
    ]

any_push : (p : List ℕ → Bool) (xs : List (List ℕ)) (y : List ℕ) → list_any p xs ≡ false → p y ≡ false → list_any p (xs ++ y ∷ []) ≡ false
any_push p [] y h k = rw k refl
any_push p (x ∷ xs) y h k =
    elim (p x) as (λ b. (b || list_any p xs) ≡ false → (b || list_any p (xs ++ y ∷ [])) ≡ false)
    [ true ↦ λ e. absurd cc | false ↦ λ e. any_push p xs y e k ] h

distinct-push : (xs : List (List ℕ)) (y : List ℕ) → is_distinct xs ≡ true → list_any (bytes_eq y) xs ≡ false → is_distinct (xs ++ y ∷ []) ≡ true
distinct-push [] y d h = refl
distinct-push (x ∷ xs) y d h =
    let head : list_any (bytes_eq x) xs ≡ false = first_new (list_any (bytes_eq x) xs) (is_distinct xs) d in
    let tail : is_distinct xs ≡ true = rest_new (list_any (bytes_eq x) xs) (is_distinct xs) d in
    let here : bytes_eq y x ≡ false = one_not (bytes_eq y x) (list_any (bytes_eq y) xs) h in
    let later : list_any (bytes_eq y) xs ≡ false = others_not (bytes_eq y x) (list_any (bytes_eq y) xs) h in
    let more = any_push (bytes_eq x) xs y head (bytes_turned y x here) in
    rw (more, distinct-push xs y tail later) refl
  where
    first_new : (a b : Bool) → (not a && b) ≡ true → a ≡ false
    first_new true b e = absurd cc
    first_new false b e = refl

    rest_new : (a b : Bool) → (not a && b) ≡ true → b ≡ true
    rest_new true b e = absurd cc
    rest_new false b e = e

    one_not : (a b : Bool) → (a || b) ≡ false → a ≡ false
    one_not true b e = absurd cc
    one_not false b e = refl

    others_not : (a b : Bool) → (a || b) ≡ false → b ≡ false
    others_not true b e = absurd cc
    others_not false b e = e

pub any_name : (name : List ℕ) (columns : List ColumnParts) → list_any (λ d. bytes_eq name d.name) columns ≡ list_any (bytes_eq name) (names_of columns)
any_name name [] = refl
any_name name (d ∷ ds) = ap (λ b. bytes_eq name d.name || b) (any_name name ds)

-- what columns keep that are read from lines
pub record AreColumns (cs : List ColumnParts) : Type 0 where
  pub few : length cs ≤ 24
  pub columns : All IsColumn cs
  pub distinct : is_distinct (names_of cs) ≡ true

-- what is read as a column is one
pub column_is : (line : List ℕ) (c : ColumnParts) → column_of_line line ≡ Some c → IsColumn c
unfolding column_of_line
column_is line c e = by_name (is_name (before_first (λ b. b == 32) line)) refl (kind_of_text (after_first (λ b. b == 32) line)) refl e
  where
    name : List ℕ
    name = before_first (λ b. b == 32) line

    by_name : (t : Bool) → is_name name ≡ t → (o : Option ColumnType) → kind_of_text (after_first (λ b. b == 32) line) ≡ o
        → cond t (option_map (λ kind. record { name = name; kind = kind }) o) None ≡ Some c → IsColumn c
    by_name true named (Some kind) typed f =
        let same : record { name = name; kind = kind } ≡ c = cc in
        subst IsColumn same (record { named = named; typed = read_kind_is_kind (after_first (λ b. b == 32) line) kind typed })
    by_name true named None typed f = absurd cc
    by_name false named o typed f = absurd cc

-- one more column
columns_push : (n : ℕ) (before more : List ColumnParts) (line : List ℕ) → AreColumns before → length before ≢ 24 → added n before (column_of_line line) ≡ Ok more → AreColumns more × (0 < length more)
columns_push n before more line kept room e = by_column (column_of_line line) refl e
  where
    by_column : (o : Option ColumnParts) → column_of_line line ≡ o → added n before o ≡ Ok more → AreColumns more × (0 < length more)
    by_column None f g = absurd cc
    by_column (Some c) f g = by_new (list_any (λ d. bytes_eq c.name d.name) before) refl g
      where
        by_new : (t : Bool) → list_any (λ d. bytes_eq c.name d.name) before ≡ t → cond t (Err (shape.SameName n)) (Ok (before ++ c ∷ [])) ≡ Ok more → AreColumns more × (0 < length more)
        by_new true h k = absurd cc
        by_new false h k =
            let same : before ++ c ∷ [] ≡ more = cc in
            let new = sym (any_name c.name before) ∙ h in
            let names : names_of (before ++ c ∷ []) ≡ names_of before ++ c.name ∷ [] = map-append (λ (d : ColumnParts). d.name) before (c ∷ []) in
            let count = length-append before (c ∷ []) in
            subst (λ (cs : List ColumnParts). AreColumns cs × (0 < length cs)) same (
              record { few = omega (arith, count, kept.few, room); columns = All-push IsColumn before c kept.columns (column_is line c f); distinct = rw names (distinct-push (names_of before) c.name kept.distinct new) },
              omega (arith, count),
            )

-- columns that are read from lines behind others
pub columns_kept : (ls : List (List ℕ)) (before cs : List ColumnParts) → AreColumns before → columns_of_lines before ls ≡ Ok cs → AreColumns cs × (0 < length cs)
unfolding columns_of_lines
columns_kept [] before cs kept e = by_some (length before == 0) refl e
  where
    by_some : (t : Bool) → (length before == 0) ≡ t → cond t (Err (shape.BadLine 3)) (Ok before) ≡ Ok cs → AreColumns cs × (0 < length cs)
    by_some true h k = absurd cc
    by_some false h k =
        let same : before ≡ cs = cc in
        let some : length before ≢ 0 = grind (arith, nat_tests) in
        subst (λ (xs : List ColumnParts). AreColumns xs × (0 < length xs)) same (kept, omega (arith, some))
columns_kept (line ∷ ls) before cs kept e = by_room (λ more m f. columns_kept ls more cs m f) (length before == 24) refl (added (length before + 3) before (column_of_line line)) refl e
  where
    by_room : ((more : List ColumnParts) → AreColumns more → columns_of_lines more ls ≡ Ok cs → AreColumns cs × (0 < length cs)) → (t : Bool) → (length before == 24) ≡ t → (r : Result (List ColumnParts) ShapeFault) → added (length before + 3) before (column_of_line line) ≡ r
        → cond t (Err (shape.TooManyColumns 27)) (result_and_then (λ columns. columns_of_lines columns ls) r) ≡ Ok cs → AreColumns cs × (0 < length cs)
    by_room again true h r f k = absurd cc
    by_room again false h (Ok more) f k =
        let room : length before ≢ 24 = grind (arith, nat_tests) in
        again more (columns_push (length before + 3) before more line kept room f).0 k
    by_room again false h (Err fault) f k = absurd cc

no_columns : AreColumns []
no_columns = record { few = omega arith; columns = All-nil IsColumn; distinct = refl }

-- what is read as a table's name is one
pub table_is : (line name : List ℕ) → table_of_line line ≡ Ok name → is_name name ≡ true
unfolding table_of_line
table_is line name e = by_text (after_prefix (codes "table ") line) e
  where
    by_name : (text : List ℕ) (t : Bool) → is_name text ≡ t → option_map_or Ok (cond t (Some text) None) (Err (shape.BadLine 1)) ≡ Ok name → is_name name ≡ true
    by_name text true h k = let same : text ≡ name = cc in rw (← same) h
    by_name text false h k = absurd cc

    by_text : (o : Option (List ℕ)) → option_map_or Ok (option_and_then if_name o) (Err (shape.BadLine 1)) ≡ Ok name → is_name name ≡ true
    by_text None k = absurd cc
    by_text (Some text) k = by_name text (is_name text) refl k

-- what is read as a number of rows is within the limit
pub rows_are : (line : List ℕ) (n : ℕ) → rows_of_line line ≡ Ok n → n ≤ 262144
unfolding rows_of_line
rows_are line n e = by_number (option_and_then plain_number (after_prefix (codes "rows ") line)) e
  where
    by_few : (m : ℕ) (t : Bool) → nat_le m 262144 ≡ t → cond t (Ok m) (Err shape.TooManyRows) ≡ Ok n → n ≤ 262144
    by_few m true h k = let same : m ≡ n = cc in let few : m ≤ 262144 = grind (arith, nat_tests) in omega (arith, same, few)
    by_few m false h k = absurd cc

    by_number : (o : Option ℕ) → option_map_or if_rows o (Err (shape.BadLine 2)) ≡ Ok n → n ≤ 262144
    by_number None k = absurd cc
    by_number (Some m) k = by_few m (nat_le m 262144) refl k

pub schema_is : (first : List ℕ) (ls : List (List ℕ)) (table : List ℕ) (columns : List ColumnParts) → table_of_line first ≡ Ok table → columns_of_lines [] ls ≡ Ok columns
    → IsSchema (record { table = table; columns = columns })
schema_is first ls table columns e f =
    let kept = columns_kept ls [] columns no_columns f in
    record { named = table_is first table e; some = kept.1; few = kept.0.few; columns = kept.0.columns; distinct = kept.0.distinct }

-- the lines of a shape, one after another
pub lines-none : (ls : List (List ℕ)) → ls ≡ [] → shape_of_lines ls ≡ Err (shape.BadLine 1)
unfolding shape_of_lines
lines-none ls e = rw e refl

pub lines-table : (ls : List (List ℕ)) (first : List ℕ) (rest : List (List ℕ)) (f : ShapeFault) → ls ≡ first ∷ rest → table_of_line first ≡ Err f → shape_of_lines ls ≡ Err f
unfolding shape_of_lines
lines-table ls first [] f e bad = rw (e, bad) refl
lines-table ls first (second ∷ rest) f e bad = rw (e, bad) refl

pub lines-one : (ls : List (List ℕ)) (first : List ℕ) (rest : List (List ℕ)) (table : List ℕ) → ls ≡ first ∷ rest → rest ≡ [] → table_of_line first ≡ Ok table → shape_of_lines ls ≡ Err (shape.BadLine 2)
unfolding shape_of_lines
lines-one ls first rest table e over good = rw (e, over, good) refl

pub lines-rows : (ls : List (List ℕ)) (first second : List ℕ) (more rest : List (List ℕ)) (table : List ℕ) (f : ShapeFault) → ls ≡ first ∷ more → more ≡ second ∷ rest → table_of_line first ≡ Ok table → rows_of_line second ≡ Err f → shape_of_lines ls ≡ Err f
unfolding shape_of_lines
lines-rows ls first second more rest table f e g good bad = rw (e, g, good, bad) refl

pub lines-columns : (ls : List (List ℕ)) (first second : List ℕ) (more rest : List (List ℕ)) (table : List ℕ) (rows : ℕ) (f : ShapeFault) → ls ≡ first ∷ more → more ≡ second ∷ rest → table_of_line first ≡ Ok table → rows_of_line second ≡ Ok rows
    → columns_of_lines [] rest ≡ Err f → shape_of_lines ls ≡ Err f
unfolding shape_of_lines
lines-columns ls first second more rest table rows f e g good few bad = rw (e, g, good, few, bad) refl

pub lines-whole : (ls : List (List ℕ)) (first second : List ℕ) (more rest : List (List ℕ)) (table : List ℕ) (rows : ℕ) (columns : List ColumnParts) → ls ≡ first ∷ more → more ≡ second ∷ rest → table_of_line first ≡ Ok table → rows_of_line second ≡ Ok rows
    → columns_of_lines [] rest ≡ Ok columns → shape_of_lines ls ≡ Ok (record { schema = record { table = table; columns = columns }; rows = rows })
unfolding shape_of_lines
lines-whole ls first second more rest table rows columns e g good few all = rw (e, g, good, few, all) refl
