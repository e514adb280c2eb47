-- A text that reads as a shape is one that describes it.
use Rattle.std.proofs.Common.{◌≡◌, ℕ, suc, ◌+◌, ◌-◌, ◌^◌, ◌<◌, ◌≤◌, ◌==◌, Bool, true, false, ◌&&◌, ◌||◌, not, cond, nat_le, List, [], ◌∷◌, ◌++◌, length, take, drop, get_or, map, Option, Some, None, Result, Ok, Err, option_map, option_and_then, refl, sym, ap, subst, ◌∙◌, arith, codes, ◌⊎◌, inl, inr, append_assoc}
use Rattle.std.specs.Fmt.{decimal}
use Rattle.std.specs.List.{list_any, before_first, after_first, position_or_len, slice_split}
use Rattle.std.specs.Option.{option_map_or}
use Rattle.std.specs.Str.{bytes_eq}
use Rattle.std.specs.Str.Lines.{lines}
use Rattle.std.specs.Str.Parse.{digits_value}
use Rattle.std.proofs.lemmas.Fmt.{decimal-digits_value}
use Rattle.std.proofs.lemmas.List.{take-append-drop, append-nil}
use Rattle.std.proofs.lemmas.List.Splits.{join_with_byte-slice_split}
use Rattle.std.proofs.lemmas.Option.{cond_some}
use Rattle.std.proofs.lemmas.Slice.Eq.{bytes_eq-Decides}
use Rattle.std.proofs.lemmas.Bool.Decides.{nat_tests}
use Rattle.spl_values.specs.Names.{is_name}
use Rattle.spl_values.specs.Kinds.{is_kind}
use Rattle.spl_values.specs.Shapes.{ColumnParts, ShapeParts}
use Rattle.spl_values.specs.CellTexts.{is_number}
use Rattle.spl_values.specs.ShapeTexts.{kind_word, kind_inside, kind_text, column_line, IsShapeText, after_prefix, between, plain_number, if_kind, if_name, if_rows, kind_of_text, column_of_line, added, result_and_then, table_of_line, rows_of_line, columns_of_lines, shape_of_lines, shape_of}
use Rattle.spl_values.specs.declared.kinds.ColumnType.{ColumnType}
use Rattle.spl_values.specs.declared.kinds.ColumnType.TheVariants.{Uint, Text, Enum}
use Rattle.spl_values.specs.declared.shape_reader.ShapeFault.{ShapeFault}
use Rattle.spl_values.specs.declared.shape_reader.ShapeFault.TheVariants as shape
use Rattle.spl_values.proofs.CellLaws.{digits_model, number_parts}
use Rattle.spl_values.proofs.CodeLaws.{number_bits, text_bytes}
use Rattle.spl_values.proofs.ShapeReading.{no_kind}
use Rattle.spl_values.proofs.ShapeLaws.{schema_is, rows_are}

-- a text that begins with a prefix
begins : (prefix text rest : List ℕ) → after_prefix prefix text ≡ Some rest → text ≡ prefix ++ rest
begins prefix text rest e =
    let parts = cond_some (bytes_eq (take (length prefix) text) prefix) (drop (length prefix) text) rest e in
    let front : take (length prefix) text ≡ prefix = (bytes_eq-Decides (take (length prefix) text) prefix).0 parts.0 in
    sym (take-append-drop (length prefix) text) ∙ ap (λ t. t ++ drop (length prefix) text) front ∙ ap (λ t. prefix ++ t) parts.1

-- a text that ends with a closing parenthesis
closes : (text : List ℕ) → get_or text (length text - 1) 0 ≡ 41 → text ≡ take (length text - 1) text ++ 41 ∷ []
closes [] e = absurd (omega (arith, e))
closes (x ∷ []) e = ap (λ y. y ∷ []) e
closes (x ∷ y ∷ ys) e =
    let less : suc (suc (length ys)) - 1 ≡ suc (suc (length ys) - 1) = omega arith in
    let last : get_or (y ∷ ys) (suc (length ys) - 1) 0 ≡ 41 = rw less at e in
    let tail = closes (y ∷ ys) last in
    rw less (ap (λ t. x ∷ t) tail)

between_spells : (prefix text inside : List ℕ) → between prefix text ≡ Some inside → text ≡ prefix ++ (inside ++ 41 ∷ [])
unfolding between
between_spells prefix text inside e = by_rest (after_prefix prefix text) refl e
  where
    by_rest : (o : Option (List ℕ)) → after_prefix prefix text ≡ o
        → option_and_then (λ rest. cond (get_or rest (length rest - 1) 0 == 41) (Some (take (length rest - 1) rest)) None) o ≡ Some inside → text ≡ prefix ++ (inside ++ 41 ∷ [])
    by_rest None f g = absurd cc
    by_rest (Some rest) f g =
        let parts = cond_some (get_or rest (length rest - 1) 0 == 41) (take (length rest - 1) rest) inside g in
        let last : get_or rest (length rest - 1) 0 ≡ 41 = is_41 (get_or rest (length rest - 1) 0) parts.0 in
        begins prefix text rest f ∙ ap (λ t. prefix ++ t) (closes rest last ∙ ap (λ t. t ++ 41 ∷ []) parts.1)
      where
        is_41 : (n : ℕ) → (n == 41) ≡ true → n ≡ 41
        is_41 n h = grind (arith, nat_tests)

-- a plain number is its decimal
plain_spells : (text : List ℕ) (n : ℕ) → n < 2 ^ 64 → plain_number text ≡ Some n → text ≡ decimal n
unfolding plain_number
plain_spells text n small e =
    let parts = cond_some (is_number text && (not (get_or text 0 0 == 48) || (length text == 1))) (digits_value 10 text) n e in
    let number = number_parts text (first_so (is_number text) (not (get_or text 0 0 == 48) || (length text == 1)) parts.0) in
    let led = second_so (is_number text) (not (get_or text 0 0 == 48) || (length text == 1)) parts.0 in
    let one : get_or text 0 0 ≡ 48 → length text ≡ 1 = λ h. only_one (get_or text 0 0) (length text) led h in
    let less : digits_value 10 text < 2 ^ 64 = omega (arith, parts.1) in
    sym (decimal-digits_value digits_model text number.1 number.0 one less) ∙ ap decimal parts.1
  where
    first_so : (a b : Bool) → (a && b) ≡ true → a ≡ true
    first_so true b h = refl
    first_so false b h = absurd cc

    second_so : (a b : Bool) → (a && b) ≡ true → b ≡ true
    second_so true b h = h
    second_so false b h = absurd cc

    only_one : (m n : ℕ) → (not (m == 48) || (n == 1)) ≡ true → m ≡ 48 → n ≡ 1
    only_one m n h e = grind (arith, nat_tests)

-- lines 1 and 2
table_spells : (line name : List ℕ) → table_of_line line ≡ Ok name → line ≡ codes "table " ++ name
unfolding table_of_line
table_spells line name e = by_text (after_prefix (codes "table ") line) refl e
  where
    by_text : (o : Option (List ℕ)) → after_prefix (codes "table ") line ≡ o → option_map_or Ok (option_and_then if_name o) (Err (shape.BadLine 1)) ≡ Ok name → line ≡ codes "table " ++ name
    by_text None f k = absurd cc
    by_text (Some text) f k = by_name (is_name text) k
      where
        by_name : (t : Bool) → option_map_or Ok (cond t (Some text) None) (Err (shape.BadLine 1)) ≡ Ok name → line ≡ codes "table " ++ name
        by_name true h = let same : text ≡ name = cc in begins (codes "table ") line text f ∙ ap (λ t. codes "table " ++ t) same
        by_name false h = absurd cc

rows_spell : (line : List ℕ) (n : ℕ) → rows_of_line line ≡ Ok n → line ≡ codes "rows " ++ decimal n
unfolding rows_of_line
rows_spell line n e = by_text (after_prefix (codes "rows ") line) refl e
  where
    by_text : (o : Option (List ℕ)) → after_prefix (codes "rows ") line ≡ o → option_map_or if_rows (option_and_then plain_number o) (Err (shape.BadLine 2)) ≡ Ok n → line ≡ codes "rows " ++ decimal n
    by_text None f k = absurd cc
    by_text (Some text) f k = by_number (plain_number text) refl k
      where
        by_few : (m : ℕ) (t : Bool) → plain_number text ≡ Some m → nat_le m 262144 ≡ t → cond t (Ok m) (Err shape.TooManyRows) ≡ Ok n → line ≡ codes "rows " ++ decimal n
        by_few m true g h j =
            let same : m ≡ n = cc in
            let few : m ≤ 262144 = grind (arith, nat_tests) in
            begins (codes "rows ") line text f ∙ ap (λ t. codes "rows " ++ t) (plain_spells text m (omega (arith, few)) g ∙ ap decimal same)
        by_few m false g h j = absurd cc

        by_number : (p : Option ℕ) → plain_number text ≡ p → option_map_or if_rows p (Err (shape.BadLine 2)) ≡ Ok n → line ≡ codes "rows " ++ decimal n
        by_number None g h = absurd cc
        by_number (Some m) g h = by_few m (nat_le m 262144) g refl h

-- types
kind_parts : (kind other : ColumnType) → if_kind kind ≡ Some other → (is_kind kind ≡ true) × (kind ≡ other)
kind_parts kind other e = cond_some (is_kind kind) kind other e

kind_spells : (text : List ℕ) (kind : ColumnType) → kind_of_text text ≡ Some kind → text ≡ kind_text kind
unfolding kind_of_text kind_text
kind_spells text kind e = by_uint (between (codes "UINT(") text) refl e
  where
    as_uint : (digits : List ℕ) (o : Option ℕ) → plain_number digits ≡ o → text ≡ codes "UINT(" ++ (digits ++ 41 ∷ []) → option_and_then (λ b. if_kind (Uint b)) o ≡ Some kind → text ≡ kind_word kind ++ kind_inside kind ++ codes ")"
    as_uint digits None g t k = absurd cc
    as_uint digits (Some b) g t k =
        let parts = kind_parts (Uint b) kind k in
        let spelt = plain_spells digits b (omega (arith, number_bits b parts.0)) g in
        subst (λ (x : ColumnType). text ≡ kind_word x ++ kind_inside x ++ codes ")") parts.1 (t ∙ ap (λ d. codes "UINT(" ++ (d ++ 41 ∷ [])) spelt)

    as_text : (digits : List ℕ) (o : Option ℕ) → plain_number digits ≡ o → text ≡ codes "TEXT(" ++ (digits ++ 41 ∷ []) → option_and_then (λ b. if_kind (Text b)) o ≡ Some kind → text ≡ kind_word kind ++ kind_inside kind ++ codes ")"
    as_text digits None g t k = absurd cc
    as_text digits (Some b) g t k =
        let parts = kind_parts (Text b) kind k in
        let spelt = plain_spells digits b (omega (arith, text_bytes b parts.0)) g in
        subst (λ (x : ColumnType). text ≡ kind_word x ++ kind_inside x ++ codes ")") parts.1 (t ∙ ap (λ d. codes "TEXT(" ++ (d ++ 41 ∷ [])) spelt)

    by_enum : (o : Option (List ℕ)) → between (codes "ENUM(") text ≡ o → option_map_or (λ labels. if_kind (Enum (slice_split (λ b. b == 124) labels))) o None ≡ Some kind → text ≡ kind_word kind ++ kind_inside kind ++ codes ")"
    by_enum None f k = absurd cc
    by_enum (Some labels) f k =
        let parts = kind_parts (Enum (slice_split (λ b. b == 124) labels)) kind k in
        let joined = join_with_byte-slice_split 124 labels in
        subst (λ (x : ColumnType). text ≡ kind_word x ++ kind_inside x ++ codes ")") parts.1
        (between_spells (codes "ENUM(") text labels f ∙ ap (λ d. codes "ENUM(" ++ (d ++ 41 ∷ [])) (sym joined))

    by_text : (o : Option (List ℕ)) → between (codes "TEXT(") text ≡ o
        → option_map_or (λ number. option_and_then (λ k. if_kind (Text k)) (plain_number number)) o (option_map_or (λ labels. if_kind (Enum (slice_split (λ b. b == 124) labels))) (between (codes "ENUM(") text) None) ≡ Some kind
        → text ≡ kind_word kind ++ kind_inside kind ++ codes ")"
    by_text (Some digits) f k = as_text digits (plain_number digits) refl (between_spells (codes "TEXT(") text digits f) k
    by_text None f k = by_enum (between (codes "ENUM(") text) refl k

    by_uint : (o : Option (List ℕ)) → between (codes "UINT(") text ≡ o
        → option_map_or (λ number. option_and_then (λ b. if_kind (Uint b)) (plain_number number)) o
        (option_map_or (λ number. option_and_then (λ k. if_kind (Text k)) (plain_number number)) (between (codes "TEXT(") text) (option_map_or (λ labels. if_kind (Enum (slice_split (λ b. b == 124) labels))) (between (codes "ENUM(") text) None)) ≡ Some kind
        → text ≡ kind_word kind ++ kind_inside kind ++ codes ")"
    by_uint (Some digits) f k = as_uint digits (plain_number digits) refl (between_spells (codes "UINT(") text digits f) k
    by_uint None f k = by_text (between (codes "TEXT(") text) refl k

-- a line is its parts round the first space, if it has one
space_parts : (line : List ℕ) → (before_first (λ b. b == 32) line ++ 32 ∷ after_first (λ b. b == 32) line ≡ line) ⊎ (after_first (λ b. b == 32) line ≡ [])
space_parts [] = inr refl
space_parts (x ∷ xs) =
    elim (x == 32) as (λ t. (x == 32) ≡ t → (take (cond (not t) (1 + position_or_len (λ b. b == 32) xs) 0) (x ∷ xs) ++ 32 ∷ drop (cond (not t) (1 + position_or_len (λ b. b == 32) xs) 0 + 1) (x ∷ xs) ≡ x ∷ xs)
    ⊎ (drop (cond (not t) (1 + position_or_len (λ b. b == 32) xs) 0 + 1) (x ∷ xs) ≡ [])) [
      | true ↦ λ h. inl (let same : x ≡ 32 = is_32 x h in ap (λ y. y ∷ xs) (sym same))
      | false ↦ λ h.
          let one : 1 + position_or_len (λ b. b == 32) xs ≡ suc (position_or_len (λ b. b == 32) xs) = omega arith in
          let two : suc (position_or_len (λ b. b == 32) xs) + 1 ≡ suc (position_or_len (λ b. b == 32) xs + 1) = omega arith in
          rw (one, two) (elim (space_parts xs) [ inl whole ↦ inl (ap (λ t. x ∷ t) whole) | inr none ↦ inr none ])
    ] refl
  where
    is_32 : (n : ℕ) → (n == 32) ≡ true → n ≡ 32
    is_32 n h = grind (arith, nat_tests)

column_spells : (line : List ℕ) (c : ColumnParts) → column_of_line line ≡ Some c → line ≡ column_line c
unfolding column_of_line
column_spells line c e = by_name (is_name (before_first (λ b. b == 32) line)) (kind_of_text (after_first (λ b. b == 32) line)) refl e
  where
    by_name : (t : Bool) (o : Option ColumnType) → kind_of_text (after_first (λ b. b == 32) line) ≡ o
        → cond t (option_map (λ kind. record { name = before_first (λ b. b == 32) line; kind = kind }) o) None ≡ Some c → line ≡ column_line c
    by_name true (Some kind) typed f =
        let same : record { name = before_first (λ b. b == 32) line; kind = kind } ≡ c = cc in
        subst (λ (d : ColumnParts). line ≡ column_line d) same
        (elim (space_parts line) [
          | inl whole ↦ sym whole ∙ ap (λ t. before_first (λ b. b == 32) line ++ 32 ∷ t) (kind_spells (after_first (λ b. b == 32) line) kind typed)
          | inr none ↦ let bad : Some kind ≡ None = sym typed ∙ ap kind_of_text none ∙ no_kind in absurd cc
        ])
    by_name true None typed f = absurd cc
    by_name false o typed f = absurd cc

-- column lines that read are those of the columns behind the earlier ones
pub record Spelt (before cs : List ColumnParts) (ls : List (List ℕ)) : Type 0 where
  pub rest : List ColumnParts
  pub whole : cs ≡ before ++ rest
  pub lines : ls ≡ map column_line rest

columns_spell : (ls : List (List ℕ)) (before cs : List ColumnParts) → columns_of_lines before ls ≡ Ok cs → Spelt before cs ls
unfolding columns_of_lines
columns_spell [] before cs e = by_some (length before == 0) e
  where
    by_some : (t : Bool) → cond t (Err (shape.BadLine 3)) (Ok before) ≡ Ok cs → Spelt before cs []
    by_some true k = absurd cc
    by_some false k = let same : before ≡ cs = cc in record { rest = []; whole = sym same ∙ sym (append-nil before); lines = refl }
columns_spell (line ∷ ls) before cs e = by_room (λ more k. columns_spell ls more cs k) (length before == 24) (column_of_line line) refl e
  where
    by_new : ((more : List ColumnParts) → columns_of_lines more ls ≡ Ok cs → Spelt more cs ls) → (c : ColumnParts) → column_of_line line ≡ Some c → (t : Bool)
        → result_and_then (λ columns. columns_of_lines columns ls) (cond t (Err (shape.SameName (length before + 3))) (Ok (before ++ c ∷ []))) ≡ Ok cs → Spelt before cs (line ∷ ls)
    by_new again c f true k = absurd cc
    by_new again c f false k =
        let tail = again (before ++ c ∷ []) k in
        record { rest = c ∷ tail.rest; whole = tail.whole ∙ append_assoc before (c ∷ []) tail.rest; lines = ap (λ l. l ∷ ls) (column_spells line c f) ∙ ap (λ xs. column_line c ∷ xs) tail.lines }

    by_room : ((more : List ColumnParts) → columns_of_lines more ls ≡ Ok cs → Spelt more cs ls) → (t : Bool) → (o : Option ColumnParts) → column_of_line line ≡ o
        → cond t (Err (shape.TooManyColumns 27)) (result_and_then (λ columns. columns_of_lines columns ls) (added (length before + 3) before o)) ≡ Ok cs → Spelt before cs (line ∷ ls)
    by_room again true o f k = absurd cc
    by_room again false None f k = absurd cc
    by_room again false (Some c) f k = by_new again c f (list_any (λ d. bytes_eq c.name d.name) before) k

-- a text that reads as a shape describes it
pub read_is_text : (text : List ℕ) (s : ShapeParts) → shape_of text ≡ Ok s → IsShapeText text s
unfolding shape_of_lines
read_is_text text s e = by_lines (lines text) refl e
  where
    by_columns : (first second : List ℕ) (rest : List (List ℕ)) → lines text ≡ first ∷ second ∷ rest → (table : List ℕ) → table_of_line first ≡ Ok table → (rows : ℕ) → rows_of_line second ≡ Ok rows
        → (r : Result (List ColumnParts) ShapeFault) → columns_of_lines [] rest ≡ r
        → result_and_then (λ columns. Ok (record { schema = record { table = table; columns = columns }; rows = rows })) r ≡ Ok s → IsShapeText text s
    by_columns first second rest f table g rows h (Err x) j k = absurd cc
    by_columns first second rest f table g rows h (Ok columns) j k =
        let same : record { schema = record { table = table; columns = columns }; rows = rows } ≡ s = cc in
        let spelt = columns_spell rest [] columns j in
        let behind : rest ≡ map column_line columns = spelt.lines ∙ ap (map column_line) (sym spelt.whole) in
        subst (IsShapeText text) same (record {
          valid = record { schema = schema_is first rest table columns g j; few = rows_are second rows h };
          lines = f ∙ ap (λ l. l ∷ second ∷ rest) (table_spells first table g) ∙ ap (λ l. (codes "table " ++ table) ∷ l ∷ rest) (rows_spell second rows h) ∙ ap (λ ls. (codes "table " ++ table) ∷ (codes "rows " ++ decimal rows) ∷ ls) behind;
        })

    by_rows : (first second : List ℕ) (rest : List (List ℕ)) → lines text ≡ first ∷ second ∷ rest → (table : List ℕ) → table_of_line first ≡ Ok table → (r : Result ℕ ShapeFault) → rows_of_line second ≡ r
        → result_and_then (λ rows. result_and_then (λ columns. Ok (record { schema = record { table = table; columns = columns }; rows = rows })) (columns_of_lines [] rest)) r ≡ Ok s → IsShapeText text s
    by_rows first second rest f table g (Err x) h k = absurd cc
    by_rows first second rest f table g (Ok rows) h k = by_columns first second rest f table g rows h (columns_of_lines [] rest) refl k

    by_table : (first second : List ℕ) (rest : List (List ℕ)) → lines text ≡ first ∷ second ∷ rest → (r : Result (List ℕ) ShapeFault) → table_of_line first ≡ r
        → result_and_then (λ table. result_and_then (λ rows. result_and_then (λ columns. Ok (record { schema = record { table = table; columns = columns }; rows = rows })) (columns_of_lines [] rest)) (rows_of_line second)) r ≡ Ok s → IsShapeText text s
    by_table first second rest f (Err x) g k = absurd cc
    by_table first second rest f (Ok table) g k = by_rows first second rest f table g (rows_of_line second) refl k

    by_one : (first : List ℕ) (r : Result (List ℕ) ShapeFault) → result_and_then (λ _. Err (shape.BadLine 2)) r ≡ Ok s → IsShapeText text s
    by_one first (Ok table) k = absurd cc
    by_one first (Err x) k = absurd cc

    by_lines : (ls : List (List ℕ)) → lines text ≡ ls → shape_of_lines ls ≡ Ok s → IsShapeText text s
    by_lines [] f k = absurd cc
    by_lines (first ∷ []) f k = by_one first (table_of_line first) k
    by_lines (first ∷ second ∷ rest) f k = by_table first second rest f (table_of_line first) refl k
