-- The text of a table, as it is read again.
use Rattle.std.proofs.Common.{◌≡◌, ℕ, zero, suc, ◌+◌, ◌-◌, ◌<◌, ◌≤◌, ◌==◌, true, false, cond, List, [], ◌∷◌, ◌++◌, length, map, All, Ok, refl, sym, ap, ◌∙◌, arith, length-append, append_assoc}
use Rattle.std.specs.Cmp.Lexicographic.{pointwise}
use Rattle.std.specs.Str.{bytes_eq}
use Rattle.std.proofs.lemmas.List.Elements.{All-head, All-tail}
use Rattle.std.proofs.lemmas.Slice.Eq.{bytes_eq-Decides}
use Rattle.std.proofs.lemmas.Bool.Decides.{nat_tests}
use Rattle.csv.specs.Machine.{next_record}
use Rattle.csv.specs.Reading.{default_config, records_from, strip_bom}
use Rattle.csv.specs.Writing.{default_writer, row_text, row_body, field_text, fields_text, escaped, needs_quotes, quoted, read_back, is_blank}
use Rattle.csv.specs.declared.parser.State.TheVariants as st
use Rattle.csv.proofs.RoundTrip.{read-write}
use Rattle.spl_values.specs.Names.{is_name}
use Rattle.spl_values.specs.Shapes.{ColumnParts, IsColumn, names_of}
use Rattle.spl_values.specs.Tables.{TableParts, FitsRow, IsTable}
use Rattle.spl_values.specs.declared.values.Value.{Value}
use Rattle.spl_values.proofs.CellLaws.{printed_values_read}
use Rattle.csv_tables.specs.Reading.{cells_of, row_of, rows_of, rows_under_header, records_of, table_of_text}
use Rattle.csv_tables.specs.Writing.{fields_of_row, records_text, table_text}

-- the cells of a row, printed and read
cells_read : (n i : ℕ) (cs : List ColumnParts) (vs : List Value) → All IsColumn cs → FitsRow cs vs → cells_of n i cs (fields_of_row cs vs) ≡ Ok vs
unfolding cells_of fields_of_row
cells_read n i [] [] typed h = refl
cells_read n i [] (v ∷ vs) typed h = absurd h
cells_read n i (c ∷ cs) [] typed h = absurd h
cells_read n i (c ∷ cs) (v ∷ vs) typed h =
    let one = printed_values_read c.kind v (All-head IsColumn c cs typed).typed h.0 in
    let rest = cells_read n (i + 1) cs vs (All-tail IsColumn c cs typed) h.1 in
    rw (one, rest) refl

length-fields : (cs : List ColumnParts) (vs : List Value) → FitsRow cs vs → length (fields_of_row cs vs) ≡ length cs
unfolding fields_of_row
length-fields [] [] h = refl
length-fields [] (v ∷ vs) h = absurd h
length-fields (c ∷ cs) [] h = absurd h
length-fields (c ∷ cs) (v ∷ vs) h = ap suc (length-fields cs vs h.1)

row_read : (n : ℕ) (cs : List ColumnParts) (vs : List Value) → All IsColumn cs → FitsRow cs vs → row_of n cs (fields_of_row cs vs) ≡ Ok vs
unfolding row_of
row_read n cs vs typed h =
    let len = length-fields cs vs h in
    let test : (length (fields_of_row cs vs) == length cs) ≡ true = grind (arith, nat_tests) in
    rw test (cells_read n 0 cs vs typed h)

rows_read : (n : ℕ) (cs : List ColumnParts) (rows : List (List Value)) → All IsColumn cs → All (FitsRow cs) rows → rows_of n cs (map (fields_of_row cs) rows) ≡ Ok rows
unfolding rows_of
rows_read n cs [] typed h = refl
rows_read n cs (row ∷ rows) typed h =
    let one = row_read n cs row typed (All-head (FitsRow cs) row rows h) in
    let rest = rows_read (n + 1) cs rows typed (All-tail (FitsRow cs) row rows h) in
    rw (one, rest) refl

-- records that have a field are read back as they are
full_back : (r : List (List ℕ)) → 0 < length r → read_back r ≡ r
full_back [] h = absurd (omega arith)
full_back (f ∷ fs) h = refl

rows_full : (cs : List ColumnParts) (rows : List (List Value)) → 0 < length cs → All (FitsRow cs) rows → map read_back (map (fields_of_row cs) rows) ≡ map (fields_of_row cs) rows
rows_full cs [] some h = refl
rows_full cs (row ∷ rows) some h =
    let len = length-fields cs row (All-head (FitsRow cs) row rows h) in
    let one = full_back (fields_of_row cs row) (omega (arith, len)) in
    rw (one, rows_full cs rows some (All-tail (FitsRow cs) row rows h)) refl

-- the records of written records
no_more : (n : ℕ) → records_from default_config n st.StartRecord [] ≡ []
unfolding records_from next_record
no_more zero = refl
no_more (suc n) = refl

records_read : (rs : List (List (List ℕ))) (n : ℕ) → records_from default_config (n + length rs) st.StartRecord (records_text rs) ≡ map read_back rs
unfolding records_from records_text
records_read [] n = no_more (n + 0)
records_read (r ∷ rs) n =
    let e : n + suc (length rs) ≡ suc (n + length rs) = omega arith in
    rw (e, read-write r (records_text rs)) (ap (λ t. read_back r ∷ t) (records_read rs n))

-- a record's text has at least one byte
row_some : (r : List (List ℕ)) → 0 < length (row_text default_writer r)
row_some r =
    let blank : List ℕ = cond (is_blank default_writer r) (34 ∷ 34 ∷ []) [] in
    let line : List ℕ = 10 ∷ [] in
    let one = length-append (row_body default_writer r) (blank ++ line) in
    let two = length-append blank line in
    omega (arith, one, two)

records_long : (rs : List (List (List ℕ))) → length rs ≤ length (records_text rs)
unfolding records_text
records_long [] = omega arith
records_long (r ∷ rs) = omega (arith, row_some r, records_long rs, length-append (row_text default_writer r) (records_text rs))

-- a text that begins with a byte of ASCII has no byte order mark
no_mark : (a : ℕ) (rest : List ℕ) → a < 128 → strip_bom (a ∷ rest) ≡ a ∷ rest
unfolding strip_bom
no_mark a [] h = refl
no_mark a (b ∷ []) h = refl
no_mark a (b ∷ c ∷ rest) h = let test : (a == 239) ≡ false = grind (arith, nat_tests) in rw test refl

-- the text of a table begins with a column's name, or a quote
name_first : (b : ℕ) (bs : List ℕ) → is_name (b ∷ bs) ≡ true → b < 128
unfolding is_name
name_first b bs h = grind (arith, nat_tests)

field_first : (b : ℕ) (bs rest : List ℕ) → b < 128 → strip_bom (field_text default_writer (b ∷ bs) ++ rest) ≡ field_text default_writer (b ∷ bs) ++ rest
field_first b bs rest h =
    elim (needs_quotes default_writer (b ∷ bs)) as (λ t. strip_bom (cond t (quoted default_writer (b ∷ bs)) (b ∷ bs) ++ rest) ≡ cond t (quoted default_writer (b ∷ bs)) (b ∷ bs) ++ rest)
    [ true ↦ no_mark 34 ((escaped default_writer (b ∷ bs) ++ (34 ∷ [])) ++ rest) (omega arith) | false ↦ no_mark b (bs ++ rest) h ]

header_plain : (name : List ℕ) (names : List (List ℕ)) (rest : List ℕ) → is_name name ≡ true → strip_bom (row_text default_writer (name ∷ names) ++ rest) ≡ row_text default_writer (name ∷ names) ++ rest
header_plain [] names rest h = absurd (no_name h)
  where
    no_name : is_name [] ≡ true → ⊥
    no_name h = unfold is_name in absurd cc
header_plain (b ∷ bs) names rest h =
    let tail : List ℕ = fields_text default_writer names in
    let end : List ℕ = (cond (is_blank default_writer ((b ∷ bs) ∷ names)) (34 ∷ 34 ∷ []) []) ++ (10 ∷ []) in
    let parts : row_text default_writer ((b ∷ bs) ∷ names) ++ rest ≡ field_text default_writer (b ∷ bs) ++ (tail ++ (end ++ rest)) =
    append_assoc (field_text default_writer (b ∷ bs) ++ tail) end rest ∙ append_assoc (field_text default_writer (b ∷ bs)) tail (end ++ rest) in
    ap strip_bom parts ∙ field_first b bs (tail ++ (end ++ rest)) (name_first b bs h) ∙ sym parts

pub names_same : (xs : List (List ℕ)) → pointwise bytes_eq xs xs ≡ true
names_same [] = refl
names_same (x ∷ xs) = let one = (bytes_eq-Decides x x).1 refl in rw (one, names_same xs) refl

plain_text : (cs : List ColumnParts) (rs : List (List (List ℕ))) → 0 < length cs → All IsColumn cs → strip_bom (records_text (names_of cs ∷ rs)) ≡ records_text (names_of cs ∷ rs)
unfolding records_text
plain_text [] rs some typed = absurd (omega arith)
plain_text (c ∷ cs) rs some typed = header_plain c.name (names_of cs) (records_text rs) (All-head IsColumn c cs typed).named

names_full : (cs : List ColumnParts) → 0 < length cs → read_back (names_of cs) ≡ names_of cs
names_full [] h = absurd (omega arith)
names_full (c ∷ cs) h = refl

records_back : (cs : List ColumnParts) (rows : List (List Value)) → 0 < length cs → All IsColumn cs → All (FitsRow cs) rows
    → records_of (records_text (names_of cs ∷ map (fields_of_row cs) rows)) ≡ names_of cs ∷ map (fields_of_row cs) rows
unfolding records_of
records_back cs rows some typed h =
    let rs : List (List (List ℕ)) = names_of cs ∷ map (fields_of_row cs) rows in
    let plain = plain_text cs (map (fields_of_row cs) rows) some typed in
    let long = records_long rs in
    let fuel : length (records_text rs) + 1 ≡ (length (records_text rs) + 1 - length rs) + length rs = omega (arith, long) in
    let back : map read_back rs ≡ rs = ap (λ t. t ∷ map read_back (map (fields_of_row cs) rows)) (names_full cs some) ∙ ap (λ t. names_of cs ∷ t) (rows_full cs rows some h) in
    rw plain (ap (λ n. records_from default_config n st.StartRecord (records_text rs)) fuel ∙ records_read rs (length (records_text rs) + 1 - length rs) ∙ back)

pub written_tables_read : (t : TableParts) → IsTable t → table_of_text t.shape (table_text t) ≡ Ok t.rows
unfolding rows_under_header
written_tables_read t h =
    let schema = h.shape.schema in
    let records = records_back t.shape.schema.columns t.rows (omega (arith, schema.some)) schema.columns h.rows in
    let rows = rows_read 0 t.shape.schema.columns t.rows schema.columns h.rows in
    let test : (length t.rows == t.shape.rows) ≡ true = same_count (length t.rows) t.shape.rows h.count in
    rw (records, names_same (names_of t.shape.schema.columns), rows, test) refl
  where
    same_count : (m n : ℕ) → m ≡ n → (m == n) ≡ true
    same_count m n e = grind (arith, nat_tests)
