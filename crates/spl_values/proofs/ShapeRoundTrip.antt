-- The text of a shape, as it is read again.
use Rattle.std.proofs.Common.{◌≡◌, ℕ, zero, suc, ◌+◌, ◌-◌, ◌^◌, ◌<◌, ◌≤◌, ◌==◌, Bool, true, false, ◌&&◌, ◌||◌, not, cond, nat_le, List, [], ◌∷◌, ◌++◌, length, take, drop, get_or, map, All, Some, None, Ok, refl, sym, ap, ◌∙◌, arith, codes, inl, inr, length-append, append_assoc}
use Rattle.std.specs.Char.{is_ascii_digit}
use Rattle.std.specs.Fmt.{decimal}
use Rattle.std.specs.List.{list_all, list_any, before_first, after_first, position_or_len, slice_split, onto_first, join_with_byte}
use Rattle.std.specs.Str.{bytes_eq}
use Rattle.std.specs.Str.Lines.{lines, strip_carriage_return}
use Rattle.std.proofs.lemmas.Fmt.{first_decimal, decimal_digit}
use Rattle.std.proofs.lemmas.List.{map-append, take_at, drop_at, append-nil}
use Rattle.std.proofs.lemmas.List.Elements.{All-head, All-tail}
use Rattle.std.proofs.lemmas.List.Splits.{slice_split-cons_yes, slice_split-cons_no}
use Rattle.std.proofs.lemmas.Bool.{cases_lt}
use Rattle.std.proofs.lemmas.Bool.Decides.{nat_tests}
use Rattle.std.proofs.lemmas.Grind.{common_steps}
use Rattle.spl_values.specs.Names.{is_name, is_label, is_label_byte, is_distinct}
use Rattle.spl_values.specs.Kinds.{is_kind}
use Rattle.spl_values.specs.Shapes.{ColumnParts, ShapeParts, IsColumn, IsShape, names_of}
use Rattle.spl_values.specs.ShapeTexts.{kind_text, column_line, shape_lines, text_of_lines, shape_text, between, plain_number, kind_of_text, column_of_line, table_of_line, rows_of_line, columns_of_lines, shape_of_lines, shape_of}
use Rattle.spl_values.specs.declared.kinds.ColumnType.{ColumnType}
use Rattle.spl_values.specs.declared.kinds.ColumnType.TheVariants.{Uint, Text, Enum}
use Rattle.spl_values.proofs.CellLaws.{decimal_is_number, decimal_value, number_parts}
use Rattle.spl_values.proofs.CodeLaws.{number_bits, text_bytes}
use Rattle.spl_values.proofs.LineCuts.{lines_step}
use Rattle.spl_values.proofs.ShapeReading.{NotLed, plain-number, name_label_bytes, label_label_bytes}
use Rattle.spl_values.proofs.ShapeLaws.{any_name, bytes_turned}

first_so : (a b : Bool) → (a && b) ≡ true → a ≡ true
first_so true b h = refl
first_so false b h = absurd cc

second_so : (a b : Bool) → (a && b) ≡ true → b ≡ true
second_so true b h = h
second_so false b h = absurd cc

-- numbers without leading zeros
decimal_not_led : (n : ℕ) → n < 2 ^ 64 → NotLed (decimal n)
decimal_not_led n h =
    elim (cases_lt 0 n) [
      | inl pos ↦ inr (λ e. let first = first_decimal n pos h in absurd (omega (arith, e, first)))
      | inr none ↦ inl (let z : n ≡ 0 = omega arith in let one : decimal n ≡ (48 + n) ∷ [] = decimal_digit n (omega arith) in omega (arith, ap length one))
    ]

pub plain-decimal : (n : ℕ) → n < 2 ^ 64 → plain_number (decimal n) ≡ Some n
plain-decimal n h = plain-number (decimal n) (decimal_is_number n h) (decimal_not_led n h) ∙ ap Some (decimal_value n h)

-- what stands before the first byte of its kind
stops_at : (p : ℕ → Bool) (xs : List ℕ) (y : ℕ) (ys : List ℕ) → list_all (λ b. not (p b)) xs ≡ true → p y ≡ true → position_or_len p (xs ++ y ∷ ys) ≡ length xs
stops_at p [] y ys h k = rw k refl
stops_at p (x ∷ xs) y ys h k =
    elim (p x) as (λ b. (not b && list_all (λ c. not (p c)) xs) ≡ true → cond (not b) (1 + position_or_len p (xs ++ y ∷ ys)) 0 ≡ suc (length xs))
    [ true ↦ λ e. absurd cc | false ↦ λ e. let tail = stops_at p xs y ys e k in omega (arith, tail) ] h

before-at : (p : ℕ → Bool) (xs : List ℕ) (y : ℕ) (ys : List ℕ) → list_all (λ b. not (p b)) xs ≡ true → p y ≡ true → before_first p (xs ++ y ∷ ys) ≡ xs
before-at p xs y ys h k = ap (λ n. take n (xs ++ y ∷ ys)) (stops_at p xs y ys h k) ∙ take_at xs (y ∷ ys) (length xs) refl

after-at : (p : ℕ → Bool) (xs : List ℕ) (y : ℕ) (ys : List ℕ) → list_all (λ b. not (p b)) xs ≡ true → p y ≡ true → after_first p (xs ++ y ∷ ys) ≡ ys
after-at p xs y ys h k =
    ap (λ n. drop (n + 1) (xs ++ y ∷ ys)) (stops_at p xs y ys h k)
    ∙ ap (drop (length xs + 1)) (sym (append_assoc xs (y ∷ []) ys)) ∙ drop_at (xs ++ y ∷ []) ys (length xs + 1) (let len = length-append xs (y ∷ []) in omega (arith, len))

-- the parts of a list that is cut at a byte
cut_at : (p : ℕ → Bool) (xs : List ℕ) (y : ℕ) (ys : List ℕ) → list_all (λ b. not (p b)) xs ≡ true → p y ≡ true → slice_split p (xs ++ y ∷ ys) ≡ xs ∷ slice_split p ys
cut_at p [] y ys h k = slice_split-cons_yes p y ys k
cut_at p (x ∷ xs) y ys h k =
    elim (p x) as (λ b. p x ≡ b → (not b && list_all (λ c. not (p c)) xs) ≡ true → slice_split p (x ∷ (xs ++ y ∷ ys)) ≡ (x ∷ xs) ∷ slice_split p ys)
    [ true ↦ λ t e. absurd cc | false ↦ λ t e. slice_split-cons_no p x (xs ++ y ∷ ys) t ∙ ap (λ ps. onto_first x ps) (cut_at p xs y ys e k) ] refl h

uncut_all : (p : ℕ → Bool) (xs : List ℕ) → list_all (λ b. not (p b)) xs ≡ true → slice_split p xs ≡ xs ∷ []
uncut_all p [] h = refl
uncut_all p (x ∷ xs) h =
    elim (p x) as (λ b. p x ≡ b → (not b && list_all (λ c. not (p c)) xs) ≡ true → slice_split p (x ∷ xs) ≡ (x ∷ xs) ∷ [])
    [ true ↦ λ t e. absurd cc | false ↦ λ t e. slice_split-cons_no p x xs t ∙ ap (λ ps. onto_first x ps) (uncut_all p xs e) ] refl h

-- tests that follow from others
all_weaker : (p q : ℕ → Bool) → ((b : ℕ) → p b ≡ true → q b ≡ true) → (xs : List ℕ) → list_all p xs ≡ true → list_all q xs ≡ true
all_weaker p q f [] h = refl
all_weaker p q f (x ∷ xs) h =
    let head : p x ≡ true = first_so (p x) (list_all p xs) h in
    let tail = all_weaker p q f xs (second_so (p x) (list_all p xs) h) in
    rw (f x head, tail) refl

all_append : (p : ℕ → Bool) (xs ys : List ℕ) → list_all p xs ≡ true → list_all p ys ≡ true → list_all p (xs ++ ys) ≡ true
all_append p [] ys h k = k
all_append p (x ∷ xs) ys h k =
    let head : p x ≡ true = first_so (p x) (list_all p xs) h in
    rw (head, all_append p xs ys (second_so (p x) (list_all p xs) h) k) refl

-- labels between bars
label_no_bar : (label : List ℕ) → is_label label ≡ true → list_all (λ b. not (b == 124)) label ≡ true
label_no_bar label h = all_weaker is_label_byte (λ b. not (b == 124)) no_bar label (label_label_bytes label h)
  where
    no_bar : (b : ℕ) → is_label_byte b ≡ true → not (b == 124) ≡ true
    no_bar b h = grind (arith, nat_tests)

labels_cut : (label : List ℕ) (labels : List (List ℕ)) → list_all is_label (label ∷ labels) ≡ true → slice_split (λ b. b == 124) (join_with_byte 124 (label ∷ labels)) ≡ label ∷ labels
labels_cut label [] h = uncut_all (λ b. b == 124) label (label_no_bar label (first_so (is_label label) true h))
labels_cut label (next ∷ labels) h =
    cut_at (λ b. b == 124) label 124 (join_with_byte 124 (next ∷ labels)) (label_no_bar label (first_so (is_label label) (list_all is_label (next ∷ labels)) h)) refl
    ∙ ap (λ ls. label ∷ ls) (labels_cut next labels (second_so (is_label label) (list_all is_label (next ∷ labels)) h))

pub labels_read : (labels : List (List ℕ)) → is_kind (Enum labels) ≡ true → slice_split (λ b. b == 124) (join_with_byte 124 labels) ≡ labels
labels_read [] h = absurd (no_labels h)
  where
    no_labels : is_kind (Enum []) ≡ true → ⊥
    no_labels h = absurd cc
labels_read (label ∷ labels) h = labels_cut label labels (let all : list_all is_label (label ∷ labels) ≡ true = grind (arith, nat_tests) in all)

-- what stands before a closing parenthesis
closed : (inside : List ℕ) → cond (get_or (inside ++ 41 ∷ []) (length (inside ++ 41 ∷ []) - 1) 0 == 41) (Some (take (length (inside ++ 41 ∷ []) - 1) (inside ++ 41 ∷ []))) None ≡ Some inside
closed inside =
    let len : length (inside ++ 41 ∷ []) - 1 ≡ length inside = omega (arith, length-append inside (41 ∷ [])) in
    let last : get_or (inside ++ 41 ∷ []) (length inside) 0 ≡ 41 = grind (arith, common_steps) in
    rw (len, last) (ap Some (take_at inside (41 ∷ []) (length inside) refl))

pub kind_reads : (kind : ColumnType) → is_kind kind ≡ true → kind_of_text (kind_text kind) ≡ Some kind
unfolding kind_of_text kind_text between
kind_reads (Uint b) h =
    let small : b < 2 ^ 64 = omega (arith, number_bits b h) in
    rw (closed (decimal b), plain-decimal b small, h) refl
kind_reads (Text k) h =
    let small : k < 2 ^ 64 = omega (arith, text_bytes k h) in
    rw (closed (decimal k), plain-decimal k small, h) refl
kind_reads (Enum labels) h = rw (closed (join_with_byte 124 labels), labels_read labels h, h) refl

-- a name has no space
name_no_space : (name : List ℕ) → is_name name ≡ true → list_all (λ b. not (b == 32)) name ≡ true
name_no_space name h = all_weaker is_label_byte (λ b. not (b == 32)) no_space name (name_label_bytes name h)
  where
    no_space : (b : ℕ) → is_label_byte b ≡ true → not (b == 32) ≡ true
    no_space b h = grind (arith, nat_tests)

pub column_reads : (c : ColumnParts) → IsColumn c → column_of_line (column_line c) ≡ Some c
unfolding column_of_line
column_reads c h =
    let before : before_first (λ b. b == 32) (column_line c) ≡ c.name = before-at (λ b. b == 32) c.name 32 (kind_text c.kind) (name_no_space c.name h.named) refl in
    let after : after_first (λ b. b == 32) (column_line c) ≡ kind_text c.kind = after-at (λ b. b == 32) c.name 32 (kind_text c.kind) (name_no_space c.name h.named) refl in
    rw (before, after, h.named, kind_reads c.kind h.typed) refl

-- lists of texts that differ
any_middle : (xs : List (List ℕ)) (y : List ℕ) (ys : List (List ℕ)) → is_distinct (xs ++ y ∷ ys) ≡ true → list_any (bytes_eq y) xs ≡ false
any_middle [] y ys h = refl
any_middle (x ∷ xs) y ys h =
    let here : bytes_eq y x ≡ false = bytes_turned x y (not_among x xs y ys (not_so (list_any (bytes_eq x) (xs ++ y ∷ ys)) (first_so (not (list_any (bytes_eq x) (xs ++ y ∷ ys))) (is_distinct (xs ++ y ∷ ys)) h))) in
    rw (here, any_middle xs y ys (second_so (not (list_any (bytes_eq x) (xs ++ y ∷ ys))) (is_distinct (xs ++ y ∷ ys)) h)) refl
  where
    not_so : (a : Bool) → not a ≡ true → a ≡ false
    not_so true h = absurd cc
    not_so false h = refl

    not_among : (x : List ℕ) (xs : List (List ℕ)) (y : List ℕ) (ys : List (List ℕ)) → list_any (bytes_eq x) (xs ++ y ∷ ys) ≡ false → bytes_eq x y ≡ false
    not_among x [] y ys h = elim (bytes_eq x y) as (λ b. (b || list_any (bytes_eq x) ys) ≡ false → b ≡ false) [ true ↦ λ e. absurd cc | false ↦ λ e. refl ] h
    not_among x (z ∷ zs) y ys h = not_among x zs y ys (rest_not (bytes_eq x z) (list_any (bytes_eq x) (zs ++ y ∷ ys)) h)
      where
        rest_not : (a b : Bool) → (a || b) ≡ false → b ≡ false
        rest_not true b e = absurd cc
        rest_not false b e = e

-- columns that come behind others
columns_read : (cs before : List ColumnParts) → All IsColumn cs → 0 < length before + length cs → length before + length cs ≤ 24 → is_distinct (names_of (before ++ cs)) ≡ true
    → columns_of_lines before (map column_line cs) ≡ Ok (before ++ cs)
unfolding columns_of_lines
columns_read [] before valid some few distinct =
    let test : (length before == 0) ≡ false = grind (arith, nat_tests) in
    rw (test, append-nil) refl
columns_read (c ∷ cs) before valid some few distinct =
    let room : (length before == 24) ≡ false = grind (arith, nat_tests) in
    let reads = column_reads c (All-head IsColumn c cs valid) in
    let names : names_of (before ++ c ∷ cs) ≡ names_of before ++ c.name ∷ names_of cs = map-append (λ (d : ColumnParts). d.name) before (c ∷ cs) in
    let new : list_any (λ d. bytes_eq c.name d.name) before ≡ false = any_name c.name before ∙ any_middle (names_of before) c.name (names_of cs) (rw names at distinct) in
    let whole : (before ++ c ∷ []) ++ cs ≡ before ++ c ∷ cs = append_assoc before (c ∷ []) cs in
    let count : length (before ++ c ∷ []) ≡ length before + 1 = length-append before (c ∷ []) in
    let tail = columns_read cs (before ++ c ∷ []) (All-tail IsColumn c cs valid) (omega (arith, count)) (omega (arith, count)) (rw whole distinct) in
    rw (room, reads, new) (tail ∙ ap Ok whole)

table_reads : (name : List ℕ) → is_name name ≡ true → table_of_line (codes "table " ++ name) ≡ Ok name
unfolding table_of_line
table_reads name h = rw h refl

rows_read : (n : ℕ) → n ≤ 262144 → rows_of_line (codes "rows " ++ decimal n) ≡ Ok n
unfolding rows_of_line
rows_read n h =
    let plain = plain-decimal n (omega arith) in
    let few : nat_le n 262144 ≡ true = grind (arith, nat_tests) in
    rw (plain, few) refl

-- the lines of a shape say it
pub shape_reads : (s : ShapeParts) → IsShape s → shape_of_lines (shape_lines s) ≡ Ok s
unfolding shape_of_lines
shape_reads s h =
    let schema = h.schema in
    let table = table_reads s.schema.table schema.named in
    let rows = rows_read s.rows h.few in
    let columns = columns_read s.schema.columns [] schema.columns (omega (arith, schema.some)) (omega (arith, schema.few)) schema.distinct in
    rw (table, rows, columns) refl

-- a line without control bytes
abbrev pub is_clean : List ℕ → Bool
is_clean line = list_all (λ b. nat_le 32 b) line

-- its end isn't a carriage return
clean_end : (line : List ℕ) → is_clean line ≡ true → strip_carriage_return line ≡ line
clean_end line h = let last : (get_or line (length line - 1) 0 == 13) ≡ false = no_return line (length line - 1) h in rw last refl
  where
    no_return : (line : List ℕ) (i : ℕ) → is_clean line ≡ true → (get_or line i 0 == 13) ≡ false
    no_return [] i h = refl
    no_return (b ∷ bs) zero h = let low = first_so (nat_le 32 b) (is_clean bs) h in grind (arith, nat_tests)
    no_return (b ∷ bs) (suc i) h = no_return bs i (second_so (nat_le 32 b) (is_clean bs) h)

-- clean lines, each with its end, are read as these lines
lines_of : (ls : List (List ℕ)) → list_all is_clean ls ≡ true → lines (text_of_lines ls) ≡ ls
unfolding text_of_lines
lines_of [] h = refl
lines_of (l ∷ ls) h =
    let clean : is_clean l ≡ true = first_so (is_clean l) (list_all is_clean ls) h in
    let no_end = all_weaker (λ b. nat_le 32 b) (λ b. not (b == 10)) low_no_end l clean in
    let cut = cut_at (λ b. b == 10) l 10 (text_of_lines ls) no_end refl in
    lines_step (l ++ 10 ∷ text_of_lines ls) l (text_of_lines ls) cut ∙ ap (λ x. x ∷ lines (text_of_lines ls)) (clean_end l clean) ∙ ap (λ xs. l ∷ xs) (lines_of ls (second_so (is_clean l) (list_all is_clean ls) h))
  where
    low_no_end : (b : ℕ) → nat_le 32 b ≡ true → not (b == 10) ≡ true
    low_no_end b h = grind (arith, nat_tests)

-- the lines of a shape are clean
label_clean : (text : List ℕ) → list_all is_label_byte text ≡ true → is_clean text ≡ true
label_clean text h = all_weaker is_label_byte (λ b. nat_le 32 b) label_low text h
  where
    label_low : (b : ℕ) → is_label_byte b ≡ true → nat_le 32 b ≡ true
    label_low b h = grind (arith, nat_tests)

decimal_clean : (n : ℕ) → n < 2 ^ 64 → is_clean (decimal n) ≡ true
decimal_clean n h = all_weaker is_ascii_digit (λ b. nat_le 32 b) digit_low (decimal n) (number_parts (decimal n) (decimal_is_number n h)).1
  where
    digit_low : (b : ℕ) → is_ascii_digit b ≡ true → nat_le 32 b ≡ true
    digit_low b h = grind (arith, nat_tests)

labels_clean : (labels : List (List ℕ)) → list_all is_label labels ≡ true → is_clean (join_with_byte 124 labels) ≡ true
labels_clean [] h = refl
labels_clean (label ∷ []) h = label_clean label (label_label_bytes label (first_so (is_label label) true h))
labels_clean (label ∷ next ∷ labels) h =
    all_append (λ b. nat_le 32 b) label (124 ∷ join_with_byte 124 (next ∷ labels)) (label_clean label (label_label_bytes label (first_so (is_label label) (list_all is_label (next ∷ labels)) h)))
    (labels_clean (next ∷ labels) (second_so (is_label label) (list_all is_label (next ∷ labels)) h))

kind_clean : (kind : ColumnType) → is_kind kind ≡ true → is_clean (kind_text kind) ≡ true
unfolding kind_text
kind_clean (Uint b) h = all_append (λ c. nat_le 32 c) (decimal b) (41 ∷ []) (decimal_clean b (omega (arith, number_bits b h))) refl
kind_clean (Text k) h = all_append (λ c. nat_le 32 c) (decimal k) (41 ∷ []) (decimal_clean k (omega (arith, text_bytes k h))) refl
kind_clean (Enum labels) h = all_append (λ c. nat_le 32 c) (join_with_byte 124 labels) (41 ∷ []) (labels_clean labels (let all : list_all is_label labels ≡ true = grind (arith, nat_tests) in all)) refl

columns_clean : (cs : List ColumnParts) → All IsColumn cs → list_all is_clean (map column_line cs) ≡ true
columns_clean [] h = refl
columns_clean (c ∷ cs) h =
    let column = All-head IsColumn c cs h in
    let line : is_clean (column_line c) ≡ true = all_append (λ b. nat_le 32 b) c.name (32 ∷ kind_text c.kind) (label_clean c.name (name_label_bytes c.name column.named)) (kind_clean c.kind column.typed) in
    rw (line, columns_clean cs (All-tail IsColumn c cs h)) refl

shape_clean : (s : ShapeParts) → IsShape s → list_all is_clean (shape_lines s) ≡ true
shape_clean s h =
    let table : is_clean (codes "table " ++ s.schema.table) ≡ true = label_clean s.schema.table (name_label_bytes s.schema.table h.schema.named) in
    let rows : is_clean (codes "rows " ++ decimal s.rows) ≡ true = decimal_clean s.rows (omega (arith, h.few)) in
    rw (table, rows, columns_clean s.schema.columns h.schema.columns) refl

pub lines_of_shape : (s : ShapeParts) → IsShape s → lines (shape_text s) ≡ shape_lines s
lines_of_shape s h = lines_of (shape_lines s) (shape_clean s h)

-- the printed text of a shape reads as the shape
pub printed_reads : (s : ShapeParts) → IsShape s → shape_of (shape_text s) ≡ Ok s
printed_reads s h = ap shape_of_lines (lines_of_shape s h) ∙ shape_reads s h
