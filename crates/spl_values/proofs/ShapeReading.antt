-- Parts of the text of a shape, as they are read.
use Rattle.std.proofs.Common.{◌≡◌, ◌≢◌, ℕ, ◌+◌, ◌-◌, ◌^◌, ◌<◌, ◌≤◌, ◌==◌, Bool, true, false, ◌&&◌, ◌||◌, not, cond, nat_lt, nat_le, List, [], ◌∷◌, length, get_or, min, Option, Some, None, Result, Ok, Err, option_map, option_and_then, codes, refl, ap, ◌∙◌, arith, ◌⊎◌, inl, inr}
use Rattle.std.specs.List.{list_all, slice_split, before_first, after_first}
use Rattle.std.specs.Str.{IsAscii, IsUtf8}
use Rattle.std.specs.Str.Parse.{digits_value}
use Rattle.std.proofs.lemmas.Str.{IsUtf8-from_ascii}
use Rattle.std.proofs.lemmas.Str.Ascii.{IsAscii-cons, IsAscii-nil}
use Rattle.std.proofs.lemmas.Bool.{cases_lt}
use Rattle.std.proofs.lemmas.Bool.Decides.{nat_tests}
use Rattle.spl_values.specs.Names.{is_label_byte, is_name_byte, is_name, is_label}
use Rattle.spl_values.specs.CellTexts.{is_number, number_of_text}
use Rattle.spl_values.specs.ShapeTexts.{plain_number, if_rows, if_kind, between, kind_of_text, column_of_line, added, columns_of_lines}
use Rattle.spl_values.specs.Shapes.{ColumnParts}
use Rattle.spl_values.specs.Kinds.{is_kind}
use Rattle.spl_values.specs.declared.kinds.ColumnType.{ColumnType}
use Rattle.spl_values.specs.declared.kinds.ColumnType.TheVariants.{Uint, Text, Enum}
use Rattle.std.proofs.lemmas.Option.{cond_some}
use Rattle.spl_values.specs.declared.shape_reader.ShapeFault.{ShapeFault}
use Rattle.spl_values.specs.declared.shape_reader.ShapeFault.TheVariants as shape
use Rattle.std.specs.Option.{option_map_or}
use Rattle.std.specs.Result.{OkIff, result_unwrap_or}
use Rattle.spl_values.specs.declared.values.ValueFault.{ValueFault}

-- the bytes of labels are text
label_byte_ascii : (b : ℕ) (bs : List ℕ) → list_all is_label_byte (b ∷ bs) ≡ true → (b < 128) × (list_all is_label_byte bs ≡ true)
label_byte_ascii b bs h = grind (arith, nat_tests)

labels_ascii : (bs : List ℕ) → list_all is_label_byte bs ≡ true → IsAscii bs
labels_ascii [] h = IsAscii-nil
labels_ascii (b ∷ bs) h = let parts = label_byte_ascii b bs h in IsAscii-cons b bs parts.0 (labels_ascii bs parts.1)

pub labels_are_text : (bs : List ℕ) → list_all is_label_byte bs ≡ true → IsUtf8 bs
labels_are_text bs h = IsUtf8-from_ascii bs (labels_ascii bs h)

-- plain numbers
pub plain-led : (text : List ℕ) → 1 < length text → get_or text 0 0 ≡ 48 → plain_number text ≡ None
unfolding plain_number
plain-led text long led =
    let first : (get_or text 0 0 == 48) ≡ true = grind (arith, nat_tests) in
    let more : (length text == 1) ≡ false = grind (arith, nat_tests) in
    rw (first, more) (by_number (is_number text))
  where
    by_number : (b : Bool) → cond (b && (not true || false)) (Some (digits_value 10 text)) None ≡ None
    by_number true = refl
    by_number false = refl

-- the text isn't one of more digits that begin with 0
abbrev pub NotLed : List ℕ → Type 0
NotLed text = (length text ≤ 1) ⊎ (get_or text 0 0 ≢ 48)

pub plain-number : (text : List ℕ) → is_number text ≡ true → NotLed text → plain_number text ≡ Some (digits_value 10 text)
unfolding plain_number
plain-number text h led =
    let some : 0 < length text = grind (arith, nat_tests) in
    let test : (not (get_or text 0 0 == 48) || (length text == 1)) ≡ true = elim led [ inl short ↦ grind (arith, nat_tests) | inr other ↦ grind (arith, nat_tests) ] in
    rw (h, test) refl

pub plain-none : (text : List ℕ) → is_number text ≡ false → plain_number text ≡ None
unfolding plain_number
plain-none text h = rw h refl

-- what reading the number in 64 bits says of it
pub plain-ok : (text : List ℕ) (n : ℕ) → NotLed text → number_of_text 64 text ≡ Ok n → plain_number text ≡ Some n
plain-ok text n led e = elim (test_of (is_number text)) [ inl is ↦ with_number is | inr isnt ↦ let bad = rw isnt at e in absurd cc ]
  where
    test_of : (b : Bool) → (b ≡ true) ⊎ (b ≡ false)
    test_of true = inl refl
    test_of false = inr refl

    with_number : is_number text ≡ true → plain_number text ≡ Some n
    with_number is =
        elim (test_of (nat_lt (digits_value 10 text) (2 ^ 64))) [
          | inl small ↦ let f = rw (is, small) at e in plain-number text is led ∙ ap Some (let g : digits_value 10 text ≡ n = cc in g)
          | inr large ↦ let f = rw (is, large) at e in absurd cc
        ]

pub plain-large : (text : List ℕ) (f : ValueFault) → NotLed text → is_number text ≡ true → number_of_text 64 text ≡ Err f → (n : ℕ) × (plain_number text ≡ Some n) × (2 ^ 64 ≤ n)
plain-large text f led is e =
    elim (test_of (nat_lt (digits_value 10 text) (2 ^ 64))) [
      | inl small ↦ let g = rw (is, small) at e in absurd cc
      | inr large ↦ (digits_value 10 text, plain-number text is led, grind (arith, nat_tests))
    ]
  where
    test_of : (b : Bool) → (b ≡ true) ⊎ (b ≡ false)
    test_of true = inl refl
    test_of false = inr refl

-- a number, capped at the greatest of 32 bits
pub capped : {E : Type 0} (r : Result ℕ E) (n : ℕ) → OkIff r (n < 2 ^ 32) n → result_unwrap_or r (2 ^ 32 - 1) ≡ min n (2 ^ 32 - 1)
capped (Ok m) n h = omega (arith, h.0, h.1)
capped (Err e) n h = elim (cases_lt n (2 ^ 32)) [ inl lt ↦ absurd (h lt) | inr ge ↦ omega arith ]

-- what a capped number says of the number
pub capped-some : (o : Option ℕ) (m : ℕ) → Some m ≡ option_map (λ n. min n (2 ^ 32 - 1)) o → (n : ℕ) × (o ≡ Some n) × (m ≡ min n (2 ^ 32 - 1))
capped-some (Some n) m e = (n, refl, let same : m ≡ min n (2 ^ 32 - 1) = cc in same)
capped-some None m e = absurd cc

pub capped-none : (o : Option ℕ) → None ≡ option_map (λ n. min n (2 ^ 32 - 1)) o → o ≡ None
capped-none (Some n) e = absurd cc
capped-none None e = refl

-- rows of a plain number
pub rows-few : (o : Option ℕ) (m : ℕ) → Some m ≡ option_map (λ n. min n (2 ^ 32 - 1)) o → m ≤ 262144 → (f : ShapeFault) → option_map_or if_rows o (Err f) ≡ Ok m
rows-few o m e few f =
    let parts = capped-some o m e in
    let same : parts.0 ≡ m = omega (arith, parts.2) in
    let test : nat_le m 262144 ≡ true = grind (arith, nat_tests) in
    rw (parts.1, same, test) refl

pub rows-many : (o : Option ℕ) (m : ℕ) → Some m ≡ option_map (λ n. min n (2 ^ 32 - 1)) o → 262144 < m → (f : ShapeFault) → option_map_or if_rows o (Err f) ≡ Err shape.TooManyRows
rows-many o m e many f =
    let parts = capped-some o m e in
    let over : 262144 < parts.0 = omega (arith, parts.2) in
    let test : nat_le parts.0 262144 ≡ false = grind (arith, nat_tests) in
    rw (parts.1, test) refl

-- the bytes of a name are bytes of labels
names_label_bytes : (bs : List ℕ) → list_all is_name_byte bs ≡ true → list_all is_label_byte bs ≡ true
names_label_bytes [] h = refl
names_label_bytes (b ∷ bs) h =
    let tail = names_label_bytes bs (let t : list_all is_name_byte bs ≡ true = grind (arith, nat_tests) in t) in
    let head : is_label_byte b ≡ true = grind (arith, nat_tests) in
    rw (head, tail) refl

pub name_label_bytes : (name : List ℕ) → is_name name ≡ true → list_all is_label_byte name ≡ true
unfolding is_name
name_label_bytes [] h = absurd cc
name_label_bytes (b ∷ bs) h = names_label_bytes (b ∷ bs) (name_bytes b bs h)
  where
    name_bytes : (b : ℕ) (bs : List ℕ) → is_name (b ∷ bs) ≡ true → list_all is_name_byte (b ∷ bs) ≡ true
    name_bytes b bs h = grind (arith, nat_tests)

pub label_label_bytes : (label : List ℕ) → is_label label ≡ true → list_all is_label_byte label ≡ true
unfolding is_label
label_label_bytes label h = grind (arith, nat_tests)

-- types of capped numbers
pub number_kind-capped : (o : Option ℕ) (m : ℕ) → Some m ≡ option_map (λ n. min n (2 ^ 32 - 1)) o → if_kind (Uint m) ≡ option_and_then (λ b. if_kind (Uint b)) o
number_kind-capped o m e =
    let parts = capped-some o m e in
    rw parts.1 (elim (cases_lt 64 m) [
      | inl over ↦ let one : is_kind (Uint m) ≡ false = grind (arith, nat_tests) in let two : is_kind (Uint parts.0) ≡ false = too_many parts.0 (omega (arith, parts.2)) in rw (one, two) refl
      | inr few ↦ let same : m ≡ parts.0 = omega (arith, parts.2) in ap (λ b. if_kind (Uint b)) same
    ])
  where
    too_many : (n : ℕ) → 64 < n → is_kind (Uint n) ≡ false
    too_many n h = grind (arith, nat_tests)

pub text_kind-capped : (o : Option ℕ) (m : ℕ) → Some m ≡ option_map (λ n. min n (2 ^ 32 - 1)) o → if_kind (Text m) ≡ option_and_then (λ b. if_kind (Text b)) o
text_kind-capped o m e =
    let parts = capped-some o m e in
    rw parts.1 (elim (cases_lt 16 m) [
      | inl over ↦ let one : is_kind (Text m) ≡ false = grind (arith, nat_tests) in let two : is_kind (Text parts.0) ≡ false = too_many parts.0 (omega (arith, parts.2)) in rw (one, two) refl
      | inr few ↦ let same : m ≡ parts.0 = omega (arith, parts.2) in ap (λ b. if_kind (Text b)) same
    ])
  where
    too_many : (n : ℕ) → 16 < n → is_kind (Text n) ≡ false
    too_many n h = grind (arith, nat_tests)

-- a type that a column may have
if_kind-parts : (kind other : ColumnType) → if_kind kind ≡ Some other → is_kind other ≡ true
if_kind-parts kind other e =
    let parts = cond_some (is_kind kind) kind other e in
    rw (← parts.1) parts.0

number_kind-parts : (o : Option ℕ) (other : ColumnType) → option_and_then (λ b. if_kind (Uint b)) o ≡ Some other → is_kind other ≡ true
number_kind-parts None other e = absurd cc
number_kind-parts (Some b) other e = if_kind-parts (Uint b) other e

text_kind-parts : (o : Option ℕ) (other : ColumnType) → option_and_then (λ b. if_kind (Text b)) o ≡ Some other → is_kind other ≡ true
text_kind-parts None other e = absurd cc
text_kind-parts (Some b) other e = if_kind-parts (Text b) other e

enum_kind-parts : (o : Option (List ℕ)) (other : ColumnType) → option_map_or (λ labels. if_kind (Enum (slice_split (λ b. b == 124) labels))) o None ≡ Some other → is_kind other ≡ true
enum_kind-parts None other e = absurd cc
enum_kind-parts (Some labels) other e = if_kind-parts (Enum (slice_split (λ b. b == 124) labels)) other e

-- what is read as a type is one that a column may have
pub read_kind_is_kind : (text : List ℕ) (kind : ColumnType) → kind_of_text text ≡ Some kind → is_kind kind ≡ true
unfolding kind_of_text
read_kind_is_kind text kind e = by_number (between (codes "UINT(") text) e
  where
    rest : Option ColumnType
    rest = option_map_or (λ number. option_and_then (λ k. if_kind (Text k)) (plain_number number)) (between (codes "TEXT(") text)
        (option_map_or (λ labels. if_kind (Enum (slice_split (λ b. b == 124) labels))) (between (codes "ENUM(") text) None)

    by_text : (o : Option (List ℕ)) → option_map_or (λ number. option_and_then (λ k. if_kind (Text k)) (plain_number number)) o (option_map_or (λ labels. if_kind (Enum (slice_split (λ b. b == 124) labels))) (between (codes "ENUM(") text) None) ≡ Some kind → is_kind kind ≡ true
    by_text (Some number) f = text_kind-parts (plain_number number) kind f
    by_text None f = enum_kind-parts (between (codes "ENUM(") text) kind f

    by_number : (o : Option (List ℕ)) → option_map_or (λ number. option_and_then (λ b. if_kind (Uint b)) (plain_number number)) o rest ≡ Some kind → is_kind kind ≡ true
    by_number (Some number) f = number_kind-parts (plain_number number) kind f
    by_number None f = by_text (between (codes "TEXT(") text) f

-- no text is no type
pub no_kind : kind_of_text [] ≡ None
unfolding kind_of_text between
no_kind = refl

-- columns of lines
pub column-unnamed : (line : List ℕ) → is_name (before_first (λ b. b == 32) line) ≡ false → column_of_line line ≡ None
unfolding column_of_line
column-unnamed line h = rw h refl

pub column-untyped : (line : List ℕ) → kind_of_text (after_first (λ b. b == 32) line) ≡ None → column_of_line line ≡ None
unfolding column_of_line
column-untyped line h = rw h (either_none (is_name (before_first (λ b. b == 32) line)))
  where
    either_none : (b : Bool) → cond {A = Option ColumnParts} b None None ≡ None
    either_none true = refl
    either_none false = refl

pub column-whole : (line : List ℕ) (kind : ColumnType) → is_name (before_first (λ b. b == 32) line) ≡ true → kind_of_text (after_first (λ b. b == 32) line) ≡ Some kind
    → column_of_line line ≡ Some (record { name = before_first (λ b. b == 32) line; kind = kind })
unfolding column_of_line
column-whole line kind h k = rw (h, k) refl

-- the column lines, one by one
columns-none : (before : List ColumnParts) → length before ≢ 0 → columns_of_lines before [] ≡ Ok before
unfolding columns_of_lines
columns-none before some = let test : (length before == 0) ≡ false = grind (arith, nat_tests) in rw test refl

pub columns-end : (before : List ColumnParts) (ls : List (List ℕ)) → ls ≡ [] → length before ≢ 0 → columns_of_lines before ls ≡ Ok before
columns-end before ls e some = ap (columns_of_lines before) e ∙ columns-none before some

pub columns-missing : (before : List ColumnParts) (ls : List (List ℕ)) → ls ≡ [] → length before ≡ 0 → columns_of_lines before ls ≡ Err (shape.BadLine 3)
unfolding columns_of_lines
columns-missing before ls e none = let test : (length before == 0) ≡ true = grind (arith, nat_tests) in rw (e, test) refl

pub columns-full : (before : List ColumnParts) (ls : List (List ℕ)) (line : List ℕ) (rest : List (List ℕ)) → ls ≡ line ∷ rest → length before ≡ 24 → columns_of_lines before ls ≡ Err (shape.TooManyColumns 27)
unfolding columns_of_lines
columns-full before ls line rest e full = let test : (length before == 24) ≡ true = grind (arith, nat_tests) in rw (e, test) refl

pub columns-bad : (before : List ColumnParts) (ls : List (List ℕ)) (line : List ℕ) (rest : List (List ℕ)) (f : ShapeFault) → ls ≡ line ∷ rest → length before ≢ 24
    → added (length before + 3) before (column_of_line line) ≡ Err f → columns_of_lines before ls ≡ Err f
unfolding columns_of_lines
columns-bad before ls line rest f e room bad = let test : (length before == 24) ≡ false = grind (arith, nat_tests) in rw (e, test, bad) refl

pub columns-more : (before : List ColumnParts) (ls : List (List ℕ)) (line : List ℕ) (rest : List (List ℕ)) (more : List ColumnParts) → ls ≡ line ∷ rest → length before ≢ 24
    → added (length before + 3) before (column_of_line line) ≡ Ok more → columns_of_lines before ls ≡ columns_of_lines more rest
unfolding columns_of_lines
columns-more before ls line rest more e room good = let test : (length before == 24) ≡ false = grind (arith, nat_tests) in rw (e, test, good) refl
