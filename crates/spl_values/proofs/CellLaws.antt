-- Laws of values as texts.
use Rattle.std.proofs.Common.{◌≡◌, ℕ, zero, suc, get_or, ap, IsTrue, ◌+◌, ◌^◌, ◌<◌, ◌≤◌, Bool, true, false, not, ◌&&◌, ◌||◌, nat_le, List, [], ◌∷◌, length, position, Option, Some, None, Result, Ok, Err, IfOk, refl, sym, subst, ◌∙◌, arith, cond, nat_lt, ◌⊎◌, inl, inr}
use Rattle.std.specs.Char.{is_ascii_digit}
use Rattle.std.specs.Int.{IsInRange}
use Rattle.std.specs.Fmt.{decimal}
use Rattle.std.specs.List.{list_all, list_any, position_from}
use Rattle.std.proofs.lemmas.Bool.{cases_lt}
use Rattle.std.proofs.lemmas.Iterator.Adapters.{position_from-zero}
use Rattle.std.specs.Str.{IsAscii, bytes_eq}
use Rattle.std.specs.Str.Parse.{digits_value}
use Rattle.std.proofs.lemmas.Str.Parse.{IsDigitsTest, IsNumeralModel, numerals_by_value}
use Rattle.std.proofs.lemmas.Fmt.{digits_decimal, digits_value-decimal, decimal_nonempty, IsAscii-from_digits}
use Rattle.std.proofs.lemmas.Bool.Decides.{nat_tests}
use Rattle.spl_values.specs.CellTexts.{is_number, text_value, bad_byte_value, number_value, label_value, value_of_text, text_of_value}
use Rattle.spl_values.specs.Names.{is_distinct}
use Rattle.spl_values.specs.Kinds.{is_kind, is_printable, Fits, padded, unpadded, text_of}
use Rattle.spl_values.specs.declared.kinds.ColumnType.{ColumnType}
use Rattle.spl_values.specs.declared.kinds.ColumnType.TheVariants.{Uint, Text, Enum}
use Rattle.spl_values.specs.declared.values.Value.{Value}
use Rattle.spl_values.specs.declared.values.Value.TheVariants as value
use Rattle.spl_values.specs.declared.values.ValueFault.{ValueFault}
use Rattle.spl_values.specs.declared.values.ValueFault.TheVariants as fault
use Rattle.spl_values.proofs.Padded.{unpadded-padded, padded-unpadded}
use Rattle.spl_values.proofs.CodeLaws.{text-lt, number_bits, text_bytes}
use Rattle.std.proofs.lemmas.List.Quantifiers.{position-Some}
use Rattle.std.proofs.Math.Nat.{pow-le-pow_right}
use Rattle.std.proofs.lemmas.Nat.{pow_pos}
use Rattle.std.proofs.lemmas.Slice.Eq.{bytes_eq-Decides}

-- digits in one's own words
pub digits_test : IsDigitsTest (λ ds. list_all is_ascii_digit ds ≡ true)
digits_test = record {
  empty = refl;
  parts = λ c cs h. digit_parts c cs h;
  more = λ c cs h t. digit_more c cs h t;
}
  where
    digit_parts : (c : ℕ) (cs : List ℕ) → list_all is_ascii_digit (c ∷ cs) ≡ true → IsInRange 48 57 c × (list_all is_ascii_digit cs ≡ true)
    digit_parts c cs h = grind (arith, nat_tests)

    digit_more : (c : ℕ) (cs : List ℕ) → IsInRange 48 57 c → list_all is_ascii_digit cs ≡ true → list_all is_ascii_digit (c ∷ cs) ≡ true
    digit_more c cs h t = grind (arith, nat_tests)

pub digits_model : IsNumeralModel (λ ds. list_all is_ascii_digit ds ≡ true) (digits_value 10)
digits_model = numerals_by_value (λ ds. list_all is_ascii_digit ds ≡ true) digits_test

-- the parts of a number
pub number_parts : (text : List ℕ) → is_number text ≡ true → (0 < length text) × (list_all is_ascii_digit text ≡ true)
number_parts text h = grind (arith, nat_tests)

pub number_is_ascii : (text : List ℕ) → is_number text ≡ true → IsAscii text
number_is_ascii text h = IsAscii-from_digits text (digits_model.to text (number_parts text h).1)

-- what a number in decimal is
pub decimal_is_number : (n : ℕ) → n < 2 ^ 64 → is_number (decimal n) ≡ true
decimal_is_number n h =
    let some = decimal_nonempty n h in
    let digits = digits_decimal digits_model n h in
    let few : nat_le 1 (length (decimal n)) ≡ true = grind (arith, nat_tests) in
    rw (few, digits) refl

pub decimal_value : (n : ℕ) → n < 2 ^ 64 → digits_value 10 (decimal n) ≡ n
decimal_value n h = digits_value-decimal digits_model n h

-- a number of 2 ^ 64 or more
pub too_large : (text : List ℕ) → is_number text ≡ true → ¬ ((0 < length text) × (digits_value 10 text < 2 ^ 64)) → nat_lt (digits_value 10 text) (2 ^ 64) ≡ false
too_large text h over = elim (cases_lt (digits_value 10 text) (2 ^ 64)) [ inl lt ↦ absurd (over ((number_parts text h).0, lt)) | inr ge ↦ grind (arith, nat_tests) ]

-- each byte passes where none is the first that doesn't, and the other way round
all_pass : (f : ℕ → Bool) (i : ℕ) (xs : List ℕ) → position_from (λ b. not (f b)) i xs ≡ None → list_all f xs ≡ true
all_pass f i [] h = refl
all_pass f i (x ∷ xs) h =
    elim (f x) as (λ b. cond (not b) (Some i) (position_from (λ c. not (f c)) (i + 1) xs) ≡ None → (b && list_all f xs) ≡ true)
    [ true ↦ λ e. all_pass f (i + 1) xs e | false ↦ λ e. absurd cc ] h

none_fails : (f : ℕ → Bool) (i : ℕ) (xs : List ℕ) → list_all f xs ≡ true → position_from (λ b. not (f b)) i xs ≡ None
none_fails f i [] h = refl
none_fails f i (x ∷ xs) h =
    elim (f x) as (λ b. (b && list_all f xs) ≡ true → cond (not b) (Some i) (position_from (λ c. not (f c)) (i + 1) xs) ≡ None)
    [ true ↦ λ e. none_fails f (i + 1) xs e | false ↦ λ e. absurd cc ] h

pub all_printable : (text : List ℕ) → position (λ b. not (is_printable b)) text ≡ None → list_all is_printable text ≡ true
all_printable text h = all_pass is_printable 0 text (sym (position_from-zero (λ b. not (is_printable b)) text) ∙ h)

pub none_unprintable : (text : List ℕ) → list_all is_printable text ≡ true → position (λ b. not (is_printable b)) text ≡ None
none_unprintable text h = position_from-zero (λ b. not (is_printable b)) text ∙ none_fails is_printable 0 text h

-- a text that reads fits its column
pub read_text_fits : (k : ℕ) (text : List ℕ) (v : Value) → k ≤ 16 → text_value k text ≡ Ok v → Fits (Text k) v
read_text_fits k text v few h =
    elim (cases_le (length text) k) [
      | inl short ↦ by_bytes (position (λ b. not (is_printable b)) text) refl short (let test : nat_le (length text) k ≡ true = grind (arith, nat_tests) in rw test at h)
      | inr long ↦ let test : nat_le (length text) k ≡ false = grind (arith, nat_tests) in let bad = rw test at h in absurd cc
    ]
  where
    cases_le : (m n : ℕ) → (m ≤ n) ⊎ (n < m)
    cases_le m n = elim (cases_lt n m) [ inl lt ↦ inr lt | inr ge ↦ inl ge ]

    by_bytes : (o : Option ℕ) → position (λ b. not (is_printable b)) text ≡ o → length text ≤ k → bad_byte_value k text o ≡ Ok v → Fits (Text k) v
    by_bytes None e short g =
        let printable = all_printable text e in
        let kept : unpadded 16 (padded 16 text) ≡ text = unpadded-padded 16 text (printable, omega arith) in
        let same : v ≡ value.Text (padded 16 text) = cc in
        rw (same, kept) (printable, short)
    by_bytes (Some i) e short g = absurd cc

pub text_fits : (k : ℕ) (text : List ℕ) (r : Result Value ValueFault) → k ≤ 16 → r ≡ text_value k text → IfOk r (Fits (Text k))
text_fits k text (Ok v) few e = read_text_fits k text v few (sym e)
text_fits k text (Err f) few e = tt

-- a label stands at its own place, as no other is the same
label_place : (labels : List (List ℕ)) (i k : ℕ) → is_distinct labels ≡ true → i < length labels → position_from (λ label. bytes_eq label (get_or labels i [])) k labels ≡ Some (k + i)
label_place [] i k d h = absurd (omega arith)
label_place (l ∷ ls) zero k d h =
    let same = (bytes_eq-Decides l l).1 refl in
    let e : k ≡ k + 0 = omega arith in
    rw same (ap Some e)
label_place (l ∷ ls) (suc i) k d h =
    let new = not_so (list_any (bytes_eq l) ls) (first_so (not (list_any (bytes_eq l) ls)) (is_distinct ls) d) in
    let other = not_at l ls i new (omega arith) in
    let tail = label_place ls i (k + 1) (second_so (not (list_any (bytes_eq l) ls)) (is_distinct ls) d) (omega arith) in
    let e : k + 1 + i ≡ k + suc i = omega arith in
    rw other (tail ∙ ap Some e)
  where
    first_so : (a b : Bool) → (a && b) ≡ true → a ≡ true
    first_so true b h = refl
    first_so false b h = absurd cc

    second_so : (a b : Bool) → (a && b) ≡ true → b ≡ true
    second_so true b h = h
    second_so false b h = absurd cc

    not_so : (a : Bool) → not a ≡ true → a ≡ false
    not_so true h = absurd cc
    not_so false h = refl

    not_at : (l : List ℕ) (ls : List (List ℕ)) (i : ℕ) → list_any (bytes_eq l) ls ≡ false → i < length ls → bytes_eq l (get_or ls i []) ≡ false
    not_at l [] i h k = absurd (omega arith)
    not_at l (m ∷ ls) zero h k = elim (bytes_eq l m) as (λ b. (b || list_any (bytes_eq l) ls) ≡ false → b ≡ false) [ true ↦ λ e. absurd cc | false ↦ λ e. refl ] h
    not_at l (m ∷ ls) (suc i) h k = not_at l ls i (rest_not (bytes_eq l m) (list_any (bytes_eq l) ls) h) (omega arith)
      where
        rest_not : (a b : Bool) → (a || b) ≡ false → b ≡ false
        rest_not true b e = absurd cc
        rest_not false b e = e

pub printed_values_read : (kind : ColumnType) (v : Value) → IsTrue (is_kind kind) → Fits kind v → value_of_text kind (text_of_value kind v) ≡ Ok v
printed_values_read (Uint b) (value.Number n) typed h =
    let bits = number_bits b typed in
    let most : 2 ^ b ≤ 2 ^ 64 = pow-le-pow_right (pow_pos 1) bits.1 in
    let small : n < 2 ^ 64 = omega (arith, h, most) in
    let less : nat_lt n (2 ^ b) ≡ true = grind (arith, nat_tests) in
    rw (decimal_is_number n small, decimal_value n small, less) refl
printed_values_read (Uint b) (value.Text n) typed h = absurd h
printed_values_read (Uint b) (value.Label n) typed h = absurd h
printed_values_read (Text k) (value.Number n) typed h = absurd h
printed_values_read (Text k) (value.Text n) typed h =
    let short : nat_le (length (text_of n)) k ≡ true = grind (arith, nat_tests) in
    let printable = none_unprintable (text_of n) h.0 in
    let kept = padded-unpadded 16 n (text-lt k n h) in
    rw (short, printable, kept) refl
printed_values_read (Text k) (value.Label n) typed h = absurd h
printed_values_read (Enum labels) (value.Number n) typed h = absurd h
printed_values_read (Enum labels) (value.Text n) typed h = absurd h
printed_values_read (Enum labels) (value.Label i) typed h =
    let distinct : is_distinct labels ≡ true = grind (arith, nat_tests) in
    let place = label_place labels i 0 distinct h in
    let e : 0 + i ≡ i = omega arith in
    ap label_value (position_from-zero (λ label. bytes_eq label (get_or labels i [])) labels ∙ place ∙ ap Some e)

-- what is read in a column fits it
pub read_values_fit : (kind : ColumnType) (text : List ℕ) (v : Value) → is_kind kind ≡ true → value_of_text kind text ≡ Ok v → Fits kind v
read_values_fit (Uint b) text v typed e = by_number (is_number text) (nat_lt (digits_value 10 text) (2 ^ b)) refl e
  where
    by_number : (t u : Bool) → nat_lt (digits_value 10 text) (2 ^ b) ≡ u
        → number_value (cond t (cond u (Ok (digits_value 10 text)) (Err fault.TooLarge)) (Err fault.NotANumber)) ≡ Ok v → Fits (Uint b) v
    by_number true true h k =
        let same : value.Number (digits_value 10 text) ≡ v = cc in
        let less : digits_value 10 text < 2 ^ b = grind (arith, nat_tests) in
        subst (λ (w : Value). Fits (Uint b) w) same less
    by_number true false h k = absurd cc
    by_number false u h k = absurd cc
read_values_fit (Text k) text v typed e = read_text_fits k text v (text_bytes k typed).1 e
read_values_fit (Enum labels) text v typed e = by_place (position (λ label. bytes_eq label text) labels) refl e
  where
    by_place : (o : Option ℕ) → position (λ label. bytes_eq label text) labels ≡ o → label_value o ≡ Ok v → Fits (Enum labels) v
    by_place (Some i) h k =
        let same : value.Label i ≡ v = cc in
        let within = position-Some (λ label. bytes_eq label text) labels i [] h in
        subst (λ (w : Value). Fits (Enum labels) w) same within.0
    by_place None h k = absurd cc
