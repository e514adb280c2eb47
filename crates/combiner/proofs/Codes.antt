-- Codes of values, by their test.
use Rattle.std.proofs.Common.{◌≡◌, ◌≢◌, ◌↔◌, ℕ, ◌^◌, true, leb, length, Option, None, Some, sym, subst, ap, ◌∙◌, IsTrue}
use Rattle.std.specs.Prelude.{MatchOption, is_some}
use Rattle.std.specs.List.{list_all}
use Rattle.std.proofs.lemmas.Bool.{and_from, and_parts, false_from_ne_true, leb-true, le-leb, lt-ltb, ltb-true}
use Rattle.spl_values.specs.Kinds.{is_kind, is_printable, text_of, Fits}
use Rattle.spl_values.specs.Codes.{code_of, value_with}
use Rattle.spl_values.specs.declared.kinds.ColumnType.{ColumnType}
use Rattle.spl_values.specs.declared.kinds.ColumnType.TheVariants.{Uint, Text, Enum}
use Rattle.spl_values.specs.declared.values.Value.{Value}
use Rattle.spl_values.specs.declared.values.Value.TheVariants as value
use Rattle.spl_values.proofs.CodeLaws.{code-with, value-with}
use Rattle.clear_sql.specs.CellAnswers.{IsCode}
use Rattle.clear_sql.proofs.GoodCells.{zero_code}
use Rattle.combiner.specs.GoodWords.{is_value, is_code}

value_fits : (k : ColumnType) (v : Value) → is_value k v ≡ true → Fits k v
value_fits (Uint b) (value.Number n) e = ltb-true n (2 ^ b) e
value_fits (Uint b) (value.Text n) e = absurd cc
value_fits (Uint b) (value.Label n) e = absurd cc
value_fits (Text k) (value.Number n) e = absurd cc
value_fits (Text k) (value.Text n) e =
    let both = and_parts (list_all is_printable (text_of n)) (leb (length (text_of n)) k) e in
    (both.0, leb-true (length (text_of n)) k both.1)
value_fits (Text k) (value.Label n) e = absurd cc
value_fits (Enum labels) (value.Number n) e = absurd cc
value_fits (Enum labels) (value.Text n) e = absurd cc
value_fits (Enum labels) (value.Label n) e = ltb-true n (length labels) e

fits_value : (k : ColumnType) (v : Value) → Fits k v → is_value k v ≡ true
fits_value (Uint b) (value.Number n) h = lt-ltb n (2 ^ b) h
fits_value (Uint b) (value.Text n) h = absurd h
fits_value (Uint b) (value.Label n) h = absurd h
fits_value (Text k) (value.Number n) h = absurd h
fits_value (Text k) (value.Text n) h = and_from (list_all is_printable (text_of n)) (leb (length (text_of n)) k) h.0 (le-leb (length (text_of n)) k h.1)
fits_value (Text k) (value.Label n) h = absurd h
fits_value (Enum labels) (value.Number n) h = absurd h
fits_value (Enum labels) (value.Text n) h = absurd h
fits_value (Enum labels) (value.Label n) h = lt-ltb n (length labels) h

pub code_reads : (k : ColumnType) (code : ℕ) → IsTrue (is_kind k) → is_code k code ≡ true → IsCode k code
code_reads k code typed e = let fits = value_fits k (value_with k code) e in record { fits = fits; same = code-with k code typed fits }

pub code_told : (k : ColumnType) (code : ℕ) → IsCode k code → is_code k code ≡ true
code_told k code is = fits_value k (value_with k code) is.fits

pub zero_told : (k : ColumnType) → IsTrue (is_kind k) → is_code k 0 ≡ true
zero_told k typed = code_told k 0 (zero_code k typed)

pub codes_told : (k : ColumnType) (code : ℕ) → IsTrue (is_kind k) → (is_code k code ≡ true) ↔ IsCode k code
codes_told k code typed = (code_reads k code typed, code_told k code)

-- a code is one where a value with it is found
pub code_found : (k : ColumnType) (code : ℕ) (found : Option Value) → IsTrue (is_kind k)
    → MatchOption found ((v : Value) → Fits k v → code_of k v ≢ code) (λ v. Fits k v × (code_of k v ≡ code)) → is_some found ≡ is_code k code
code_found k code None typed none =
    sym (false_from_ne_true (is_code k code) (λ e. let is = code_reads k code typed e in none (value_with k code) is.fits is.same))
code_found k code (Some v) typed some =
    let same : v ≡ value_with k code = value-with k v typed some.0 ∙ ap (value_with k) some.1 in
    sym (fits_value k (value_with k code) (subst (Fits k) same some.0))
