-- The codes of parameters have the bits of their columns.
use Rattle.std.proofs.Common.{◌≡◌, ℕ, suc, ◌+◌, ◌-◌, ◌^◌, ◌<◌, Bool, true, false, cond, eqb, min, nat_lt, List, [], ◌∷◌, length, Option, Some, None, Result, Ok, Err, refl, subst, arith, get_or, slice_get, slice_index, IsTrue}
use Rattle.std.specs.Prelude.{All, IfOk}
use Rattle.std.proofs.lemmas.Bool.{eqb-true}
use Rattle.std.proofs.lemmas.Nat.{pow_pos}
use Rattle.std.proofs.lemmas.Option.{slice_get-get_or, slice_get_within}
use Rattle.spl_values.specs.Kinds.{is_kind, Fits}
use Rattle.spl_values.specs.Codes.{code_of}
use Rattle.spl_values.specs.CellTexts.{value_of_text}
use Rattle.spl_values.specs.Shapes.{SchemaParts, ColumnParts, IsColumn, IsSchema}
use Rattle.spl_values.specs.Tables.{column_bits}
use Rattle.spl_values.specs.declared.kinds.ColumnType.TheVariants.{Uint}
use Rattle.spl_values.specs.declared.values.Value.{Value}
use Rattle.spl_values.specs.declared.values.ValueFault.{ValueFault}
use Rattle.spl_values.proofs.CellLaws.{read_values_fit}
use Rattle.spl_values.proofs.CodeLaws.{codes_below}
use Rattle.spl_values.proofs.RowLaws.{column_bits-at}
use Rattle.query_grammar.specs.Canonical.{IsQuery}
use Rattle.query_reader.specs.declared.checked.Checked.{Checked}
use Rattle.query_reader.specs.declared.params.ParamFault.{ParamFault}
use Rattle.query_reader.specs.declared.params.ParamFault.TheVariants.{Count}
use Rattle.query_reader.specs.Accepted.{IsCheckedFor}
use Rattle.query_reader.specs.Params.{Answers, AreParamsFor, HasBits, HaveBits, IsCodeIn, TakesCodes, before, count_fault, fault_or, marks_of, params_of_words, read_code, word_code, word_codes}
use Rattle.query_reader.proofs.Known.{params_known}

no_column : ColumnParts
no_column = record { name = []; kind = Uint 0 }

typed_at : (columns : List ColumnParts) (p : ℕ) (c : ColumnParts) → All IsColumn columns → slice_get columns p ≡ Some c → IsTrue (is_kind c.kind)
typed_at columns p c all h =
    let inside = slice_get_within columns p c h in
    let here : slice_get columns p ≡ Some (get_or columns p no_column) = slice_get-get_or columns p no_column inside in
    let same : get_or columns p no_column ≡ c = cc in
    subst (λ (c : ColumnParts). IsTrue (is_kind c.kind)) same (all p no_column inside).typed

-- the code of a value has no more than its column's bits
code_room : (columns : List ColumnParts) (p : ℕ) (c : ColumnParts) (v : Value) → All IsColumn columns → slice_get columns p ≡ Some c → Fits c.kind v → HasBits columns p (code_of c.kind v)
code_room columns p c v all h fits = rw (column_bits-at columns p c h) (codes_below c.kind v (typed_at columns p c all h) fits)

-- ---- words

record Both (a : Result ℕ ParamFault) (b : Result (List ℕ) ParamFault) (codes : List ℕ) : Type 0 where
  code : ℕ
  rest : List ℕ
  first : a ≡ Ok code
  later : b ≡ Ok rest
  whole : codes ≡ code ∷ rest

before_both : (a : Result ℕ ParamFault) (b : Result (List ℕ) ParamFault) (codes : List ℕ) → before a b ≡ Ok codes → Both a b codes
before_both (Err e) b codes h = absurd cc
before_both (Ok c) (Err e) codes h = absurd cc
before_both (Ok c) (Ok cs) codes h = record { code = c; rest = cs; first = refl; later = refl; whole = cc }

read_room : (columns : List ColumnParts) (p i code : ℕ) (c : ColumnParts) (word : List ℕ) (r : Result Value ValueFault) → All IsColumn columns → slice_get columns p ≡ Some c
    → value_of_text c.kind word ≡ r → read_code c.kind i r ≡ Ok code → HasBits columns p code
read_room columns p i code c word (Ok v) all h e k =
    let same : code_of c.kind v ≡ code = cc in
    subst (HasBits columns p) same (code_room columns p c v all h (read_values_fit c.kind word v (typed_at columns p c all h) e))
read_room columns p i code c word (Err f) all h e k = absurd cc

word_room : (columns : List ColumnParts) (p i code : ℕ) (word : List ℕ) (o : Option ColumnParts) → All IsColumn columns → slice_get columns p ≡ o → word_code i o word ≡ Ok code → HasBits columns p code
word_room columns p i code word None all h e =
    let same : 0 ≡ code = cc in
    subst (HasBits columns p) same (pow_pos (column_bits columns p))
word_room columns p i code word (Some c) all h e = read_room columns p i code c word (value_of_text c.kind word) all h refl e

words_room : (schema : SchemaParts) → All IsColumn schema.columns → (i : ℕ) (marks : List ℕ) (words : List (List ℕ)) (codes : List ℕ) → word_codes i schema marks words ≡ Ok codes → length marks ≡ length words
    → HaveBits schema.columns marks codes
words_room schema all i [] words [] h n = tt
words_room schema all i [] words (c ∷ cs) h n = absurd cc
words_room schema all i (p ∷ ps) [] codes h n = absurd (omega arith)
words_room schema all i (p ∷ ps) (w ∷ ws) codes h n =
    let both = before_both (word_code i (slice_get schema.columns p) w) (word_codes (i + 1) schema ps ws) codes h in
    let here = word_room schema.columns p i both.code w (slice_get schema.columns p) all refl both.first in
    rw both.whole ((λ k. here), words_room schema all (i + 1) ps ws both.rest both.later (omega arith))

-- ---- the number of parameters

no_fault : {A : Type 0} (t u : Bool) (x y : A) → cond t (Some x) (cond u None (Some y)) ≡ None → u ≡ true
no_fault true u x y h = absurd cc
no_fault false true x y h = refl
no_fault false false x y h = absurd cc

right_count : (marks had : ℕ) → count_fault marks had ≡ None → marks ≡ had
right_count marks had h =
    eqb-true marks had (no_fault (nat_lt 255 marks) (eqb marks had) (Count 256 (min had (2 ^ 32 - 1))) (Count marks (min had (2 ^ 32 - 1))) h)

record NoFault (fault : Option ParamFault) (codes : Result (List ℕ) ParamFault) (params : List ℕ) : Type 0 where
  none : fault ≡ None
  codes_are : codes ≡ Ok params

passed : (fault : Option ParamFault) (codes : Result (List ℕ) ParamFault) (params : List ℕ) → fault_or fault codes ≡ Ok params → NoFault fault codes params
passed None codes params h = record { none = refl; codes_are = h }
passed (Some e) codes params h = absurd cc

words_known : (checked : Checked) (schema : SchemaParts) (words : List (List ℕ)) (params : List ℕ) → IsQuery checked.query → IsSchema schema → params_of_words checked.query schema words ≡ Ok params
    → IsCheckedFor checked schema → AreParamsFor checked schema params
words_known checked schema words params q s e h =
    let marks = marks_of schema checked.query.branches in
    let parts = passed (count_fault (length marks) (length words)) (word_codes 0 schema marks words) params e in
    params_known checked schema h q params (words_room schema s.columns 0 marks words params parts.codes_are (right_count (length marks) (length words) parts.none))

pub answered_known : (checked : Checked) (schema : SchemaParts) (words : List (List ℕ)) (r : Result (List ℕ) ParamFault) → IsQuery checked.query → IsSchema schema → Answers r (params_of_words checked.query schema words)
    → IfOk r (λ params. IsCheckedFor checked schema → AreParamsFor checked schema params)
answered_known checked schema words (Ok params) q s e = words_known checked schema words params q s e
answered_known checked schema words (Err f) q s e = tt

-- ---- codes

code_in_room : (columns : List ColumnParts) (p code : ℕ) (o : Option ColumnParts) → All IsColumn columns → slice_get columns p ≡ o → IsCodeIn o code → p < length columns → HasBits columns p code
code_in_room columns p code None all h is inside =
    let here : slice_get columns p ≡ Some (get_or columns p no_column) = slice_get-get_or columns p no_column inside in
    absurd cc
code_in_room columns p code (Some c) all h is inside = subst (HasBits columns p) is.1.1 (code_room columns p c is.0 all h is.1.0)

codes_room : (columns : List ColumnParts) → All IsColumn columns → (marks codes : List ℕ) → length marks ≡ length codes
    → ((k : ℕ) → k < length codes → IsCodeIn (slice_get columns (slice_index marks k)) (slice_index codes k)) → HaveBits columns marks codes
codes_room columns all [] [] n h = tt
codes_room columns all [] (c ∷ cs) n h = absurd (omega arith)
codes_room columns all (p ∷ ps) [] n h = absurd (omega arith)
codes_room columns all (p ∷ ps) (c ∷ cs) n h =
    (code_in_room columns p c (slice_get columns p) all refl (h 0 (omega arith)), codes_room columns all ps cs (omega arith) (λ k b. h (suc k) (omega arith)))

codes_known : (checked : Checked) (schema : SchemaParts) (codes params : List ℕ) → IsQuery checked.query → IsSchema schema → TakesCodes (Ok params) checked.query schema codes
    → IsCheckedFor checked schema → AreParamsFor checked schema params
codes_known checked schema codes params q s takes h =
    let marks = marks_of schema checked.query.branches in
    let bits = codes_room schema.columns s.columns marks codes (right_count (length marks) (length codes) takes.1) takes.2 in
    params_known checked schema h q params (rw takes.0 bits)

pub taken_known : (checked : Checked) (schema : SchemaParts) (codes : List ℕ) (r : Result (List ℕ) ParamFault) → IsQuery checked.query → IsSchema schema → TakesCodes r checked.query schema codes
    → IfOk r (λ params. IsCheckedFor checked schema → AreParamsFor checked schema params)
taken_known checked schema codes (Ok params) q s takes = codes_known checked schema codes params q s takes
taken_known checked schema codes (Err f) q s takes = tt
