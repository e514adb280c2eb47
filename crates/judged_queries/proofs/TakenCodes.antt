-- What was answered to codes is what they are; and the codes of words are codes.
use Rattle.std.proofs.Common.{◌≡◌, ℕ, zero, suc, ◌+◌, ◌<◌, ◌^◌, Bool, true, false, cond, eqb, min, nat_lt, ◌-◌, List, [], ◌∷◌, length, Option, Some, None, Result, Ok, Err, refl, sym, ap, subst, ◌∙◌, arith, get_or, slice_get, IsTrue}
use Rattle.std.specs.Prelude.{All}
use Rattle.std.specs.List.{list_all}
use Rattle.std.proofs.lemmas.Bool.{eqb-true, and_parts, lt-ltb, le-leb, ltb-true, leb-true}
use Rattle.std.proofs.lemmas.Option.{slice_get-get_or, slice_get_within}
use Rattle.spl_values.specs.Kinds.{is_kind, is_printable, text_of, Fits}
use Rattle.spl_values.specs.Codes.{code_of, value_with}
use Rattle.spl_values.specs.CellTexts.{value_of_text}
use Rattle.spl_values.specs.Shapes.{SchemaParts, ColumnParts, IsColumn, IsSchema}
use Rattle.spl_values.specs.declared.kinds.ColumnType.{ColumnType}
use Rattle.spl_values.specs.declared.kinds.ColumnType.TheVariants.{Uint, Text, Enum}
use Rattle.spl_values.specs.declared.values.Value.{Value}
use Rattle.spl_values.specs.declared.values.Value.TheVariants as value
use Rattle.spl_values.specs.declared.values.ValueFault.{ValueFault}
use Rattle.spl_values.proofs.CellLaws.{read_values_fit}
use Rattle.spl_values.proofs.CodeLaws.{value-with, code-with}
use Rattle.query_grammar.specs.Queries.{QueryParts}
use Rattle.query_reader.specs.declared.params.ParamFault.{ParamFault}
use Rattle.query_reader.specs.declared.params.ParamFault.TheVariants.{Count, BadCode, OutOfMemory}
use Rattle.query_reader.specs.declared.params.ParamFault.TheVariants as fault
use Rattle.query_reader.specs.Params.{Answers, IsCodeIn, IsCodeAt, TakesCodes, before, count_fault, fault_or, marks_of, params_of_words, read_code, word_code, word_codes}
use Rattle.judged_queries.specs.Codes.{takes, is_code, codes_from, codes_in}

-- ---- values that a column takes

-- what is taken fits
taken_fits : (kind : ColumnType) (v : Value) → takes kind v ≡ true → Fits kind v
taken_fits (Uint b) (value.Number n) h = ltb-true n (2 ^ b) h
taken_fits (Uint b) (value.Text n) h = absurd cc
taken_fits (Uint b) (value.Label n) h = absurd cc
taken_fits (Text k) (value.Number n) h = absurd cc
taken_fits (Text k) (value.Text n) h = let both = and_parts (list_all is_printable (text_of n)) _ h in (both.0, leb-true (length (text_of n)) k both.1)
taken_fits (Text k) (value.Label n) h = absurd cc
taken_fits (Enum labels) (value.Number n) h = absurd cc
taken_fits (Enum labels) (value.Text n) h = absurd cc
taken_fits (Enum labels) (value.Label i) h = ltb-true i (length labels) h

-- what fits is taken
fitting_taken : (kind : ColumnType) (v : Value) → Fits kind v → takes kind v ≡ true
fitting_taken (Uint b) (value.Number n) h = lt-ltb n (2 ^ b) h
fitting_taken (Uint b) (value.Text n) h = absurd h
fitting_taken (Uint b) (value.Label n) h = absurd h
fitting_taken (Text k) (value.Number n) h = absurd h
fitting_taken (Text k) (value.Text n) h = rw (h.0, le-leb (length (text_of n)) k h.1) refl
fitting_taken (Text k) (value.Label n) h = absurd h
fitting_taken (Enum labels) (value.Number n) h = absurd h
fitting_taken (Enum labels) (value.Text n) h = absurd h
fitting_taken (Enum labels) (value.Label i) h = lt-ltb i (length labels) h

-- the code of a value passes
value_passes : (c : ColumnParts) (v : Value) → IsTrue (is_kind c.kind) → Fits c.kind v → is_code (Some c) (code_of c.kind v) ≡ true
value_passes c v typed fits = ap (takes c.kind) (sym (value-with c.kind v typed fits)) ∙ fitting_taken c.kind v fits

-- what passes is the code of a value
pub passing_is_code : (c : ColumnParts) (code : ℕ) → IsTrue (is_kind c.kind) → is_code (Some c) code ≡ true → IsCodeIn (Some c) code
passing_is_code c code typed h =
    let fits = taken_fits c.kind (value_with c.kind code) h in
    (value_with c.kind code, (fits, code-with c.kind code typed fits))

-- the code of a value passes, whichever value it is
pub code_passes : (c : ColumnParts) (code : ℕ) → IsTrue (is_kind c.kind) → IsCodeIn (Some c) code → is_code (Some c) code ≡ true
code_passes c code typed is = subst (λ n. is_code (Some c) n ≡ true) is.1.1 (value_passes c is.0 typed is.1.0)

-- ---- columns that are there

no_column : ColumnParts
no_column = record { name = []; kind = Uint 0 }

typed_at : (columns : List ColumnParts) (p : ℕ) (c : ColumnParts) → All IsColumn columns → slice_get columns p ≡ Some c → IsTrue (is_kind c.kind)
typed_at columns p c all h =
    let inside = slice_get_within columns p c h in
    let here : slice_get columns p ≡ Some (get_or columns p no_column) = slice_get-get_or columns p no_column inside in
    let same : get_or columns p no_column ≡ c = cc in
    subst (λ (c : ColumnParts). IsTrue (is_kind c.kind)) same (all p no_column inside).typed

passes_at : (columns : List ColumnParts) (p code : ℕ) (o : Option ColumnParts) → All IsColumn columns → slice_get columns p ≡ o → IsCodeIn o code → is_code o code ≡ true
passes_at columns p code None all h is = refl
passes_at columns p code (Some c) all h is = code_passes c code (typed_at columns p c all h) is

fails_at : (columns : List ColumnParts) (p code : ℕ) (o : Option ColumnParts) → All IsColumn columns → slice_get columns p ≡ o → (IsCodeIn o code → ⊥) → (b : Bool) → is_code o code ≡ b → b ≡ false
fails_at columns p code o all h never false e = refl
fails_at columns p code None all h never true e = absurd (never tt)
fails_at columns p code (Some c) all h never true e = absurd (never (passing_is_code c code (typed_at columns p c all h) e))

-- ---- codes one after another

-- codes of which each is that of a value are these
all_codes : (schema : SchemaParts) → All IsColumn schema.columns → (i : ℕ) (marks codes : List ℕ) → length marks ≡ length codes
    → ((k : ℕ) → k < length codes → IsCodeAt schema marks codes k) → codes_from i schema marks codes ≡ Ok codes
all_codes schema all i [] [] n h = refl
all_codes schema all i [] (c ∷ cs) n h = absurd (omega arith)
all_codes schema all i (p ∷ ps) [] n h = absurd (omega arith)
all_codes schema all i (p ∷ ps) (c ∷ cs) n h =
    let here : is_code (slice_get schema.columns p) c ≡ true = passes_at schema.columns p c (slice_get schema.columns p) all refl (h 0 (omega arith)) in
    let rest : codes_from (i + 1) schema ps cs ≡ Ok cs = all_codes schema all (i + 1) ps cs (omega arith) (λ k b. h (suc k) (omega arith)) in
    rw (here, rest) refl

-- the first that is the code of no value is the fault
first_bad : (schema : SchemaParts) → All IsColumn schema.columns → (i : ℕ) (marks codes : List ℕ) (k : ℕ) → length marks ≡ length codes → k < length codes
    → ((j : ℕ) → j < k → IsCodeAt schema marks codes j) → (IsCodeAt schema marks codes k → ⊥) → codes_from i schema marks codes ≡ Err (BadCode (i + k))
first_bad schema all i [] codes k n below good bad = absurd (omega arith)
first_bad schema all i (p ∷ ps) [] k n below good bad = absurd (omega arith)
first_bad schema all i (p ∷ ps) (c ∷ cs) zero n below good bad =
    let here : is_code (slice_get schema.columns p) c ≡ false = fails_at schema.columns p c (slice_get schema.columns p) all refl bad (is_code (slice_get schema.columns p) c) refl in
    rw here (ap (λ m. Err (BadCode m)) (omega arith))
first_bad schema all i (p ∷ ps) (c ∷ cs) (suc k) n below good bad =
    let here : is_code (slice_get schema.columns p) c ≡ true = passes_at schema.columns p c (slice_get schema.columns p) all refl (good 0 (omega arith)) in
    let rest : codes_from (i + 1) schema ps cs ≡ Err (BadCode ((i + 1) + k)) =
    first_bad schema all (i + 1) ps cs k (omega arith) (omega arith) (λ j b. good (suc j) (omega arith)) bad
    in
    rw (here, rest) (ap (λ m. Err (BadCode m)) (omega arith))

-- ---- the number of codes

-- no fault of the number means that it is right
no_fault : {A : Type 0} (t u : Bool) (x y : A) → cond t (Some x) (cond u None (Some y)) ≡ None → u ≡ true
no_fault true u x y h = absurd cc
no_fault false true x y h = refl
no_fault false false x y h = absurd cc

right_count : (marks had : ℕ) → count_fault marks had ≡ None → marks ≡ had
right_count marks had h =
    eqb-true marks had (no_fault (nat_lt 255 marks) (eqb marks had) (Count 256 (min had (2 ^ 32 - 1))) (Count marks (min had (2 ^ 32 - 1))) h)

-- ---- what was answered

taken : (q : QueryParts) (schema : SchemaParts) (codes params : List ℕ) → IsSchema schema → TakesCodes (Ok params) q schema codes → codes_in q schema codes ≡ Ok params
taken q schema codes params s takes =
    let marks = marks_of schema q.branches in
    let same = right_count (length marks) (length codes) takes.1 in
    ap (λ f. fault_or f (codes_from 0 schema marks codes)) takes.1 ∙ all_codes schema s.columns 0 marks codes same takes.2 ∙ ap Ok (sym takes.0)

bad : (q : QueryParts) (schema : SchemaParts) (codes : List ℕ) (i : ℕ) → IsSchema schema → TakesCodes (Err (BadCode i)) q schema codes → codes_in q schema codes ≡ Err (BadCode i)
bad q schema codes i s takes =
    let marks = marks_of schema q.branches in
    let same = right_count (length marks) (length codes) takes.0 in
    ap (λ f. fault_or f (codes_from 0 schema marks codes)) takes.0 ∙ first_bad schema s.columns 0 marks codes i same takes.1 takes.2 takes.3
    ∙ ap (λ m. Err (BadCode m)) (omega arith)

-- what was answered to codes is what they are
pub answers_codes : (q : QueryParts) (schema : SchemaParts) (codes : List ℕ) (r : Result (List ℕ) ParamFault) → IsSchema schema → TakesCodes r q schema codes → Answers r (codes_in q schema codes)
answers_codes q schema codes (Ok params) s takes = taken q schema codes params s takes
answers_codes q schema codes (Err OutOfMemory) s takes = tt
answers_codes q schema codes (Err (BadCode i)) s takes = bad q schema codes i s takes
answers_codes q schema codes (Err (Count needed had)) s takes = ap (λ f. fault_or f (codes_from 0 schema (marks_of schema q.branches) codes)) takes
answers_codes q schema codes (Err (fault.Value i e)) s takes = absurd takes

-- ---- codes of words

record Both (a : Result ℕ ParamFault) (b : Result (List ℕ) ParamFault) (codes : List ℕ) : Type 0 where
  code : ℕ
  rest : List ℕ
  first : a ≡ Ok code
  later : b ≡ Ok rest
  whole : codes ≡ code ∷ rest

before_both : (a : Result ℕ ParamFault) (b : Result (List ℕ) ParamFault) (codes : List ℕ) → before a b ≡ Ok codes → Both a b codes
before_both (Err e) b codes h = absurd cc
before_both (Ok c) (Err e) codes h = absurd cc
before_both (Ok c) (Ok cs) codes h = record { code = c; rest = cs; first = refl; later = refl; whole = cc }

read_passes : (c : ColumnParts) (i code : ℕ) (word : List ℕ) (r : Result Value ValueFault) → IsTrue (is_kind c.kind) → value_of_text c.kind word ≡ r → read_code c.kind i r ≡ Ok code → is_code (Some c) code ≡ true
read_passes c i code word (Ok v) typed e k =
    let same : code_of c.kind v ≡ code = cc in
    subst (λ n. is_code (Some c) n ≡ true) same (value_passes c v typed (read_values_fit c.kind word v typed e))
read_passes c i code word (Err f) typed e k = absurd cc

word_passes : (columns : List ColumnParts) (p i code : ℕ) (word : List ℕ) (o : Option ColumnParts) → All IsColumn columns → slice_get columns p ≡ o → word_code i o word ≡ Ok code → is_code o code ≡ true
word_passes columns p i code word None all h e = refl
word_passes columns p i code word (Some c) all h e = read_passes c i code word (value_of_text c.kind word) (typed_at columns p c all h) refl e

-- the codes of words pass, and are as many
record Pass (schema : SchemaParts) (i : ℕ) (marks codes : List ℕ) : Type 0 where
  codes_are : codes_from i schema marks codes ≡ Ok codes
  count : length codes ≡ length marks

words_pass : (schema : SchemaParts) → All IsColumn schema.columns → (i : ℕ) (marks : List ℕ) (words : List (List ℕ)) (codes : List ℕ) → word_codes i schema marks words ≡ Ok codes → length marks ≡ length words → Pass schema i marks codes
words_pass schema all i [] words [] h n = record { codes_are = refl; count = refl }
words_pass schema all i [] words (c ∷ cs) h n = absurd cc
words_pass schema all i (p ∷ ps) [] codes h n = absurd (omega arith)
words_pass schema all i (p ∷ ps) (w ∷ ws) codes h n =
    let both = before_both (word_code i (slice_get schema.columns p) w) (word_codes (i + 1) schema ps ws) codes h in
    let here : is_code (slice_get schema.columns p) both.code ≡ true = word_passes schema.columns p i both.code w (slice_get schema.columns p) all refl both.first in
    let rest = words_pass schema all (i + 1) ps ws both.rest both.later (omega arith) in
    rw both.whole (record { codes_are = rw (here, rest.codes_are) refl; count = ap suc rest.count })

record NoFault (fault : Option ParamFault) (codes : Result (List ℕ) ParamFault) (params : List ℕ) : Type 0 where
  none : fault ≡ None
  codes_are : codes ≡ Ok params

passed : (fault : Option ParamFault) (codes : Result (List ℕ) ParamFault) (params : List ℕ) → fault_or fault codes ≡ Ok params → NoFault fault codes params
passed None codes params h = record { none = refl; codes_are = h }
passed (Some e) codes params h = absurd cc

-- the codes that words give are taken as codes
pub words_are_codes : (q : QueryParts) (schema : SchemaParts) (words : List (List ℕ)) (codes : List ℕ) → IsSchema schema → params_of_words q schema words ≡ Ok codes → codes_in q schema codes ≡ Ok codes
words_are_codes q schema words codes s e =
    let marks = marks_of schema q.branches in
    let parts = passed (count_fault (length marks) (length words)) (word_codes 0 schema marks words) codes e in
    let same = right_count (length marks) (length words) parts.none in
    let pass = words_pass schema s.columns 0 marks words codes parts.codes_are same in
    let long : length codes ≡ length words = pass.count ∙ same in
    let none : count_fault (length marks) (length codes) ≡ None = ap (count_fault (length marks)) long ∙ parts.none in
    ap (λ f. fault_or f (codes_from 0 schema marks codes)) none ∙ pass.codes_are
