-- Parameters that are given are at most 255.
use Rattle.std.proofs.Common.{◌≡◌, ℕ, suc, ◌+◌, ◌-◌, ◌^◌, ◌≤◌, Bool, true, false, cond, eqb, nat_lt, min, List, [], ◌∷◌, length, Option, Some, None, Result, Ok, Err, refl, sym, ap, arith}
use Rattle.std.specs.Prelude.{slice_get}
use Rattle.std.proofs.lemmas.Bool.{eqb-true}
use Rattle.std.proofs.lemmas.Bool.Decides.{nat_tests}
use Rattle.spl_values.specs.Shapes.{SchemaParts}
use Rattle.query_grammar.specs.Queries.{QueryParts}
use Rattle.query_reader.specs.declared.params.ParamFault.{ParamFault}
use Rattle.query_reader.specs.declared.params.ParamFault.TheVariants.{Count}
use Rattle.query_reader.specs.Params.{marks_of, count_fault, before, word_code, word_codes, fault_or, params_of_words, TakesCodes}

not_over : {A : Type 0} (over same : Bool) (x y : A) → cond over (Some x) (cond same None (Some y)) ≡ None → over ≡ false
not_over true same x y h = absurd cc
not_over false same x y h = refl

at_most : (n : ℕ) → nat_lt 255 n ≡ false → n ≤ 255
at_most n h = grind (arith, nat_tests)

few_marks : (marks had : ℕ) → count_fault marks had ≡ None → marks ≤ 255
few_marks marks had h = at_most marks (not_over (nat_lt 255 marks) (eqb marks had) (Count 256 (min had (2 ^ 32 - 1))) (Count marks (min had (2 ^ 32 - 1))) h)

matched : {A : Type 0} (over same : Bool) (x y : A) → cond over (Some x) (cond same None (Some y)) ≡ None → same ≡ true
matched true same x y h = absurd cc
matched false true x y h = refl
matched false false x y h = absurd cc

same_counts : (marks had : ℕ) → count_fault marks had ≡ None → marks ≡ had
same_counts marks had h = eqb-true marks had (matched (nat_lt 255 marks) (eqb marks had) (Count 256 (min had (2 ^ 32 - 1))) (Count marks (min had (2 ^ 32 - 1))) h)

-- the codes behind the first
behind_first : (first : Result ℕ ParamFault) (more : Result (List ℕ) ParamFault) (codes : List ℕ) → before first more ≡ Ok codes → (rest : List ℕ) × ((more ≡ Ok rest) × (length codes ≡ suc (length rest)))
behind_first (Err e) more codes h = absurd cc
behind_first (Ok c) (Err e) codes h = absurd cc
behind_first (Ok c) (Ok cs) codes h = let same : c ∷ cs ≡ codes = cc in (cs, (refl, sym (ap length same)))

codes_few : (i : ℕ) (schema : SchemaParts) (marks : List ℕ) (words : List (List ℕ)) (codes : List ℕ) → word_codes i schema marks words ≡ Ok codes → length codes ≤ length marks
codes_few i schema [] words codes h = let same : [] ≡ codes = cc in omega (arith, ap length same)
codes_few i schema (p ∷ ps) [] codes h = let same : [] ≡ codes = cc in omega (arith, ap length same)
codes_few i schema (p ∷ ps) (w ∷ ws) codes h =
    let rest = behind_first (word_code i (slice_get schema.columns p) w) (word_codes (i + 1) schema ps ws) codes h in
    let more = codes_few (i + 1) schema ps ws rest.0 rest.1.0 in
    omega (arith, rest.1.1, more)

unfaulted : (fault : Option ParamFault) (codes : Result (List ℕ) ParamFault) (params : List ℕ) → fault_or fault codes ≡ Ok params → (fault ≡ None) × (codes ≡ Ok params)
unfaulted None codes params h = (refl, h)
unfaulted (Some e) codes params h = absurd cc

pub words_few : (q : QueryParts) (schema : SchemaParts) (words : List (List ℕ)) (params : List ℕ) → params_of_words q schema words ≡ Ok params → length params ≤ 255
words_few q schema words params h =
    let marks = marks_of schema q.branches in
    let parts = unfaulted (count_fault (length marks) (length words)) (word_codes 0 schema marks words) params h in
    omega (arith, codes_few 0 schema marks words params parts.1, few_marks (length marks) (length words) parts.0)

pub taken_few : (q : QueryParts) (schema : SchemaParts) (codes params : List ℕ) → TakesCodes (Ok params) q schema codes → length params ≤ 255
taken_few q schema codes params h =
    let marks = marks_of schema q.branches in
    omega (arith, ap length h.0, few_marks (length marks) (length codes) h.1, same_counts (length marks) (length codes) h.1)
