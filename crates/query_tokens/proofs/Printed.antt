-- Tokens that were written are read again.
use Rattle.std.proofs.Common.{◌≡◌, ℕ, suc, pred, ◌+◌, ◌-◌, ◌*◌, ◌/◌, ◌%◌, ◌^◌, ◌≤◌, ◌<◌, Bool, true, false, not, ◌&&◌, ◌||◌, List, [], ◌∷◌, ◌++◌, length, take, drop, cond, Option, Some, None, option_map, unwrap_or, get_or, eqb, nat_lt, refl, sym, ◌∙◌, ap, arith, length-append, codes, append_assoc}
use Rattle.std.proofs.Math.Seq.{take-append_seam}
use Rattle.std.proofs.lemmas.List.Sums.{take_while-cons}
use Rattle.std.proofs.lemmas.List.Folds.{list_all-append}
use Rattle.std.proofs.lemmas.Fmt.{decimal_by_steps}
use Rattle.std.proofs.lemmas.Bool.{eqb-true}
use Rattle.std.proofs.lemmas.Bool.Decides.{nat_tests}
use Rattle.std.specs.List.{take_while, list_all}
use Rattle.std.specs.Fmt as fmt
use Rattle.query_grammar.specs.declared.token.Aggregate.{Aggregate as TheAggregate}
use Rattle.query_grammar.specs.declared.token.Aggregate.TheVariants as aggregate
use Rattle.query_grammar.specs.declared.token.Symbol.{Symbol}
use Rattle.query_grammar.specs.declared.token.Symbol.TheVariants as symbol
use Rattle.query_grammar.specs.declared.token.Token.{Token}
use Rattle.query_grammar.specs.declared.token.Token.TheVariants.{Symbol as TheSymbol, Aggregate, Name, Number, Text, Nothing}
use Rattle.query_tokens.specs.declared.lexer.Lexeme.{Lexeme}
use Rattle.spl_values.specs.Names.{is_name_start, is_name_byte}
use Rattle.spl_values.specs.Kinds.{is_printable}
use Rattle.query_tokens.specs.Lexing.{is_blank, is_digit, symbol_of, decimal, below_end}
use Rattle.query_tokens.specs.Tokens.{same_word, lexeme, lexeme_with, word_lexeme, word_token, number_lexeme, text_lexeme, text_end, undoubled, place, lexed, tokens_in}
use Rattle.query_tokens.specs.Printing.{symbol_text, doubled, spelled, CanStand, AllCanStand, opens, closes, parts, of_symbol, calls, gap, space, printed_behind, printed, Ends}
use Rattle.query_grammar.specs.Faults.{tokens_of}
use Rattle.query_tokens.proofs.Names.{name_parts}
use Rattle.query_grammar.proofs.AtomLists.{both}
use Rattle.query_tokens.proofs.TokensAgain.{passes}

abbrev EndsRun : (ℕ → Bool) → List ℕ → Type 0
EndsRun p [] = Unit {0}
EndsRun p (b ∷ bs) = p b ≡ false

run_ends : (p : ℕ → Bool) (rest : List ℕ) → EndsRun p rest → take_while p rest ≡ []
run_ends p [] e = refl
run_ends p (b ∷ bs) e = take_while-cons p b bs ∙ ap (λ t. cond t (b ∷ take_while p bs) []) e

whole : (p : ℕ → Bool) (w rest : List ℕ) → list_all p w ≡ true → EndsRun p rest → take_while p (w ++ rest) ≡ w
whole p [] rest all e = run_ends p rest e
whole p (b ∷ w) rest all e =
    let h = both (p b) (list_all p w) all in
    take_while-cons p b (w ++ rest) ∙ ap (λ t. cond t (b ∷ take_while p (w ++ rest)) []) h.0 ∙ ap (λ l. b ∷ l) (whole p w rest h.1 e)

neither : (a b : Bool) → (a || b) ≡ false → (a ≡ false) × (b ≡ false)
neither false b h = (refl, h)
neither true b h = cc

ends_word : (rest : List ℕ) → Ends rest → EndsRun is_name_byte rest
ends_word [] e = tt
ends_word (b ∷ bs) e = e.0

ends_digits : (rest : List ℕ) → Ends rest → EndsRun is_digit rest
ends_digits [] e = tt
ends_digits (b ∷ bs) e = (neither (is_name_start b) (is_digit b) e.0).1

digit_no_letter : (b : ℕ) → is_digit b ≡ true → is_name_start b ≡ false
digit_no_letter b h = grind (arith, nat_tests)

pick_first : (a : Bool) (k r : Option Lexeme) → a ≡ true → cond a k r ≡ k
pick_first true k r e = refl
pick_first false k r e = cc

pick_rest : (a : Bool) (k r : Option Lexeme) → a ≡ false → cond a k r ≡ r
pick_rest false k r e = refl
pick_rest true k r e = cc

abbrev from_symbol : List ℕ → Option Lexeme
from_symbol bs = option_map (λ s. lexeme_with (TheSymbol s) 0) (symbol_of (get_or bs 0 0))

abbrev from_quote : List ℕ → Option Lexeme
from_quote bs = cond (eqb (get_or bs 0 0) 39) (text_lexeme (drop 1 bs)) (from_symbol bs)

abbrev from_digit : List ℕ → Option Lexeme
from_digit bs = cond (is_digit (get_or bs 0 0)) (number_lexeme (take_while is_digit bs)) (from_quote bs)

at_letter : (bs : List ℕ) → is_name_start (get_or bs 0 0) ≡ true → lexeme bs ≡ word_lexeme (take_while is_name_byte bs)
unfolding lexeme
at_letter bs f = pick_first (is_name_start (get_or bs 0 0)) (word_lexeme (take_while is_name_byte bs)) (from_digit bs) f

at_digit : (bs : List ℕ) → is_name_start (get_or bs 0 0) ≡ false → is_digit (get_or bs 0 0) ≡ true → lexeme bs ≡ number_lexeme (take_while is_digit bs)
unfolding lexeme
at_digit bs f g = pick_rest (is_name_start (get_or bs 0 0)) (word_lexeme (take_while is_name_byte bs)) (from_digit bs) f ∙ pick_first (is_digit (get_or bs 0 0)) (number_lexeme (take_while is_digit bs)) (from_quote bs) g

-- a word
word_again : (w rest : List ℕ) → is_name_start (get_or w 0 0) ≡ true → list_all is_name_byte w ≡ true → length w ≤ 32 → Ends rest → lexeme (w ++ rest) ≡ Some (lexeme_with (word_token w) (pred (length w)))
word_again [] rest f all short e = cc
word_again (b ∷ w) rest f all short e =
    let t = whole is_name_byte (b ∷ w) rest all (ends_word rest e) in
    let s : nat_lt 32 (length (b ∷ w)) ≡ false = grind (arith, nat_tests) in
    at_letter (b ∷ (w ++ rest)) f ∙ ap word_lexeme t ∙ ap (λ x. cond x None (Some (lexeme_with (word_token (b ∷ w)) (length w)))) s

-- a number
number_again : (ds rest : List ℕ) (n : ℕ) → 0 < length ds → list_all is_digit ds ≡ true → decimal 0 ds ≡ n → n < 2 ^ 64 → Ends rest → lexeme (ds ++ rest) ≡ Some (lexeme_with (Number n) (pred (length ds)))
number_again [] rest n some all v small e = absurd (omega arith)
number_again (b ∷ ds) rest n some all v small e =
    let h = both (is_digit b) (list_all is_digit ds) all in
    let l = digit_no_letter b h.0 in
    let t = whole is_digit (b ∷ ds) rest all (ends_digits rest e) in
    let s : nat_lt n (2 ^ 64) ≡ true = grind (arith, nat_tests) in
    at_digit (b ∷ (ds ++ rest)) l h.0 ∙ (ap number_lexeme t ∙ ap (λ k. option_map (λ m. lexeme_with (Number m) (length ds)) (below_end k)) v ∙ ap (λ x. option_map (λ m. lexeme_with (Number m) (length ds)) (cond x (Some n) None)) s)

-- the digits of a number
pub record Digits (n : ℕ) (ds : List ℕ) : Type 0 where
  pub some : 0 < length ds
  pub digits : list_all is_digit ds ≡ true
  pub value : decimal 0 ds ≡ n

decimal_push : (m d : ℕ) (ds : List ℕ) → decimal m (ds ++ d ∷ []) ≡ decimal m ds * 10 + (d - 48)
decimal_push m d [] = refl
decimal_push m d (c ∷ ds) = decimal_push (m * 10 + (c - 48)) d ds

small_digit : (d : ℕ) → d < 10 → is_digit (48 + d) ≡ true
small_digit d h = grind (arith, nat_tests)

digits_one : (n : ℕ) → n < 10 → Digits n ((48 + n) ∷ [])
digits_one n h = record { some = omega arith; digits = rw (small_digit n h) refl; value = omega arith }

digits_more : (n : ℕ) (ds : List ℕ) → 10 ≤ n → Digits (n / 10) ds → Digits n (ds ++ ((48 + n % 10) ∷ []))
digits_more n ds h d =
    let s : is_digit (48 + n % 10) ≡ true = small_digit (n % 10) (omega arith) in
    record {
      some = omega (arith, length-append ds ((48 + n % 10) ∷ []));
      digits = list_all-append is_digit ds ((48 + n % 10) ∷ []) ∙ rw (d.digits, s) refl;
      value = decimal_push 0 (48 + n % 10) ds ∙ rw d.value (omega arith);
    }

pub digits_of : (n : ℕ) → n < 2 ^ 64 → Digits n (fmt.decimal n)
digits_of n h = decimal_by_steps Digits digits_one digits_more n h

-- a text
ends_here : (rest : List ℕ) → Ends rest → text_end true rest ≡ None
ends_here [] e = refl
ends_here (b ∷ bs) e = rw e.1 refl

end_step : (q : Bool) (b : ℕ) (d r : List ℕ) → eqb b 39 ≡ q → is_printable b ≡ true → text_end false (d ++ r) ≡ Some (suc (length d)) → text_end false (cond q (39 ∷ 39 ∷ d) (b ∷ d) ++ r) ≡ Some (suc (length (cond q (39 ∷ 39 ∷ d) (b ∷ d))))
end_step true b d r e p h = ap (λ o. Some (suc (unwrap_or (option_map suc o) 0))) h
end_step false b d r e p h = rw (e, p) (ap (option_map suc) h)

end_doubled : (t rest : List ℕ) → list_all is_printable t ≡ true → Ends rest → text_end false (doubled t ++ 39 ∷ rest) ≡ Some (suc (length (doubled t)))
end_doubled [] rest all e = ap (λ o. Some (suc (unwrap_or o 0))) (ends_here rest e)
end_doubled (b ∷ t) rest all e =
    let h = both (is_printable b) (list_all is_printable t) all in
    end_step (eqb b 39) b (doubled t) (39 ∷ rest) refl h.0 (end_doubled t rest h.1 e)

undoubled_step : (q : Bool) (b : ℕ) (d t : List ℕ) → eqb b 39 ≡ q → undoubled false d ≡ t → undoubled false (cond q (39 ∷ 39 ∷ d) (b ∷ d)) ≡ b ∷ t
undoubled_step true b d t e h = let x = eqb-true b 39 e in cc
undoubled_step false b d t e h = rw e (ap (λ l. b ∷ l) h)

undoubled_again : (t : List ℕ) → undoubled false (doubled t) ≡ t
undoubled_again [] = refl
undoubled_again (b ∷ t) = undoubled_step (eqb b 39) b (doubled t) t refl (undoubled_again t)

seamed : (a b c : List ℕ) → (a ++ b) ++ c ≡ a ++ (b ++ c)
seamed a b c = simp append_assoc

text_again : (t rest : List ℕ) → list_all is_printable t ≡ true → Ends rest → lexeme ((39 ∷ doubled t ++ 39 ∷ []) ++ rest) ≡ Some (lexeme_with (Text t) (suc (length (doubled t))))
unfolding lexeme
text_again t rest all e =
    let d = doubled t in
    ap text_lexeme (seamed d (39 ∷ []) rest)
    ∙ ap (option_map (λ n. lexeme_with (Text (undoubled false (take (pred n) (d ++ 39 ∷ rest)))) n)) (end_doubled t rest all e)
    ∙ ap (λ l. Some (lexeme_with (Text (undoubled false l)) (suc (length d)))) (take-append_seam d (39 ∷ rest))
    ∙ ap (λ l. Some (lexeme_with (Text l) (suc (length d)))) (undoubled_again t)

-- from a lexeme to a token
pub token_then : (w rest : List ℕ) (at : ℕ) (t : Token) → is_blank (get_or w 0 0) ≡ false → 0 < length w → lexeme (w ++ rest) ≡ Some (lexeme_with t (pred (length w))) → lexed 0 at (w ++ rest) ≡ place t at ∷ lexed 0 (at + length w) rest
token_then [] rest at t b h e = absurd (omega arith)
token_then (c ∷ w) rest at t b h e =
    let s : at + 1 + length w ≡ at + suc (length w) = omega arith in
    rw (b, e) (ap (λ l. place t at ∷ l) (passes w rest (at + 1) ∙ ap (λ n. lexed 0 n rest) s))

-- what a token becomes again
abbrev Again : Token → List ℕ → Type 0
Again t rest = (is_blank (get_or (spelled t) 0 0) ≡ false) × (0 < length (spelled t)) × (lexeme (spelled t ++ rest) ≡ Some (lexeme_with t (pred (length (spelled t)))))

abbrev Follows : Token → List ℕ → Type 0
Follows t rest = of_symbol opens t ≡ false → Ends rest

reserved_again : (w rest : List ℕ) (t : Token) → is_name_start (get_or w 0 0) ≡ true → list_all is_name_byte w ≡ true → length w ≤ 32 → word_token w ≡ t → Ends rest → lexeme (w ++ rest) ≡ Some (lexeme_with t (pred (length w)))
reserved_again w rest t f all short is e = word_again w rest f all short e ∙ ap (λ k. Some (lexeme_with k (pred (length w)))) is

symbol_again : (s : Symbol) (rest : List ℕ) → Follows (TheSymbol s) rest → Again (TheSymbol s) rest
unfolding lexeme same_word
symbol_again symbol.Select rest e = (refl, omega arith, reserved_again (codes "SELECT") rest (TheSymbol symbol.Select) refl refl (omega arith) refl (e refl))
symbol_again symbol.From rest e = (refl, omega arith, reserved_again (codes "FROM") rest (TheSymbol symbol.From) refl refl (omega arith) refl (e refl))
symbol_again symbol.Where rest e = (refl, omega arith, reserved_again (codes "WHERE") rest (TheSymbol symbol.Where) refl refl (omega arith) refl (e refl))
symbol_again symbol.And rest e = (refl, omega arith, reserved_again (codes "AND") rest (TheSymbol symbol.And) refl refl (omega arith) refl (e refl))
symbol_again symbol.Or rest e = (refl, omega arith, reserved_again (codes "OR") rest (TheSymbol symbol.Or) refl refl (omega arith) refl (e refl))
symbol_again symbol.Between rest e = (refl, omega arith, reserved_again (codes "BETWEEN") rest (TheSymbol symbol.Between) refl refl (omega arith) refl (e refl))
symbol_again symbol.Group rest e = (refl, omega arith, reserved_again (codes "GROUP") rest (TheSymbol symbol.Group) refl refl (omega arith) refl (e refl))
symbol_again symbol.By rest e = (refl, omega arith, reserved_again (codes "BY") rest (TheSymbol symbol.By) refl refl (omega arith) refl (e refl))
symbol_again symbol.Count rest e = (refl, omega arith, reserved_again (codes "COUNT") rest (TheSymbol symbol.Count) refl refl (omega arith) refl (e refl))
symbol_again symbol.TopK rest e = (refl, omega arith, reserved_again (codes "TOPK") rest (TheSymbol symbol.TopK) refl refl (omega arith) refl (e refl))
symbol_again symbol.Open rest e = (refl, omega arith, refl)
symbol_again symbol.Close rest e = (refl, omega arith, refl)
symbol_again symbol.Comma rest e = (refl, omega arith, refl)
symbol_again symbol.Star rest e = (refl, omega arith, refl)
symbol_again symbol.Equals rest e = (refl, omega arith, refl)
symbol_again symbol.Question rest e = (refl, omega arith, refl)
symbol_again symbol.Semicolon rest e = (refl, omega arith, refl)

aggregate_again : (o : TheAggregate) (rest : List ℕ) → Ends rest → Again (Aggregate o) rest
unfolding same_word
aggregate_again aggregate.Sum rest e = (refl, omega arith, reserved_again (codes "SUM") rest (Aggregate aggregate.Sum) refl refl (omega arith) refl e)
aggregate_again aggregate.Avg rest e = (refl, omega arith, reserved_again (codes "AVG") rest (Aggregate aggregate.Avg) refl refl (omega arith) refl e)
aggregate_again aggregate.Max rest e = (refl, omega arith, reserved_again (codes "MAX") rest (Aggregate aggregate.Max) refl refl (omega arith) refl e)
aggregate_again aggregate.Min rest e = (refl, omega arith, reserved_again (codes "MIN") rest (Aggregate aggregate.Min) refl refl (omega arith) refl e)

letter_no_blank : (b : ℕ) → is_name_start b ≡ true → is_blank b ≡ false
letter_no_blank b h = grind (arith, nat_tests)

digit_no_blank : (b : ℕ) → is_digit b ≡ true → is_blank b ≡ false
digit_no_blank b h = grind (arith, nat_tests)

first_some : (w : List ℕ) → is_name_start (get_or w 0 0) ≡ true → 0 < length w
first_some [] h = cc
first_some (b ∷ w) h = omega arith

digits_no_blank : (ds : List ℕ) → 0 < length ds → list_all is_digit ds ≡ true → is_blank (get_or ds 0 0) ≡ false
digits_no_blank [] h all = absurd (omega arith)
digits_no_blank (b ∷ ds) h all = digit_no_blank b (both (is_digit b) (list_all is_digit ds) all).0

text_length : (d : List ℕ) → pred (length (39 ∷ d ++ 39 ∷ [])) ≡ suc (length d)
text_length d = length-append d (39 ∷ []) ∙ omega arith

again : (t : Token) (rest : List ℕ) → CanStand t → Follows t rest → Again t rest
again (TheSymbol s) rest can e = symbol_again s rest e
again (Aggregate o) rest can e = aggregate_again o rest (e refl)
again (Name w) rest can e =
    let n = name_parts w can in
    (letter_no_blank (get_or w 0 0) n.first, first_some w n.first, reserved_again w rest (Name w) n.first n.bytes n.short n.free (e refl))
again (Number n) rest can e =
    let d = digits_of n can in
    (digits_no_blank (fmt.decimal n) d.some d.digits, d.some, number_again (fmt.decimal n) rest n d.some d.digits d.value can (e refl))
again (Text t) rest can e =
    (refl, omega arith, text_again t rest can (e refl) ∙ ap (λ n. Some (lexeme_with (Text t) n)) (sym (text_length (doubled t))))
again Nothing rest can e = absurd can

-- before these tokens stands no space, or they end what stands before them
symbol_hugs : (s : Symbol) (more : List ℕ) → (closes s || (parts s || opens s)) ≡ true → Ends (symbol_text s ++ more)
symbol_hugs symbol.Open more h = (refl, refl)
symbol_hugs symbol.Close more h = (refl, refl)
symbol_hugs symbol.Comma more h = (refl, refl)
symbol_hugs symbol.Select more h = cc
symbol_hugs symbol.From more h = cc
symbol_hugs symbol.Where more h = cc
symbol_hugs symbol.And more h = cc
symbol_hugs symbol.Or more h = cc
symbol_hugs symbol.Between more h = cc
symbol_hugs symbol.Group more h = cc
symbol_hugs symbol.By more h = cc
symbol_hugs symbol.Count more h = cc
symbol_hugs symbol.TopK more h = cc
symbol_hugs symbol.Star more h = cc
symbol_hugs symbol.Equals more h = cc
symbol_hugs symbol.Question more h = cc
symbol_hugs symbol.Semicolon more h = cc

token_hugs : (u : Token) (more : List ℕ) → (of_symbol closes u || (of_symbol parts u || of_symbol opens u)) ≡ true → Ends (spelled u ++ more)
token_hugs (TheSymbol s) more h = symbol_hugs s more h
token_hugs (Aggregate o) more h = cc
token_hugs (Name w) more h = cc
token_hugs (Number n) more h = cc
token_hugs (Text t) more h = cc
token_hugs Nothing more h = cc

no_gap : (a b c d e : Bool) → not (a || (b || (c || (d && e)))) ≡ false → a ≡ false → (b || (c || e)) ≡ true
no_gap true b c d e h o = cc
no_gap false true c d e h o = refl
no_gap false false true d e h o = refl
no_gap false false false true true h o = refl
no_gap false false false true false h o = cc
no_gap false false false false e h o = cc

spaced : (g : Bool) (x : List ℕ) → (g ≡ false → Ends x) → Ends (space g ++ x)
spaced true x f = (refl, refl)
spaced false x f = f refl

follows : (t : Token) (us : List Token) → Follows t (printed_behind t us)
follows t [] o = tt
follows t (u ∷ us) o =
    spaced (gap t u) (spelled u ++ printed_behind u us)
    (λ g. token_hugs u (printed_behind u us) (no_gap (of_symbol opens t) (of_symbol closes u) (of_symbol parts u) (calls t) (of_symbol opens u) g o))

token_here : (t : Token) (us : List Token) (at : ℕ) → CanStand t → lexed 0 at (spelled t ++ printed_behind t us) ≡ place t at ∷ lexed 0 (at + length (spelled t)) (printed_behind t us)
token_here t us at can =
    let a = again t (printed_behind t us) can (follows t us) in
    token_then (spelled t) (printed_behind t us) at t a.0 a.1 a.2

aggregate_space : (g : Bool) (at : ℕ) (x : List ℕ) (us : List Token) → ((n : ℕ) → tokens_of (lexed 0 n x) ≡ us) → tokens_of (lexed 0 at (space g ++ x)) ≡ us
aggregate_space true at x us f = f (at + 1)
aggregate_space false at x us f = f at

behind_again : (t : Token) (us : List Token) → AllCanStand us → (at : ℕ) → tokens_of (lexed 0 at (printed_behind t us)) ≡ us
behind_again t [] all at = refl
behind_again t (u ∷ us) all at =
    aggregate_space (gap t u) at (spelled u ++ printed_behind u us) (u ∷ us)
    (λ n. ap tokens_of (token_here u us n all.0) ∙ ap (λ l. u ∷ l) (behind_again u us all.1 (n + length (spelled u))))

pub printed_again : (ts : List Token) → AllCanStand ts → tokens_of (tokens_in (printed ts)) ≡ ts
unfolding tokens_in
printed_again [] all = refl
printed_again (t ∷ ts) all = ap tokens_of (token_here t ts 0 all.0) ∙ ap (λ l. t ∷ l) (behind_again t ts all.1 (0 + length (spelled t)))
