-- Reading a text byte by byte.
use Rattle.std.proofs.Common.{◌≡◌, ℕ, zero, suc, pred, ◌+◌, ◌-◌, ◌≤◌, ◌<◌, Bool, true, false, List, [], ◌∷◌, length, cond, Option, Some, None, option_map, unwrap_or, get_or, take, drop, eqb, nat_lt, length-drop, refl, sym, ◌∙◌, ap, arith, add-one, drop-cons}
use Rattle.std.proofs.Math.Seq.{take-length}
use Rattle.std.proofs.Math.ListN.{drop_of_length-le}
use Rattle.std.proofs.lemmas.List.{length-take}
use Rattle.std.proofs.lemmas.List.Sums.{take_while-cons}
use Rattle.std.specs.List.{take_while, prefix_len, list_all}
use Rattle.query_grammar.specs.declared.token.Token.{Token}
use Rattle.query_grammar.specs.declared.token.Token.TheVariants.{Symbol as TheSymbol, Number, Text, Nothing}
use Rattle.query_tokens.specs.declared.lexer.Lexeme.{Lexeme}
use Rattle.spl_values.specs.Names.{is_name_start, is_name_byte}
use Rattle.spl_values.specs.Kinds.{is_printable}
use Rattle.query_tokens.specs.Lexing.{is_blank, is_digit, symbol_of, decimal, below_end}
use Rattle.query_tokens.specs.Tokens.{lexeme, lexeme_with, word_lexeme, word_token, number_lexeme, text_lexeme, place, lexed, text_end, undoubled}

-- the last end: before i, or i and more
abbrev pub end_behind : Option ℕ → ℕ → Option ℕ → Option ℕ
end_behind before i None = before
end_behind before i (Some n) = Some (i + n)

pub drop_nil : (k : ℕ) → drop {A = ℕ} k [] ≡ []
drop_nil zero = refl
drop_nil (suc k) = refl

pub passed : (k at : ℕ) (bs : List ℕ) → lexed k at bs ≡ lexed 0 (at + k) (drop k bs)
passed zero at bs = ap (λ n. lexed 0 n bs) (omega arith)
passed (suc k) at [] = refl
passed (suc k) at (b ∷ bs) = passed k (at + 1) bs ∙ ap (λ n. lexed 0 n (drop k bs)) (omega arith)

pub drop_twice : (n k : ℕ) (bs : List ℕ) → drop k (drop n bs) ≡ drop (n + k) bs
drop_twice zero k bs = ap (λ m. drop m bs) (omega arith)
drop_twice (suc n) k [] = drop_nil k ∙ sym (drop_nil (suc n + k))
drop_twice (suc n) k (b ∷ bs) = (let e : suc (n + k) ≡ suc n + k = omega arith in drop_twice n k bs ∙ ap (λ m. drop m (b ∷ bs)) e)

pub at_blank : (text : List ℕ) (at : ℕ) → at < length text → is_blank (get_or text at 0) ≡ true → lexed 0 at (drop at text) ≡ lexed 0 (at + 1) (drop (at + 1) text)
at_blank text at h b = let e : suc at ≡ at + 1 = omega arith in rw (drop-cons text at 0 h, b) (ap (λ n. lexed 0 (at + 1) (drop n text)) e)

both_at : (text : List ℕ) (m n k : ℕ) → m ≡ k → n ≡ k → lexed 0 m (drop n text) ≡ lexed 0 k (drop k text)
both_at text m n k p q = rw (p, q)

pub at_token : (text : List ℕ) (at : ℕ) (x : Lexeme) → at < length text → is_blank (get_or text at 0) ≡ false → lexeme (drop at text) ≡ Some x → lexed 0 at (drop at text) ≡ place x.token at ∷ lexed 0 (at + (x.more + 1)) (drop (at + (x.more + 1)) text)
at_token text at x h b e =
    let d = drop-cons text at 0 h in
    let e2 : lexeme (get_or text at 0 ∷ drop (suc at) text) ≡ Some x = rw d at e in
    rw (d, b, e2) (ap (λ l. place x.token at ∷ l) (passed x.more (at + 1) (drop (suc at) text) ∙ (ap (λ l. lexed 0 (at + 1 + x.more) l) (drop_twice (suc at) x.more text) ∙ both_at text (at + 1 + x.more) (suc at + x.more) (at + (x.more + 1)) (omega arith) (omega arith))))

pub at_nothing : (text : List ℕ) (at : ℕ) → at < length text → is_blank (get_or text at 0) ≡ false → lexeme (drop at text) ≡ None → lexed 0 at (drop at text) ≡ place Nothing at ∷ []
at_nothing text at h b e =
    let d = drop-cons text at 0 h in
    let e2 : lexeme (get_or text at 0 ∷ drop (suc at) text) ≡ None = rw d at e in
    rw (d, b, e2)

pub at_the_end : (text : List ℕ) (at : ℕ) → length text ≤ at → lexed 0 at (drop at text) ≡ []
at_the_end text at h = (let d = drop_of_length-le text h in rw d)

-- one byte of a text in quotes
pub skips : (bs : List ℕ) (i : ℕ) → i < length bs → undoubled true (drop i bs) ≡ undoubled false (drop (i + 1) bs)
skips bs i h = rw (add-one, drop-cons bs i 0 h)

pub keeps : (bs : List ℕ) (i : ℕ) → i < length bs → undoubled false (drop i bs) ≡ get_or bs i 0 ∷ undoubled (eqb (get_or bs i 0) 39) (drop (i + 1) bs)
keeps bs i h = rw (add-one, drop-cons bs i 0 h)

pub further : (before : Option ℕ) (i : ℕ) (o : Option ℕ) → end_behind before i (option_map suc o) ≡ end_behind before (i + 1) o
further before i None = refl
further before i (Some n) = ap Some (omega arith)

pub further_closed : (before : Option ℕ) (i : ℕ) (o : Option ℕ) → end_behind before i (Some (suc (unwrap_or o 0))) ≡ end_behind (Some (i + 1)) (i + 1) o
further_closed before i None = ap Some (omega arith)
further_closed before i (Some n) = ap Some (omega arith)

-- at a quote behind a quote that could end the text
pub quote_again : (before : Option ℕ) (bs : List ℕ) (i : ℕ) → i < length bs → get_or bs i 0 ≡ 39 → end_behind before i (text_end true (drop i bs)) ≡ end_behind before (i + 1) (text_end false (drop (i + 1) bs))
quote_again before bs i h q = rw (add-one, drop-cons bs i 0 h, q) (further before i (text_end false (drop (suc i) bs)) ∙ ap (λ n. end_behind before n (text_end false (drop (suc i) bs))) (omega arith))

-- at another quote
pub quote_first : (before : Option ℕ) (bs : List ℕ) (i : ℕ) → i < length bs → get_or bs i 0 ≡ 39 → end_behind before i (text_end false (drop i bs)) ≡ end_behind (Some (i + 1)) (i + 1) (text_end true (drop (i + 1) bs))
quote_first before bs i h q = rw (add-one, drop-cons bs i 0 h, q) (further_closed before i (text_end true (drop (suc i) bs)) ∙ ap (λ n. end_behind (Some n) n (text_end true (drop (suc i) bs))) (omega arith))

pub inside : (before : Option ℕ) (bs : List ℕ) (i : ℕ) → i < length bs → eqb (get_or bs i 0) 39 ≡ false → is_printable (get_or bs i 0) ≡ true → end_behind before i (text_end false (drop i bs)) ≡ end_behind before (i + 1) (text_end false (drop (i + 1) bs))
inside before bs i h q p = rw (add-one, drop-cons bs i 0 h, q, p) (further before i (text_end false (drop (suc i) bs)) ∙ ap (λ n. end_behind before n (text_end false (drop (suc i) bs))) (omega arith))

pub ends_closed : (before : Option ℕ) (bs : List ℕ) (i : ℕ) → i < length bs → eqb (get_or bs i 0) 39 ≡ false → end_behind before i (text_end true (drop i bs)) ≡ before
ends_closed before bs i h q = rw (drop-cons bs i 0 h, q)

pub ends_bad : (before : Option ℕ) (bs : List ℕ) (i : ℕ) → i < length bs → eqb (get_or bs i 0) 39 ≡ false → is_printable (get_or bs i 0) ≡ false → end_behind before i (text_end false (drop i bs)) ≡ before
ends_bad before bs i h q p = rw (drop-cons bs i 0 h, q, p)

pub ends_out : (before : Option ℕ) (bs : List ℕ) (i : ℕ) (closed : Bool) → length bs ≤ i → end_behind before i (text_end closed (drop i bs)) ≡ before
ends_out before bs i true h = (let d = drop_of_length-le bs h in rw d)
ends_out before bs i false h = (let d = drop_of_length-le bs h in rw d)

one_of : (t : Bool) (o : Option ℕ) (n : ℕ) → unwrap_or o 0 ≤ n → unwrap_or (cond t (option_map suc o) None) 0 ≤ suc n
one_of true None n h = omega arith
one_of true (Some k) n h = omega arith
one_of false o n h = omega arith

two_of : (t u : Bool) (o p : Option ℕ) (n : ℕ) → unwrap_or o 0 ≤ n → unwrap_or p 0 ≤ n → unwrap_or (cond t (Some (suc (unwrap_or o 0))) (cond u (option_map suc p) None)) 0 ≤ suc n
two_of true u o p n h g = omega arith
two_of false u o p n h g = one_of u p n g

some_of : (t u : Bool) (k : ℕ) (o : Option ℕ) (n : ℕ) → cond t (Some (suc k)) (cond u (option_map suc o) None) ≡ Some n → 1 ≤ n
some_of true u k o n e = omega (arith, ap (λ x. unwrap_or x 0) e)
some_of false true k None n e = cc
some_of false true k (Some m) n e = omega (arith, ap (λ x. unwrap_or x 0) e)
some_of false false k o n e = cc

-- an end is within the bytes
pub ends_within : (closed : Bool) (bs : List ℕ) → unwrap_or (text_end closed bs) 0 ≤ length bs
ends_within closed [] = omega arith
ends_within true (b ∷ bs) = one_of (eqb b 39) (text_end false bs) (length bs) (ends_within false bs)
ends_within false (b ∷ bs) = two_of (eqb b 39) (is_printable b) (text_end true bs) (text_end false bs) (length bs) (ends_within true bs) (ends_within false bs)

pub ends_some : (bs : List ℕ) (n : ℕ) → text_end false bs ≡ Some n → 1 ≤ n
ends_some [] n e = cc
ends_some (b ∷ bs) n e = some_of (eqb b 39) (is_printable b) (unwrap_or (text_end true bs) 0) (text_end false bs) n e

abbrev more_of : Option Lexeme → ℕ
more_of None = 0
more_of (Some x) = x.more

word_more : (t : Bool) (k : Token) (n : ℕ) → more_of (cond t None (Some (lexeme_with k n))) ≤ n
word_more true k n = omega arith
word_more false k n = omega arith

mapped_more : {X : Type 0} (f : X → Token) (m : ℕ) (o : Option X) → more_of (option_map (λ x. lexeme_with (f x) m) o) ≤ m
mapped_more f m None = omega arith
mapped_more f m (Some x) = omega arith

text_more : (f : ℕ → Token) (o : Option ℕ) → more_of (option_map (λ n. lexeme_with (f n) n) o) ≡ unwrap_or o 0
text_more f None = refl
text_more f (Some x) = refl

four : (a b c : Bool) (k l m n : Option Lexeme) (z : ℕ) → more_of k < z → more_of l < z → more_of m < z → more_of n < z → more_of (cond a k (cond b l (cond c m n))) < z
four true b c k l m n z p q r s = p
four false true c k l m n z p q r s = q
four false false true k l m n z p q r s = r
four false false false k l m n z p q r s = s

lexeme_more : (bs : List ℕ) → 0 < length bs → more_of (lexeme bs) < length bs
unfolding lexeme
lexeme_more bs h =
    let w = take_while is_name_byte bs in
    let d = take_while is_digit bs in
    let p : length w ≤ length bs = omega (arith, length-take (prefix_len is_name_byte bs) bs) in
    let q : length d ≤ length bs = omega (arith, length-take (prefix_len is_digit bs) bs) in
    let b = get_or bs 0 0 in
    four (is_name_start b) (is_digit b) (eqb b 39) (word_lexeme w) (number_lexeme d) (text_lexeme (drop 1 bs)) (option_map (λ s. lexeme_with (TheSymbol s) 0) (symbol_of b)) (length bs)
    (omega (arith, word_more (nat_lt 32 (length w)) (word_token w) (pred (length w))))
    (omega (arith, mapped_more Number (pred (length d)) (below_end (decimal 0 d))))
    (omega (arith, text_more (λ n. Text (undoubled false (take (pred n) (drop 1 bs)))) (text_end false (drop 1 bs)), ends_within false (drop 1 bs), length-drop 1 bs))
    (omega (arith, mapped_more TheSymbol 0 (symbol_of b)))

-- a token is within the bytes
pub lexeme_within : (bs : List ℕ) (x : Lexeme) → 0 < length bs → lexeme bs ≡ Some x → x.more < length bs
lexeme_within bs x h e = let m = lexeme_more bs h in rw e at m

all_taken : (p : ℕ → Bool) (t : Bool) (b : ℕ) (bs : List ℕ) → p b ≡ t → list_all p bs ≡ true → list_all p (cond t (b ∷ bs) []) ≡ true
all_taken p true b bs e h = rw (e, h)
all_taken p false b bs e h = refl

pub taken_pass : (p : ℕ → Bool) (bs : List ℕ) → list_all p (take_while p bs) ≡ true
taken_pass p [] = refl
taken_pass p (b ∷ bs) = (let e = take_while-cons p b bs in rw e (all_taken p (p b) b (take_while p bs) refl (taken_pass p bs)))

-- a slice to the end
pub rest_taken : (n : ℕ) (l : List ℕ) → take (length l - n) (drop n l) ≡ drop n l
rest_taken n l = let e = sym (length-drop n l) in rw e (take-length (drop n l))
