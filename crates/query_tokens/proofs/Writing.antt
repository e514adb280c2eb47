-- Writing lists of tokens.
use Rattle.std.proofs.Common.{◌≡◌, ℕ, ◌+◌, ◌<◌, ◌≤◌, Bool, true, false, not, ◌&&◌, ◌||◌, List, [], ◌∷◌, ◌++◌, length, drop, get_or, suc, refl, sym, ◌∙◌, ap, add-one, drop-cons, cond, append_assoc}
use Rattle.std.proofs.Math.ListN.{drop_of_length-le}
use Rattle.std.proofs.lemmas.List.{append-nil}
use Rattle.std.specs.List.{flat_map}
use Rattle.query_grammar.specs.declared.token.Token.{Token}
use Rattle.query_tokens.specs.declared.printer.Last.TheVariants.{Begin, Opening, Function, Other}
use Rattle.query_grammar.specs.Grammar.{joined}
use Rattle.query_tokens.specs.Printing.{spelled, opens, closes, parts, of_symbol, calls, gap, space, printed_behind, printed, last_of, gap_behind, Written, put, written}

pub written_both : (p : Written) (xs ys : List Token) → written p (xs ++ ys) ≡ written (written p xs) ys
written_both p [] ys = refl
written_both p (x ∷ xs) ys = written_both (put p x) xs ys

-- what is left of a list with separators
abbrev pub left_of : {A : Type 0} → Token → (A → List Token) → Bool → List A → List Token
left_of separator f true xs = joined separator f xs
left_of separator f false xs = flat_map (λ y. separator ∷ f y) xs

pub one_left : {A : Type 0} (separator : Token) (f : A → List Token) (p : Written) (xs : List A) (i : ℕ) (d : A) → i < length xs → written p (left_of separator f false (drop i xs)) ≡ written (written (put p separator) (f (get_or xs i d))) (left_of separator f false (drop (i + 1) xs))
one_left separator f p xs i d h = let e = drop-cons xs i d h in rw (add-one, e) (written_both (put p separator) (f (get_or xs i d)) (flat_map (λ y. separator ∷ f y) (drop (suc i) xs)))

pub one_first : {A : Type 0} (separator : Token) (f : A → List Token) (p : Written) (xs : List A) (i : ℕ) (d : A) → i < length xs → written p (left_of separator f true (drop i xs)) ≡ written (written p (f (get_or xs i d))) (left_of separator f false (drop (i + 1) xs))
one_first separator f p xs i d h = let e = drop-cons xs i d h in rw (add-one, e) (written_both p (f (get_or xs i d)) (flat_map (λ y. separator ∷ f y) (drop (suc i) xs)))

pub none_left : {A : Type 0} (separator : Token) (f : A → List Token) (first : Bool) (p : Written) (xs : List A) (i : ℕ) → length xs ≤ i → written p (left_of separator f first (drop i xs)) ≡ p
none_left separator f true p xs i h = let e = drop_of_length-le xs h in rw e refl
none_left separator f false p xs i h = let e = drop_of_length-le xs h in rw e refl

-- the printer's spaces are those between tokens
bool_gap : (o c m k n : Bool) → (cond o false (cond k (not (c || (m || n))) (not (c || m)))) ≡ not (o || (c || (m || (k && n))))
bool_gap true c m k n = refl
bool_gap false true m true n = refl
bool_gap false true m false n = refl
bool_gap false false true true n = refl
bool_gap false false true false n = refl
bool_gap false false false true n = refl
bool_gap false false false false n = refl

picked : (o k : Bool) (u : Token) → gap_behind (cond o Opening (cond k Function Other)) u ≡ cond o false (cond k (not (of_symbol closes u || (of_symbol parts u || of_symbol opens u))) (not (of_symbol closes u || of_symbol parts u)))
picked true k u = refl
picked false true u = refl
picked false false u = refl

same_gap : (t u : Token) → gap_behind (last_of t) u ≡ gap t u
same_gap t u = picked (of_symbol opens t) (calls t) u ∙ bool_gap (of_symbol opens t) (of_symbol closes u) (of_symbol parts u) (calls t) (of_symbol opens u)

written_behind : (t : Token) (us : List Token) (x : List ℕ) → (written (record { text = x; last = last_of t }) us).text ≡ x ++ printed_behind t us
written_behind t [] x = sym (append-nil x)
written_behind t (u ∷ us) x =
    written_behind u us (x ++ (space (gap_behind (last_of t) u) ++ spelled u))
    ∙ ap (λ g. (x ++ (space g ++ spelled u)) ++ printed_behind u us) (same_gap t u)
    ∙ simp append_assoc

pub written_is_printed : (ts : List Token) → (written (record { text = []; last = Begin }) ts).text ≡ printed ts
written_is_printed [] = refl
written_is_printed (t ∷ ts) = written_behind t ts (spelled t)
