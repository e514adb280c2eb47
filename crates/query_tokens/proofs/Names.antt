-- The words that are names: those that the tokens take as names.
use Rattle.std.proofs.Common.{◌≡◌, ℕ, suc, ◌≤◌, Bool, true, false, not, ◌&&◌, ◌||◌, List, [], ◌∷◌, length, get_or, nat_le, codes, cond, refl, arith}
use Rattle.std.proofs.lemmas.Bool.Decides.{nat_tests}
use Rattle.std.specs.List.{list_all, list_any}
use Rattle.query_grammar.specs.declared.token.Aggregate.TheVariants as aggregate
use Rattle.query_grammar.specs.declared.token.Symbol.TheVariants as symbol
use Rattle.query_grammar.specs.declared.token.Token.{Token}
use Rattle.query_grammar.specs.declared.token.Token.TheVariants.{Symbol as TheSymbol, Aggregate, Name}
use Rattle.query_grammar.proofs.AtomLists.{both}
use Rattle.spl_values.specs.Names.{is_name_start, is_name_byte, is_reserved, reserved_words, is_name, is_same_word}
use Rattle.query_tokens.specs.Tokens.{same_word, word_token}

-- what a name is to the tokens
pub record NameParts (w : List ℕ) : Type 0 where
  pub first : is_name_start (get_or w 0 0) ≡ true
  pub bytes : list_all is_name_byte w ≡ true
  pub short : length w ≤ 32
  pub free : word_token w ≡ Name w

none_if : (a b : Bool) → not (a || b) ≡ true → (a ≡ false) × (not b ≡ true)
none_if true b h = cc
none_if false b h = (refl, h)

none : (p : List ℕ → Bool) (x : List ℕ) (xs : List (List ℕ)) → not (list_any p (x ∷ xs)) ≡ true → (p x ≡ false) × (not (list_any p xs) ≡ true)
none p x xs h = none_if (p x) (list_any p xs) h

-- the reserved words behind each
abbrev behind14 : List (List ℕ)
behind14 = []

abbrev behind13 : List (List ℕ)
behind13 = codes "TOPK" ∷ behind14

abbrev behind12 : List (List ℕ)
behind12 = codes "MIN" ∷ behind13

abbrev behind11 : List (List ℕ)
behind11 = codes "MAX" ∷ behind12

abbrev behind10 : List (List ℕ)
behind10 = codes "AVG" ∷ behind11

abbrev behind9 : List (List ℕ)
behind9 = codes "SUM" ∷ behind10

abbrev behind8 : List (List ℕ)
behind8 = codes "COUNT" ∷ behind9

abbrev behind7 : List (List ℕ)
behind7 = codes "BY" ∷ behind8

abbrev behind6 : List (List ℕ)
behind6 = codes "GROUP" ∷ behind7

abbrev behind5 : List (List ℕ)
behind5 = codes "BETWEEN" ∷ behind6

abbrev behind4 : List (List ℕ)
behind4 = codes "OR" ∷ behind5

abbrev behind3 : List (List ℕ)
behind3 = codes "AND" ∷ behind4

abbrev behind2 : List (List ℕ)
behind2 = codes "WHERE" ∷ behind3

abbrev behind1 : List (List ℕ)
behind1 = codes "FROM" ∷ behind2

pick : (b : Bool) (t u r : Token) → b ≡ false → u ≡ r → cond b t u ≡ r
pick true t u r e h = cc
pick false t u r e h = h

free_of : (w : List ℕ) → not (is_reserved w) ≡ true → word_token w ≡ Name w
unfolding reserved_words same_word
free_of w h0 =
    let p = is_same_word w in
    let h1 = none p (codes "SELECT") behind1 h0 in
    let h2 = none p (codes "FROM") behind2 h1.1 in
    let h3 = none p (codes "WHERE") behind3 h2.1 in
    let h4 = none p (codes "AND") behind4 h3.1 in
    let h5 = none p (codes "OR") behind5 h4.1 in
    let h6 = none p (codes "BETWEEN") behind6 h5.1 in
    let h7 = none p (codes "GROUP") behind7 h6.1 in
    let h8 = none p (codes "BY") behind8 h7.1 in
    let h9 = none p (codes "COUNT") behind9 h8.1 in
    let h10 = none p (codes "SUM") behind10 h9.1 in
    let h11 = none p (codes "AVG") behind11 h10.1 in
    let h12 = none p (codes "MAX") behind12 h11.1 in
    let h13 = none p (codes "MIN") behind13 h12.1 in
    let h14 = none p (codes "TOPK") behind14 h13.1 in
    pick (p (codes "SELECT")) (TheSymbol symbol.Select) _ (Name w) h1.0
    (pick (p (codes "FROM")) (TheSymbol symbol.From) _ (Name w) h2.0
    (pick (p (codes "WHERE")) (TheSymbol symbol.Where) _ (Name w) h3.0
    (pick (p (codes "AND")) (TheSymbol symbol.And) _ (Name w) h4.0
    (pick (p (codes "OR")) (TheSymbol symbol.Or) _ (Name w) h5.0
    (pick (p (codes "BETWEEN")) (TheSymbol symbol.Between) _ (Name w) h6.0
    (pick (p (codes "GROUP")) (TheSymbol symbol.Group) _ (Name w) h7.0
    (pick (p (codes "BY")) (TheSymbol symbol.By) _ (Name w) h8.0
    (pick (p (codes "COUNT")) (TheSymbol symbol.Count) _ (Name w) h9.0
    (pick (p (codes "SUM")) (Aggregate aggregate.Sum) _ (Name w) h10.0
    (pick (p (codes "AVG")) (Aggregate aggregate.Avg) _ (Name w) h11.0
    (pick (p (codes "MAX")) (Aggregate aggregate.Max) _ (Name w) h12.0
    (pick (p (codes "MIN")) (Aggregate aggregate.Min) _ (Name w) h13.0
    (pick (p (codes "TOPK")) (TheSymbol symbol.TopK) _ (Name w) h14.0 refl)))))))))))))

unpick : (b : Bool) (t u : Token) (n : List ℕ) → cond b t u ≡ Name n → (t ≡ Name n → ⊥) → (b ≡ false) × (u ≡ Name n)
unpick true t u n e f = absurd (f e)
unpick false t u n e f = (refl, e)

none_more : (p : List ℕ → Bool) (x : List ℕ) (xs : List (List ℕ)) → p x ≡ false → not (list_any p xs) ≡ true → not (list_any p (x ∷ xs)) ≡ true
none_more p x xs e h = rw e h

no_symbol : (s : _) (n : List ℕ) → TheSymbol s ≡ Name n → ⊥
no_symbol s n e = cc

no_aggregate : (a : _) (n : List ℕ) → Aggregate a ≡ Name n → ⊥
no_aggregate a n e = cc

unreserved : (w : List ℕ) → word_token w ≡ Name w → not (is_reserved w) ≡ true
unfolding reserved_words same_word
unreserved w h0 =
    let p = is_same_word w in
    let h1 = unpick (p (codes "SELECT")) (TheSymbol symbol.Select) _ w h0 (no_symbol symbol.Select w) in
    let h2 = unpick (p (codes "FROM")) (TheSymbol symbol.From) _ w h1.1 (no_symbol symbol.From w) in
    let h3 = unpick (p (codes "WHERE")) (TheSymbol symbol.Where) _ w h2.1 (no_symbol symbol.Where w) in
    let h4 = unpick (p (codes "AND")) (TheSymbol symbol.And) _ w h3.1 (no_symbol symbol.And w) in
    let h5 = unpick (p (codes "OR")) (TheSymbol symbol.Or) _ w h4.1 (no_symbol symbol.Or w) in
    let h6 = unpick (p (codes "BETWEEN")) (TheSymbol symbol.Between) _ w h5.1 (no_symbol symbol.Between w) in
    let h7 = unpick (p (codes "GROUP")) (TheSymbol symbol.Group) _ w h6.1 (no_symbol symbol.Group w) in
    let h8 = unpick (p (codes "BY")) (TheSymbol symbol.By) _ w h7.1 (no_symbol symbol.By w) in
    let h9 = unpick (p (codes "COUNT")) (TheSymbol symbol.Count) _ w h8.1 (no_symbol symbol.Count w) in
    let h10 = unpick (p (codes "SUM")) (Aggregate aggregate.Sum) _ w h9.1 (no_aggregate aggregate.Sum w) in
    let h11 = unpick (p (codes "AVG")) (Aggregate aggregate.Avg) _ w h10.1 (no_aggregate aggregate.Avg w) in
    let h12 = unpick (p (codes "MAX")) (Aggregate aggregate.Max) _ w h11.1 (no_aggregate aggregate.Max w) in
    let h13 = unpick (p (codes "MIN")) (Aggregate aggregate.Min) _ w h12.1 (no_aggregate aggregate.Min w) in
    let h14 = unpick (p (codes "TOPK")) (TheSymbol symbol.TopK) _ w h13.1 (no_symbol symbol.TopK w) in
    none_more p (codes "SELECT") behind1 h1.0
    (none_more p (codes "FROM") behind2 h2.0
    (none_more p (codes "WHERE") behind3 h3.0
    (none_more p (codes "AND") behind4 h4.0
    (none_more p (codes "OR") behind5 h5.0
    (none_more p (codes "BETWEEN") behind6 h6.0
    (none_more p (codes "GROUP") behind7 h7.0
    (none_more p (codes "BY") behind8 h8.0
    (none_more p (codes "COUNT") behind9 h9.0
    (none_more p (codes "SUM") behind10 h10.0
    (none_more p (codes "AVG") behind11 h11.0
    (none_more p (codes "MAX") behind12 h12.0
    (none_more p (codes "MIN") behind13 h13.0
    (none_more p (codes "TOPK") behind14 h14.0 refl)))))))))))))

start_byte : (b : ℕ) → is_name_start b ≡ true → is_name_byte b ≡ true
start_byte b h = rw h refl

short_of : (n : ℕ) → nat_le n 31 ≡ true → suc n ≤ 32
short_of n h = grind (arith, nat_tests)

long_of : (n : ℕ) → suc n ≤ 32 → nat_le n 31 ≡ true
long_of n h = grind (arith, nat_tests)

pub name_parts : (w : List ℕ) → is_name w ≡ true → NameParts w
unfolding is_name
name_parts [] h = cc
name_parts (b ∷ bs) h =
    let d = both (is_name_start b && list_all is_name_byte bs && nat_le (length bs) 31) (not (is_reserved (b ∷ bs))) h in
    let c = both (is_name_start b && list_all is_name_byte bs) (nat_le (length bs) 31) d.0 in
    let a = both (is_name_start b) (list_all is_name_byte bs) c.0 in
    let s = start_byte b a.0 in
    let l = c.1 in
    record { first = a.0; bytes = rw (s, a.1) refl; short = short_of (length bs) c.1; free = free_of (b ∷ bs) d.1 }

pub name_made : (w : List ℕ) → NameParts w → is_name w ≡ true
unfolding is_name
name_made [] n = let f : false ≡ true = n.first in cc
name_made (b ∷ bs) n =
    let f : is_name_start b ≡ true = n.first in
    let a = both (is_name_byte b) (list_all is_name_byte bs) n.bytes in
    let l = long_of (length bs) n.short in
    let r = unreserved (b ∷ bs) n.free in
    rw (f, a.1, l, r) refl
