-- What a text reads as can be written again.
use Rattle.std.proofs.Common.{◌≡◌, ℕ, zero, suc, pred, ◌+◌, ◌^◌, ◌<◌, ◌≤◌, Bool, true, false, List, [], ◌∷◌, ◌++◌, length, take, cond, Option, Some, None, option_map, unwrap_or, get_or, eqb, nat_lt, codes, refl, sym, ◌∙◌, ap, subst, arith}
use Rattle.std.proofs.lemmas.Bool.{eqb-true}
use Rattle.std.proofs.lemmas.Bool.Decides.{nat_tests}
use Rattle.std.proofs.lemmas.List.Sums.{take_while-cons}
use Rattle.std.specs.List.{flat_map, take_while, list_all}
use Rattle.query_grammar.specs.declared.item.Item.{Item}
use Rattle.query_grammar.specs.declared.item.Item.TheVariants as item
use Rattle.query_grammar.specs.declared.condition.Literal.{Literal}
use Rattle.query_grammar.specs.declared.condition.Literal.TheVariants as literal
use Rattle.query_grammar.specs.declared.condition.Public.{Public}
use Rattle.query_grammar.specs.declared.condition.Public.TheVariants as public
use Rattle.query_grammar.specs.declared.condition.Atom.{Atom}
use Rattle.query_grammar.specs.declared.condition.Atom.TheVariants as atom
use Rattle.query_grammar.specs.declared.token.Aggregate.TheVariants as aggregate
use Rattle.query_grammar.specs.declared.token.Symbol.TheVariants as symbol
use Rattle.query_grammar.specs.declared.token.Token.{Token}
use Rattle.query_grammar.specs.declared.token.Token.TheVariants.{Symbol as TheSymbol, Aggregate, Name, Number, Text, Nothing}
use Rattle.query_grammar.specs.declared.token.Placed.{Placed}
use Rattle.query_grammar.specs.Queries.{QueryParts}
use Rattle.query_grammar.specs.Grammar.{joined, item_text, literal_text, public_text, atom_text, branch_text, Part, Shown, Bare, Either, part_text, Condition, Parts, Branches, condition_text, where_text, group_text, publics_of, atoms_of, eithers_of, BranchesOf, IsCondition, IsWhere, Reads}
use Rattle.query_grammar.specs.Faults.{tokens_of}
use Rattle.query_grammar.proofs.AtomLists.{both}
use Rattle.query_tokens.specs.declared.lexer.Lexeme.{Lexeme}
use Rattle.spl_values.specs.Names.{is_name_start, is_name_byte}
use Rattle.spl_values.specs.Kinds.{is_printable}
use Rattle.query_tokens.specs.Lexing.{is_blank, is_digit, symbol_of, decimal}
use Rattle.query_tokens.specs.Tokens.{same_word, lexeme, lexeme_with, word_lexeme, word_token, number_lexeme, text_lexeme, text_end, undoubled, placed_by, lexed, tokens_in}
use Rattle.query_tokens.specs.Printing.{IsName, Each, ItemStands, LiteralStands, PublicStands, AtomStands, GroupStands, IsWritable, IsWellFormed}
use Rattle.query_grammar.proofs.Kept.{reads_query}
use Rattle.query_tokens.proofs.Names.{name_made}
use Rattle.query_tokens.proofs.Scan.{taken_pass}

-- the token can be written, or is none
abbrev pub Stands : Token → Type 0
Stands (TheSymbol s) = Unit {0}
Stands (Aggregate o) = Unit {0}
Stands (Name w) = IsName w
Stands (Number n) = n < 2 ^ 64
Stands (Text t) = list_all is_printable t ≡ true
Stands Nothing = Unit {0}

abbrev pub AllStand : List Token → Type 0
AllStand [] = Unit {0}
AllStand (t ∷ ts) = Stands t × AllStand ts

-- of what was lexed
abbrev OfWord : List ℕ → Token → Type 0
OfWord w (TheSymbol s) = Unit {0}
OfWord w (Aggregate o) = Unit {0}
OfWord w (Name n) = n ≡ w
OfWord w (Number n) = ⊥
OfWord w (Text t) = ⊥
OfWord w Nothing = ⊥

pick : (w : List ℕ) (b : Bool) (t u : Token) → OfWord w t → OfWord w u → OfWord w (cond b t u)
pick w true t u p q = p
pick w false t u p q = q

of_word : (w : List ℕ) → OfWord w (word_token w)
of_word w =
    pick w (same_word w (codes "SELECT")) (TheSymbol symbol.Select) _ tt
    (pick w (same_word w (codes "FROM")) (TheSymbol symbol.From) _ tt
    (pick w (same_word w (codes "WHERE")) (TheSymbol symbol.Where) _ tt
    (pick w (same_word w (codes "AND")) (TheSymbol symbol.And) _ tt
    (pick w (same_word w (codes "OR")) (TheSymbol symbol.Or) _ tt
    (pick w (same_word w (codes "BETWEEN")) (TheSymbol symbol.Between) _ tt
    (pick w (same_word w (codes "GROUP")) (TheSymbol symbol.Group) _ tt
    (pick w (same_word w (codes "BY")) (TheSymbol symbol.By) _ tt
    (pick w (same_word w (codes "COUNT")) (TheSymbol symbol.Count) _ tt
    (pick w (same_word w (codes "SUM")) (Aggregate aggregate.Sum) _ tt
    (pick w (same_word w (codes "AVG")) (Aggregate aggregate.Avg) _ tt
    (pick w (same_word w (codes "MAX")) (Aggregate aggregate.Max) _ tt
    (pick w (same_word w (codes "MIN")) (Aggregate aggregate.Min) _ tt
    (pick w (same_word w (codes "TOPK")) (TheSymbol symbol.TopK) (Name w) tt refl)))))))))))))

word_is : (w : List ℕ) (t : Token) → is_name_start (get_or w 0 0) ≡ true → list_all is_name_byte w ≡ true → length w ≤ 32 → word_token w ≡ t → OfWord w t → Stands t
word_is w (TheSymbol s) f all short e of = tt
word_is w (Aggregate o) f all short e of = tt
word_is w (Name n) f all short e of =
    subst (λ (x : List ℕ). IsName x) (sym of) (name_made w (record { first = f; bytes = all; short = short; free = e ∙ ap Name of }))
word_is w (Number n) f all short e of = absurd of
word_is w (Text t) f all short e of = absurd of
word_is w Nothing f all short e of = absurd of

abbrev StandsOf : Option Lexeme → Type 0
StandsOf None = Unit {0}
StandsOf (Some x) = Stands x.token

word_stands_if : (long : Bool) (w : List ℕ) → nat_lt 32 (length w) ≡ long → is_name_start (get_or w 0 0) ≡ true → list_all is_name_byte w ≡ true → StandsOf (cond long None (Some (lexeme_with (word_token w) (pred (length w)))))
word_stands_if true w e f all = tt
word_stands_if false w e f all = let short : length w ≤ 32 = grind (arith, nat_tests) in word_is w (word_token w) f all short refl (of_word w)

number_stands_if : (small : Bool) (n m : ℕ) → nat_lt n (2 ^ 64) ≡ small → StandsOf (option_map (λ k. lexeme_with (Number k) m) (cond small (Some n) None))
number_stands_if true n m e = grind (arith, nat_tests)
number_stands_if false n m e = tt

symbol_stands : (o : Option _) → StandsOf (option_map (λ s. lexeme_with (TheSymbol s) 0) o)
symbol_stands None = tt
symbol_stands (Some s) = tt

-- the bytes before the end of a text
before : (b : ℕ) (bs : List ℕ) (k : ℕ) → is_printable b ≡ true → list_all is_printable (take (pred k) bs) ≡ true → list_all is_printable (take k (b ∷ bs)) ≡ true
before b bs zero p h = refl
before b bs (suc k) p h = rw (p, h) refl

before_mapped : (b : ℕ) (bs : List ℕ) (o : Option ℕ) → is_printable b ≡ true → list_all is_printable (take (pred (unwrap_or o 0)) bs) ≡ true → list_all is_printable (take (pred (unwrap_or (option_map suc o) 0)) (b ∷ bs)) ≡ true
before_mapped b bs None p h = refl
before_mapped b bs (Some n) p h = before b bs n p h

quote_printable : (b : ℕ) → eqb b 39 ≡ true → is_printable b ≡ true
quote_printable b e = rw (eqb-true b 39 e) refl

before_closed : (q : Bool) (b : ℕ) (bs : List ℕ) (o : Option ℕ) → eqb b 39 ≡ q → list_all is_printable (take (pred (unwrap_or o 0)) bs) ≡ true → list_all is_printable (take (pred (unwrap_or (cond q (option_map suc o) None) 0)) (b ∷ bs)) ≡ true
before_closed true b bs o e h = before_mapped b bs o (quote_printable b e) h
before_closed false b bs o e h = refl

before_open : (q p : Bool) (b : ℕ) (bs : List ℕ) (o u : Option ℕ) → eqb b 39 ≡ q → is_printable b ≡ p
    → list_all is_printable (take (pred (unwrap_or o 0)) bs) ≡ true → list_all is_printable (take (pred (unwrap_or u 0)) bs) ≡ true
    → list_all is_printable (take (pred (unwrap_or (cond q (Some (suc (unwrap_or o 0))) (cond p (option_map suc u) None)) 0)) (b ∷ bs)) ≡ true
before_open true p b bs o u e f h k = before b bs (unwrap_or o 0) (quote_printable b e) h
before_open false true b bs o u e f h k = before_mapped b bs u f k
before_open false false b bs o u e f h k = refl

printable_to : (closed : Bool) (bs : List ℕ) → list_all is_printable (take (pred (unwrap_or (text_end closed bs) 0)) bs) ≡ true
printable_to true [] = refl
printable_to false [] = refl
printable_to true (b ∷ bs) = before_closed (eqb b 39) b bs (text_end false bs) refl (printable_to false bs)
printable_to false (b ∷ bs) = before_open (eqb b 39) (is_printable b) b bs (text_end true bs) (text_end false bs) refl refl (printable_to true bs) (printable_to false bs)

printable_once : (second : Bool) (bs : List ℕ) → list_all is_printable bs ≡ true → list_all is_printable (undoubled second bs) ≡ true
printable_once true [] h = refl
printable_once false [] h = refl
printable_once true (b ∷ bs) h = printable_once false bs (both (is_printable b) (list_all is_printable bs) h).1
printable_once false (b ∷ bs) h =
    let p = both (is_printable b) (list_all is_printable bs) h in
    let i = printable_once (eqb b 39) bs p.1 in
    rw (p.0, i) refl

text_stands_if : (bs : List ℕ) (o : Option ℕ) → list_all is_printable (take (pred (unwrap_or o 0)) bs) ≡ true → StandsOf (option_map (λ n. lexeme_with (Text (undoubled false (take (pred n) bs))) n) o)
text_stands_if bs None h = tt
text_stands_if bs (Some n) h = printable_once false (take (pred n) bs) h

four_stand : (a b c : Bool) (k l m n : Option Lexeme) → (a ≡ true → StandsOf k) → StandsOf l → StandsOf m → StandsOf n → StandsOf (cond a k (cond b l (cond c m n)))
four_stand true b c k l m n p q r s = p refl
four_stand false true c k l m n p q r s = q
four_stand false false true k l m n p q r s = r
four_stand false false false k l m n p q r s = s

first_taken : (b : ℕ) (bs : List ℕ) → is_name_start b ≡ true → get_or (take_while is_name_byte (b ∷ bs)) 0 0 ≡ b
first_taken b bs h =
    let t : is_name_byte b ≡ true = rw h refl in
    rw (take_while-cons is_name_byte b bs, t) refl

lexeme_stands : (b : ℕ) (bs : List ℕ) → StandsOf (lexeme (b ∷ bs))
unfolding lexeme
lexeme_stands b bs =
    let w = take_while is_name_byte (b ∷ bs) in
    let d = take_while is_digit (b ∷ bs) in
    four_stand (is_name_start b) (is_digit b) (eqb b 39) (word_lexeme w) (number_lexeme d) (text_lexeme bs) (option_map (λ s. lexeme_with (TheSymbol s) 0) (symbol_of b))
    (λ h. word_stands_if (nat_lt 32 (length w)) w refl (ap is_name_start (first_taken b bs h) ∙ h) (taken_pass is_name_byte (b ∷ bs)))
    (number_stands_if (nat_lt (decimal 0 d) (2 ^ 64)) (decimal 0 d) (pred (length d)) refl)
    (text_stands_if bs (text_end false bs) (printable_to false bs))
    (symbol_stands (symbol_of b))

placed_stand : (at : ℕ) (o : Option Lexeme) (rest : ℕ → List Placed) → StandsOf o → ((k : ℕ) → AllStand (tokens_of (rest k))) → AllStand (tokens_of (placed_by at o rest))
placed_stand at None rest h r = (tt, tt)
placed_stand at (Some x) rest h r = (h, r x.more)

blank_stand : (blank : Bool) (x y : List Placed) → AllStand (tokens_of x) → AllStand (tokens_of y) → AllStand (tokens_of (cond blank x y))
blank_stand true x y h k = h
blank_stand false x y h k = k

lexed_stand : (inside at : ℕ) (bs : List ℕ) → AllStand (tokens_of (lexed inside at bs))
lexed_stand zero at [] = tt
lexed_stand (suc inside) at [] = tt
lexed_stand (suc inside) at (b ∷ bs) = lexed_stand inside (at + 1) bs
lexed_stand zero at (b ∷ bs) =
    blank_stand (is_blank b) (lexed 0 (at + 1) bs) (placed_by at (lexeme (b ∷ bs)) (λ k. lexed k (at + 1) bs)) (lexed_stand 0 (at + 1) bs)
    (placed_stand at (lexeme (b ∷ bs)) (λ k. lexed k (at + 1) bs) (lexeme_stands b bs) (λ k. lexed_stand k (at + 1) bs))

-- of what is spelled
front_stand : (xs ys : List Token) → AllStand (xs ++ ys) → AllStand xs
front_stand [] ys h = tt
front_stand (x ∷ xs) ys h = (h.0, front_stand xs ys h.1)

back_stand : (xs ys : List Token) → AllStand (xs ++ ys) → AllStand ys
back_stand [] ys h = h
back_stand (x ∷ xs) ys h = back_stand xs ys h.1

module _ {A : Type 0} (P : A → Type 0) (separator : Token) (f : A → List Token) (each : (x : A) → AllStand (f x) → P x) where
  each_more : (xs : List A) → AllStand (flat_map (λ y. separator ∷ f y) xs) → Each P xs
  each_more [] h = tt
  each_more (x ∷ xs) h =
      let m = flat_map (λ y. separator ∷ f y) xs in
      (each x (front_stand (f x) m h.1), each_more xs (back_stand (f x) m h.1))

  each_joined : (xs : List A) → AllStand (joined separator f xs) → Each P xs
  each_joined [] h = tt
  each_joined (x ∷ xs) h =
      let m = flat_map (λ y. separator ∷ f y) xs in
      (each x (front_stand (f x) m h), each_more xs (back_stand (f x) m h))

item_of : (i : Item) → AllStand (item_text i) → ItemStands i
item_of item.Count h = tt
item_of (item.Sum n) h = h.1.1.0
item_of (item.Avg n) h = h.1.1.0
item_of (item.Max n) h = h.1.1.0
item_of (item.Min n) h = h.1.1.0
item_of (item.TopK k sort show) h = (h.1.1.0, h.1.1.1.1.0, h.1.1.1.1.1.1.0)

literal_of : (l : Literal) → Stands (literal_text l) → LiteralStands l
literal_of (literal.Number k) h = h
literal_of (literal.Text t) h = h

public_of : (p : Public) → AllStand (public_text p) → PublicStands p
public_of (public.Equal n l) h = (h.0, literal_of l h.1.1.0)
public_of (public.Between n l m) h = (h.0, literal_of l h.1.1.0, literal_of m h.1.1.1.1.0)

atom_of : (a : Atom) → AllStand (atom_text a) → AtomStands a
atom_of (atom.Equal n) h = h.0
atom_of (atom.Between n) h = h.0

branch_of : (b : List Atom) → AllStand (branch_text b) → Each AtomStands b
branch_of = each_joined AtomStands (TheSymbol symbol.And) atom_text atom_of

branches_of : (bs : List (List Atom)) → AllStand (joined (TheSymbol symbol.Or) branch_text bs) → Each (Each AtomStands) bs
branches_of = each_joined (Each AtomStands) (TheSymbol symbol.Or) branch_text branch_of

abbrev PartOf : Part → Type 0
PartOf (Shown p) = PublicStands p
PartOf (Bare a) = AtomStands a
PartOf (Either bs) = Each (Each AtomStands) bs

part_of : (p : Part) → AllStand (part_text p) → PartOf p
part_of (Shown p) h = public_of p h
part_of (Bare a) h = atom_of a h
part_of (Either bs) h = branches_of bs (front_stand (joined (TheSymbol symbol.Or) branch_text bs) _ h.1)

publics_stand : (ps : List Part) → Each PartOf ps → Each PublicStands (publics_of ps)
publics_stand [] h = tt
publics_stand (Shown p ∷ ps) h = (h.0, publics_stand ps h.1)
publics_stand (Bare a ∷ ps) h = publics_stand ps h.1
publics_stand (Either bs ∷ ps) h = publics_stand ps h.1

atoms_stand : (ps : List Part) → Each PartOf ps → Each AtomStands (atoms_of ps)
atoms_stand [] h = tt
atoms_stand (Shown p ∷ ps) h = atoms_stand ps h.1
atoms_stand (Bare a ∷ ps) h = (h.0, atoms_stand ps h.1)
atoms_stand (Either bs ∷ ps) h = atoms_stand ps h.1

eithers_stand : (ps : List Part) → Each PartOf ps → Each (Each (Each AtomStands)) (eithers_of ps)
eithers_stand [] h = tt
eithers_stand (Shown p ∷ ps) h = eithers_stand ps h.1
eithers_stand (Bare a ∷ ps) h = eithers_stand ps h.1
eithers_stand (Either bs ∷ ps) h = (h.0, eithers_stand ps h.1)

made_stand : (xs : List Atom) (es : List (List (List Atom))) (br : List (List Atom)) → BranchesOf xs es br → Each AtomStands xs → Each (Each (Each AtomStands)) es → Each (Each AtomStands) br
made_stand [] [] br b h k = rw b tt
made_stand (a ∷ more) [] br b h k = rw b.1 (h, tt)
made_stand [] (bs ∷ []) br b h k = rw b.1 k.0
made_stand (a ∷ more) (bs ∷ []) br b h k = absurd b
made_stand [] (bs ∷ cs ∷ more) br b h k = absurd b
made_stand (x ∷ xs) (bs ∷ cs ∷ more) br b h k = absurd b

record BothStand (p : List Public) (br : List (List Atom)) : Type 0 where
  publics : Each PublicStands p
  branches : Each (Each AtomStands) br

condition_stands : (c : Condition) (p : List Public) (br : List (List Atom)) → IsCondition c p br → AllStand (condition_text c) → BothStand p br
condition_stands (Parts ps) p br is h =
    let e = each_joined PartOf (TheSymbol symbol.And) part_text part_of ps h in
    record { publics = rw is.1 (publics_stand ps e); branches = made_stand (atoms_of ps) (eithers_of ps) br is.2 (atoms_stand ps e) (eithers_stand ps e) }
condition_stands (Branches bs) p br is h = record { publics = rw is.0 tt; branches = rw is.3 (branches_of bs h) }

where_stands : (c : Option Condition) (p : List Public) (br : List (List Atom)) → IsWhere c p br → AllStand (where_text c) → BothStand p br
where_stands None p br is h = record { publics = rw is.0 tt; branches = rw is.1 tt }
where_stands (Some c) p br is h = condition_stands c p br is h.1

group_of : (g : Option (List ℕ)) → AllStand (group_text g) → GroupStands g
group_of None h = tt
group_of (Some n) h = h.1.1.0

read_stands : (text : List ℕ) (q : QueryParts) → Reads (tokens_of (tokens_in text)) q → IsWritable q
unfolding tokens_in
read_stands text q r =
    let all : AllStand (tokens_of (lexed 0 0 text)) = lexed_stand 0 0 text in
    let h = subst (λ (ts : List Token). AllStand ts) r.text all in
    let items = joined (TheSymbol symbol.Comma) item_text q.items in
    let condition = where_text r.condition in
    let group = group_text q.group in
    let back = back_stand items _ h.1 in
    let rest = back.1.1 in
    let both = where_stands r.condition q.public q.branches r.parts (front_stand condition _ rest) in
    record {
      items = each_joined ItemStands (TheSymbol symbol.Comma) item_text item_of q.items (front_stand items _ h.1);
      table = back.1.0;
      public = both.publics;
      branches = both.branches;
      group = group_of q.group (front_stand group _ (back_stand condition _ rest));
    }

pub read_well_formed : (text : List ℕ) (q : QueryParts) → Reads (tokens_of (tokens_in text)) q → IsWellFormed q
read_well_formed text q r = record { form = reads_query (tokens_of (tokens_in text)) q r; writable = read_stands text q r }
