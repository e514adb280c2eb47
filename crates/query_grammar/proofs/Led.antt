-- What the tokens so far are, in each state.
use Rattle.std.proofs.Common.{◌≡◌, ◌≤◌, Bool, true, false, List, [], ◌∷◌, ◌++◌, map, Option, Some, length, refl, sym, ◌∙◌, ap, subst, append_assoc, arith, length-append}
use Rattle.std.proofs.lemmas.List.{append-nil}
use Rattle.std.proofs.lemmas.Grind.{flat_map-append}
use Rattle.std.specs.List.{flat_map, list_all}
use Rattle.query_grammar.specs.declared.item.Item.{Item}
use Rattle.query_grammar.specs.declared.condition.Public.{Public}
use Rattle.query_grammar.specs.declared.condition.Atom.{Atom}
use Rattle.query_grammar.specs.declared.token.Token.{Token}
use Rattle.query_grammar.specs.declared.token.Token.TheVariants.{Symbol, Aggregate, Name, Number}
use Rattle.query_grammar.specs.declared.token.Symbol.TheVariants.{Select, From, Where, And, Or, Between, Group, By, Count, TopK, Open, Close, Comma, Star, Equals, Question}
use Rattle.query_grammar.specs.Queries.{QueryParts, ends_in_range, ranges_last, is_branch}
use Rattle.query_grammar.specs.Grammar.{joined, item_text, literal_text, public_text, atom_text, branch_text, Part, Shown, Bare, Either, part_text, Condition, Parts, Branches, condition_text, where_text, group_text, publics_of, atoms_of, eithers_of, are_branches, BranchesOf, IsCondition, IsWhere, Reads}
use Rattle.query_grammar.specs.declared.mode.Mode.{Mode}
use Rattle.query_grammar.specs.declared.mode.Mode.TheVariants.{Atoms, Mixed, Inside, Behind, Apart}
use Rattle.query_grammar.specs.Machine.{Found, Head, may_atom, may_go_on, may_atom_in, may_public_in, none_yet, opens_in, ends_in, or_in, close_in, public_mode, with_atoms, State, Start, Items, CountOpen, CountStar, CountClose, AggregateOpen, AggregateName, AggregateClose, TopOpen, TopNumber, TopSortComma, TopSort, TopShowComma, TopShow, TopClose, ItemEnd, Table, TableEnd, PartStart, Named, Equal, Low, Mark, MarkAnd, Least, LeastAnd, PartEnd, GroupBy, GroupName, GroupEnd, Done}
use Rattle.query_grammar.proofs.AtomLists.{both, one_more}

-- x { separator x } and one more separator, or nothing
abbrev pub begun : {A : Type 0} → Token → (A → List Token) → List A → List Token
begun separator f [] = []
begun separator f (x ∷ xs) = joined separator f (x ∷ xs) ++ separator ∷ []

pub joined_more : {A : Type 0} (separator : Token) (f : A → List Token) (xs : List A) (x : A) → begun separator f xs ++ f x ≡ joined separator f (xs ++ x ∷ [])
joined_more separator f [] x = sym (append-nil (f x))
joined_more separator f (y ∷ ys) x =
    append_assoc (f y ++ flat_map (λ z. separator ∷ f z) ys) (separator ∷ []) (f x)
    ∙ append_assoc (f y) (flat_map (λ z. separator ∷ f z) ys) (separator ∷ f x)
    ∙ ap (λ l. f y ++ (flat_map (λ z. separator ∷ f z) ys ++ separator ∷ l)) (sym (append-nil (f x)))
    ∙ ap (λ l. f y ++ l) (sym (flat_map-append (λ z. separator ∷ f z) ys (x ∷ [])))

pub begun_of : {A : Type 0} (separator : Token) (f : A → List Token) (xs : List A) → 1 ≤ length xs → joined separator f xs ++ separator ∷ [] ≡ begun separator f xs
begun_of separator f [] some = absurd (omega arith)
begun_of separator f (x ∷ xs) some = refl

-- open: behind a separator or at the beginning; else behind an element
abbrev pub joins : Bool → {A : Type 0} → Token → (A → List Token) → List A → List Token
joins true separator f xs = begun separator f xs
joins false separator f xs = joined separator f xs

abbrev pub IsFilled : Bool → {A : Type 0} → List A → Type 0
IsFilled true xs = Unit {0}
IsFilled false xs = 1 ≤ length xs

pub record PartsAre (ps : List Part) (p : List Public) (xs : List Atom) (es : List (List (List Atom))) : Type 0 where
  pub public : publics_of ps ≡ p
  pub atoms : atoms_of ps ≡ xs
  pub eithers : eithers_of ps ≡ es

-- the condition so far, with its text
abbrev pub LedTo : Bool → Mode → List Public → List (List Atom) → List Atom → List Token → Type 0
LedTo on Atoms p b xs text = (p ≡ []) × (b ≡ []) × (ranges_last xs ≡ true) × IsFilled on xs × (text ≡ joins on (Symbol And) atom_text xs)
LedTo on Mixed p b xs text = (ps : List Part) × PartsAre ps p xs [] × (b ≡ []) × (ranges_last xs ≡ true) × IsFilled on ps × (text ≡ joins on (Symbol And) part_text ps)
LedTo on Inside p b xs text = (ps : List Part) × PartsAre ps p [] [] × (list_all is_branch b ≡ true) × (ranges_last xs ≡ true) × IsFilled on xs
    × (text ≡ begun (Symbol And) part_text ps ++ ((Symbol Open) ∷ begun (Symbol Or) branch_text b ++ joins on (Symbol And) atom_text xs))
LedTo on Behind p b xs text = (ps : List Part) × PartsAre ps p [] (b ∷ []) × (xs ≡ []) × (are_branches b ≡ true) × IsFilled on ps × (text ≡ joins on (Symbol And) part_text ps)
LedTo on Apart p b xs text = (p ≡ []) × (1 ≤ length b) × (list_all is_branch b ≡ true) × (ranges_last xs ≡ true) × IsFilled on xs
    × (text ≡ begun (Symbol Or) branch_text b ++ joins on (Symbol And) atom_text xs)

abbrev pub LedToFound : Bool → Found → List Token → Type 0
LedToFound on w text = LedTo on w.mode w.public w.branches w.atoms text

abbrev pub items_text : List Item → List Token
items_text is = (Symbol Select) ∷ begun (Symbol Comma) item_text is

abbrev pub head_text : Head → List Token
head_text h = (Symbol Select) ∷ joined (Symbol Comma) item_text h.items ++ ((Symbol From) ∷ Name h.table ∷ [])

pub record LedPart (h : Head) (w : Found) (tokens behind : List Token) : Type 0 where
  pub some : 1 ≤ length h.items
  pub text : List Token
  pub led : LedToFound true w text
  pub on : may_go_on w ≡ true
  pub is : tokens ≡ (head_text h ++ ((Symbol Where) ∷ text)) ++ behind

pub record LedEnd (h : Head) (w : Found) (tokens : List Token) : Type 0 where
  pub some : 1 ≤ length h.items
  pub text : List Token
  pub led : LedToFound false w text
  pub is : tokens ≡ head_text h ++ ((Symbol Where) ∷ text)

pub record LedWhere (h : Head) (p : List Public) (br : List (List Atom)) (tokens behind : List Token) : Type 0 where
  pub some : 1 ≤ length h.items
  pub condition : Option Condition
  pub parts : IsWhere condition p br
  pub is : tokens ≡ (head_text h ++ where_text condition) ++ behind

abbrev pub head_of : QueryParts → Head
head_of q = record { items = q.items; table = q.table }

abbrev pub Led : State → List Token → Type 0
Led Start ts = ts ≡ []
Led (Items is) ts = ts ≡ items_text is
Led (CountOpen is) ts = ts ≡ items_text is ++ (Symbol Count) ∷ []
Led (CountStar is) ts = ts ≡ items_text is ++ (Symbol Count) ∷ (Symbol Open) ∷ []
Led (CountClose is) ts = ts ≡ items_text is ++ (Symbol Count) ∷ (Symbol Open) ∷ (Symbol Star) ∷ []
Led (AggregateOpen is c) ts = ts ≡ items_text is ++ Aggregate c ∷ []
Led (AggregateName is c) ts = ts ≡ items_text is ++ Aggregate c ∷ (Symbol Open) ∷ []
Led (AggregateClose is c n) ts = ts ≡ items_text is ++ Aggregate c ∷ (Symbol Open) ∷ Name n ∷ []
Led (TopOpen is) ts = ts ≡ items_text is ++ (Symbol TopK) ∷ []
Led (TopNumber is) ts = ts ≡ items_text is ++ (Symbol TopK) ∷ (Symbol Open) ∷ []
Led (TopSortComma is k) ts = ts ≡ items_text is ++ (Symbol TopK) ∷ (Symbol Open) ∷ Number k ∷ []
Led (TopSort is k) ts = ts ≡ items_text is ++ (Symbol TopK) ∷ (Symbol Open) ∷ Number k ∷ (Symbol Comma) ∷ []
Led (TopShowComma is k n) ts = ts ≡ items_text is ++ (Symbol TopK) ∷ (Symbol Open) ∷ Number k ∷ (Symbol Comma) ∷ Name n ∷ []
Led (TopShow is k n) ts = ts ≡ items_text is ++ (Symbol TopK) ∷ (Symbol Open) ∷ Number k ∷ (Symbol Comma) ∷ Name n ∷ (Symbol Comma) ∷ []
Led (TopClose is k n m) ts = ts ≡ items_text is ++ (Symbol TopK) ∷ (Symbol Open) ∷ Number k ∷ (Symbol Comma) ∷ Name n ∷ (Symbol Comma) ∷ Name m ∷ []
Led (ItemEnd is) ts = (1 ≤ length is) × (ts ≡ (Symbol Select) ∷ joined (Symbol Comma) item_text is)
Led (Table is) ts = (1 ≤ length is) × (ts ≡ ((Symbol Select) ∷ joined (Symbol Comma) item_text is) ++ (Symbol From) ∷ [])
Led (TableEnd h) ts = (1 ≤ length h.items) × (ts ≡ head_text h)
Led (PartStart h w) ts = LedPart h w ts []
Led (Named h w n) ts = LedPart h w ts (Name n ∷ [])
Led (Equal h w n) ts = LedPart h w ts (Name n ∷ (Symbol Equals) ∷ [])
Led (Low h w n) ts = LedPart h w ts (Name n ∷ (Symbol Between) ∷ [])
Led (Mark h w n) ts = (may_atom w ≡ true) × LedPart h w ts (Name n ∷ (Symbol Between) ∷ (Symbol Question) ∷ [])
Led (MarkAnd h w n) ts = (may_atom w ≡ true) × LedPart h w ts (Name n ∷ (Symbol Between) ∷ (Symbol Question) ∷ (Symbol And) ∷ [])
Led (Least h w n l) ts = (may_public_in w.mode ≡ true) × LedPart h w ts (Name n ∷ (Symbol Between) ∷ literal_text l ∷ [])
Led (LeastAnd h w n l) ts = (may_public_in w.mode ≡ true) × LedPart h w ts (Name n ∷ (Symbol Between) ∷ literal_text l ∷ (Symbol And) ∷ [])
Led (PartEnd h w) ts = LedEnd h w ts
Led (GroupBy h w) ts = LedWhere h w.public (with_atoms w.branches w.atoms) ts ((Symbol Group) ∷ [])
Led (GroupName h w) ts = LedWhere h w.public (with_atoms w.branches w.atoms) ts ((Symbol Group) ∷ (Symbol By) ∷ [])
Led (GroupEnd q) ts = LedWhere (head_of q) q.public q.branches ts (group_text q.group)
Led (Done q) ts = Reads ts q

publics_more : (ps : List Part) (qs : List Part) → publics_of (ps ++ qs) ≡ publics_of ps ++ publics_of qs
publics_more [] qs = refl
publics_more (Shown x ∷ ps) qs = ap (λ l. x ∷ l) (publics_more ps qs)
publics_more (Bare a ∷ ps) qs = publics_more ps qs
publics_more (Either bs ∷ ps) qs = publics_more ps qs

atoms_more : (ps : List Part) (qs : List Part) → atoms_of (ps ++ qs) ≡ atoms_of ps ++ atoms_of qs
atoms_more [] qs = refl
atoms_more (Shown x ∷ ps) qs = atoms_more ps qs
atoms_more (Bare a ∷ ps) qs = ap (λ l. a ∷ l) (atoms_more ps qs)
atoms_more (Either bs ∷ ps) qs = atoms_more ps qs

eithers_more : (ps : List Part) (qs : List Part) → eithers_of (ps ++ qs) ≡ eithers_of ps ++ eithers_of qs
eithers_more [] qs = refl
eithers_more (Shown x ∷ ps) qs = eithers_more ps qs
eithers_more (Bare a ∷ ps) qs = eithers_more ps qs
eithers_more (Either bs ∷ ps) qs = ap (λ l. bs ∷ l) (eithers_more ps qs)

pub parts_more : (ps qs : List Part) (p q : List Public) (xs ys : List Atom) (es fs : List (List (List Atom))) → PartsAre ps p xs es → PartsAre qs q ys fs → PartsAre (ps ++ qs) (p ++ q) (xs ++ ys) (es ++ fs)
parts_more ps qs p q xs ys es fs a b =
    let p1 = publics_more ps qs in
    let p2 = atoms_more ps qs in
    let p3 = eithers_more ps qs in
    let a1 = a.public in
    let a2 = a.atoms in
    let a3 = a.eithers in
    let b1 = b.public in
    let b2 = b.atoms in
    let b3 = b.eithers in
    record { public = cc; atoms = cc; eithers = cc }

-- bare atoms as parts
pub bare_parts : (xs : List Atom) → PartsAre (map Bare xs) [] xs []
bare_parts [] = record { public = refl; atoms = refl; eithers = refl }
bare_parts (x ∷ xs) = let i = bare_parts xs in record { public = i.public; atoms = ap (λ l. x ∷ l) i.atoms; eithers = i.eithers }

bare_flat : (xs : List Atom) → flat_map (λ y. (Symbol And) ∷ part_text y) (map Bare xs) ≡ flat_map (λ y. (Symbol And) ∷ atom_text y) xs
bare_flat [] = refl
bare_flat (x ∷ xs) = ap (λ l. ((Symbol And) ∷ atom_text x) ++ l) (bare_flat xs)

bare_begun : (xs : List Atom) → begun (Symbol And) part_text (map Bare xs) ≡ begun (Symbol And) atom_text xs
bare_begun [] = refl
bare_begun (x ∷ xs) = ap (λ l. (atom_text x ++ l) ++ (Symbol And) ∷ []) (bare_flat xs)

bare_joined : (xs : List Atom) → joined (Symbol And) part_text (map Bare xs) ≡ joined (Symbol And) atom_text xs
bare_joined [] = refl
bare_joined (x ∷ xs) = ap (λ l. atom_text x ++ l) (bare_flat xs)

pub longer : {A : Type 0} (xs : List A) (x : A) → 1 ≤ length (xs ++ x ∷ [])
longer xs x = omega (arith, length-append xs (x ∷ []))

-- one more element behind a separator, after some front
behind : {A : Type 0} (front : List Token) (separator : Token) (f : A → List Token) (xs : List A) (x : A) (text : List Token) → text ≡ front ++ begun separator f xs
    → text ++ f x ≡ front ++ joined separator f (xs ++ x ∷ [])
behind front separator f xs x text is =
    ap (λ l. l ++ f x) is ∙ append_assoc front (begun separator f xs) (f x) ∙ ap (λ l. front ++ l) (joined_more separator f xs x)

-- one more separator
closed : {A : Type 0} (front : List Token) (separator : Token) (f : A → List Token) (xs : List A) (text : List Token) → 1 ≤ length xs → text ≡ front ++ joined separator f xs
    → text ++ separator ∷ [] ≡ front ++ begun separator f xs
closed front separator f xs text some is =
    ap (λ l. l ++ separator ∷ []) is ∙ append_assoc front (joined separator f xs) (separator ∷ []) ∙ ap (λ l. front ++ l) (begun_of separator f xs some)

pub led_atom : (m : Mode) (p : List Public) (b : List (List Atom)) (xs : List Atom) (a : Atom) (text : List Token) → LedTo true m p b xs text → may_atom_in m ≡ true → ends_in_range xs ≡ false
    → LedTo false m p b (xs ++ a ∷ []) (text ++ atom_text a)
led_atom Atoms p b xs a text led may e = (led.0, led.1, one_more xs a led.2 e, longer xs a, behind [] (Symbol And) atom_text xs a text led.4)
led_atom Mixed p b xs a text led may e = (
  led.0 ++ Bare a ∷ [],
  subst (λ (l : List Public). PartsAre (led.0 ++ Bare a ∷ []) l (xs ++ a ∷ []) []) (append-nil p) (parts_more led.0 (Bare a ∷ []) p [] xs (a ∷ []) [] [] led.1 (record { public = refl; atoms = refl; eithers = refl })),
  led.2,
  one_more xs a led.3 e,
  longer led.0 (Bare a),
  behind [] (Symbol And) part_text led.0 (Bare a) text led.5,
)
led_atom Inside p b xs a text led may e = (
  led.0,
  led.1,
  led.2,
  one_more xs a led.3 e,
  longer xs a,
  behind (begun (Symbol And) part_text led.0 ++ ((Symbol Open) ∷ begun (Symbol Or) branch_text b)) (Symbol And) atom_text xs a text
      (led.5 ∙ sym (append_assoc (begun (Symbol And) part_text led.0) ((Symbol Open) ∷ begun (Symbol Or) branch_text b) (begun (Symbol And) atom_text xs)))
      ∙ append_assoc (begun (Symbol And) part_text led.0) ((Symbol Open) ∷ begun (Symbol Or) branch_text b) (joined (Symbol And) atom_text (xs ++ a ∷ [])),
)
led_atom Behind p b xs a text led may e = cc
led_atom Apart p b xs a text led may e = (led.0, led.1, led.2, one_more xs a led.3 e, longer xs a, behind (begun (Symbol Or) branch_text b) (Symbol And) atom_text xs a text led.5)

pub led_public : (m : Mode) (p : List Public) (b : List (List Atom)) (xs : List Atom) (x : Public) (text : List Token) → LedTo true m p b xs text → may_public_in m ≡ true
    → LedTo false (public_mode m) (p ++ x ∷ []) b xs (text ++ public_text x)
led_public Atoms p b xs x text led may = (
  map Bare xs ++ Shown x ∷ [],
  subst (λ (l : List Atom). PartsAre (map Bare xs ++ Shown x ∷ []) (p ++ x ∷ []) l []) (append-nil xs)
      (parts_more (map Bare xs) (Shown x ∷ []) p (x ∷ []) xs [] [] [] (subst (λ (l : List Public). PartsAre (map Bare xs) l xs []) (sym led.0) (bare_parts xs)) (record { public = refl; atoms = refl; eithers = refl })),
  led.1,
  led.2,
  longer (map Bare xs) (Shown x),
  behind [] (Symbol And) part_text (map Bare xs) (Shown x) text (led.4 ∙ sym (bare_begun xs)),
)
led_public Mixed p b xs x text led may = (
  led.0 ++ Shown x ∷ [],
  subst (λ (l : List Atom). PartsAre (led.0 ++ Shown x ∷ []) (p ++ x ∷ []) l []) (append-nil xs) (parts_more led.0 (Shown x ∷ []) p (x ∷ []) xs [] [] [] led.1 (record { public = refl; atoms = refl; eithers = refl })),
  led.2,
  led.3,
  longer led.0 (Shown x),
  behind [] (Symbol And) part_text led.0 (Shown x) text led.5,
)
led_public Inside p b xs x text led may = cc
led_public Behind p b xs x text led may = (
  led.0 ++ Shown x ∷ [],
  parts_more led.0 (Shown x ∷ []) p (x ∷ []) [] [] (b ∷ []) [] led.1 (record { public = refl; atoms = refl; eithers = refl }),
  led.2,
  led.3,
  longer led.0 (Shown x),
  behind [] (Symbol And) part_text led.0 (Shown x) text led.5,
)
led_public Apart p b xs x text led may = cc

pub led_and : (m : Mode) (p : List Public) (b : List (List Atom)) (xs : List Atom) (text : List Token) → LedTo false m p b xs text → LedTo true m p b xs (text ++ (Symbol And) ∷ [])
led_and Atoms p b xs text led = (led.0, led.1, led.2, tt, closed [] (Symbol And) atom_text xs text led.3 led.4)
led_and Mixed p b xs text led = (led.0, led.1, led.2, led.3, tt, closed [] (Symbol And) part_text led.0 text led.4 led.5)
led_and Inside p b xs text led = (
  led.0,
  led.1,
  led.2,
  led.3,
  tt,
  closed (begun (Symbol And) part_text led.0 ++ ((Symbol Open) ∷ begun (Symbol Or) branch_text b)) (Symbol And) atom_text xs text led.4
      (led.5 ∙ sym (append_assoc (begun (Symbol And) part_text led.0) ((Symbol Open) ∷ begun (Symbol Or) branch_text b) (joined (Symbol And) atom_text xs)))
      ∙ append_assoc (begun (Symbol And) part_text led.0) ((Symbol Open) ∷ begun (Symbol Or) branch_text b) (begun (Symbol And) atom_text xs),
)
led_and Behind p b xs text led = (led.0, led.1, led.2, led.3, tt, closed [] (Symbol And) part_text led.0 text led.4 led.5)
led_and Apart p b xs text led = (led.0, led.1, led.2, led.3, tt, closed (begun (Symbol Or) branch_text b) (Symbol And) atom_text xs text led.4 led.5)

is_branch_of : (xs : List Atom) → ranges_last xs ≡ true → 1 ≤ length xs → is_branch xs ≡ true
is_branch_of [] last some = absurd (omega arith)
is_branch_of (x ∷ xs) last some = last

all_more : (b : List (List Atom)) (xs : List Atom) → list_all is_branch b ≡ true → is_branch xs ≡ true → list_all is_branch (b ++ xs ∷ []) ≡ true
all_more [] xs all is = rw is
all_more (y ∷ b) xs all is = let h = both (is_branch y) (list_all is_branch b) all in let e = h.0 in rw e (all_more b xs h.1 is)

are_more : (b : List (List Atom)) (xs : List Atom) → list_all is_branch b ≡ true → is_branch xs ≡ true → are_branches (b ++ xs ∷ []) ≡ true
are_more [] xs all is = rw is
are_more (y ∷ b) xs all is = all_more (y ∷ b) xs all is

-- the branch is over, and OR comes
or_text : (front : List Token) (b : List (List Atom)) (xs : List Atom) (text : List Token) → text ≡ front ++ (begun (Symbol Or) branch_text b ++ joined (Symbol And) atom_text xs)
    → text ++ (Symbol Or) ∷ [] ≡ front ++ (begun (Symbol Or) branch_text (b ++ xs ∷ []) ++ [])
or_text front b xs text is =
    ap (λ l. l ++ (Symbol Or) ∷ []) (is ∙ ap (λ l. front ++ l) (joined_more (Symbol Or) branch_text b xs))
    ∙ append_assoc front (joined (Symbol Or) branch_text (b ++ xs ∷ [])) ((Symbol Or) ∷ [])
    ∙ ap (λ l. front ++ l) (begun_of (Symbol Or) branch_text (b ++ xs ∷ []) (longer b xs) ∙ sym (append-nil (begun (Symbol Or) branch_text (b ++ xs ∷ []))))

pub led_or : (m k : Mode) (p : List Public) (b : List (List Atom)) (xs : List Atom) (text : List Token) → LedTo false m p b xs text → or_in m ≡ Some k
    → LedTo true k p (b ++ xs ∷ []) [] (text ++ (Symbol Or) ∷ [])
led_or Atoms Apart p b xs text led or = (
  led.0,
  longer b xs,
  all_more b xs (ap (list_all is_branch) led.1) (is_branch_of xs led.2 led.3),
  refl,
  tt,
  or_text [] b xs text (led.4 ∙ ap (λ l. begun (Symbol Or) branch_text l ++ joined (Symbol And) atom_text xs) (sym led.1)),
)
led_or Inside Inside p b xs text led or = (
  led.0,
  led.1,
  all_more b xs led.2 (is_branch_of xs led.3 led.4),
  refl,
  tt,
  or_text (begun (Symbol And) part_text led.0 ++ (Symbol Open) ∷ []) b xs text
      (led.5 ∙ sym (append_assoc (begun (Symbol And) part_text led.0) ((Symbol Open) ∷ []) (begun (Symbol Or) branch_text b ++ joined (Symbol And) atom_text xs)))
      ∙ append_assoc (begun (Symbol And) part_text led.0) ((Symbol Open) ∷ []) (begun (Symbol Or) branch_text (b ++ xs ∷ []) ++ []),
)
led_or Apart Apart p b xs text led or =
    (led.0, longer b xs, all_more b xs led.2 (is_branch_of xs led.3 led.4), refl, tt, or_text [] b xs text led.5)
led_or Mixed k p b xs text led or = cc
led_or Behind k p b xs text led or = cc
led_or Atoms k p b xs text led or = cc
led_or Inside k p b xs text led or = cc
led_or Apart k p b xs text led or = cc

pub led_open : (m : Mode) (p : List Public) (b : List (List Atom)) (xs : List Atom) (text : List Token) → LedTo true m p b xs text → opens_in m ≡ true → none_yet xs ≡ true
    → LedTo true Inside p [] [] (text ++ (Symbol Open) ∷ [])
led_open Atoms p b [] text led may none =
    ([], record { public = sym led.0; atoms = refl; eithers = refl }, refl, refl, tt, ap (λ l. l ++ (Symbol Open) ∷ []) led.4)
led_open Atoms p b (x ∷ xs) text led may none = cc
led_open Mixed p b [] text led may none = (led.0, led.1, refl, refl, tt, ap (λ l. l ++ (Symbol Open) ∷ []) led.5)
led_open Mixed p b (x ∷ xs) text led may none = cc
led_open Inside p b xs text led may none = cc
led_open Behind p b xs text led may none = cc
led_open Apart p b xs text led may none = cc

pub led_close : (m : Mode) (p : List Public) (b : List (List Atom)) (xs : List Atom) (text : List Token) → LedTo false m p b xs text → close_in m ≡ true
    → LedTo false Behind p (b ++ xs ∷ []) [] (text ++ (Symbol Close) ∷ [])
led_close Inside p b xs text led may = (
  led.0 ++ Either (b ++ xs ∷ []) ∷ [],
  subst (λ (l : List Public). PartsAre (led.0 ++ Either (b ++ xs ∷ []) ∷ []) l [] ((b ++ xs ∷ []) ∷ [])) (append-nil p)
      (parts_more led.0 (Either (b ++ xs ∷ []) ∷ []) p [] [] [] [] ((b ++ xs ∷ []) ∷ []) led.1 (record { public = refl; atoms = refl; eithers = refl })),
  refl,
  are_more b xs led.2 (is_branch_of xs led.3 led.4),
  longer led.0 (Either (b ++ xs ∷ [])),
  ap (λ l. l ++ (Symbol Close) ∷ []) (led.5 ∙ ap (λ l. begun (Symbol And) part_text led.0 ++ ((Symbol Open) ∷ l)) (joined_more (Symbol Or) branch_text b xs))
      ∙ append_assoc (begun (Symbol And) part_text led.0) ((Symbol Open) ∷ joined (Symbol Or) branch_text (b ++ xs ∷ [])) ((Symbol Close) ∷ [])
      ∙ joined_more (Symbol And) part_text led.0 (Either (b ++ xs ∷ [])),
)
led_close Atoms p b xs text led may = cc
led_close Mixed p b xs text led may = cc
led_close Behind p b xs text led may = cc
led_close Apart p b xs text led may = cc

-- where the condition may end it is one
pub record Ends (p : List Public) (br : List (List Atom)) (text : List Token) : Type 0 where
  pub condition : Condition
  pub parts : IsCondition condition p br
  pub is : text ≡ condition_text condition

bare_branches : (xs : List Atom) → ranges_last xs ≡ true → BranchesOf xs [] (with_atoms [] xs)
bare_branches [] last = refl
bare_branches (x ∷ xs) last = (last, refl)

some_bare : (xs : List Atom) → 1 ≤ length xs → 1 ≤ length (map Bare xs)
some_bare [] some = absurd (omega arith)
some_bare (x ∷ xs) some = omega arith

with_last : (done : List (List Atom)) (last : List Atom) → 1 ≤ length last → with_atoms done last ≡ done ++ last ∷ []
with_last done [] is = absurd (omega arith)
with_last done (a ∷ more) is = refl

pub led_ends : (m : Mode) (p : List Public) (b : List (List Atom)) (xs : List Atom) (text : List Token) → LedTo false m p b xs text → ends_in m ≡ true → Ends p (with_atoms b xs) text
led_ends Atoms p b xs text led may =
    let are = bare_parts xs in
    record {
      condition = Parts (map Bare xs);
      parts = (
        some_bare xs led.3,
        led.0 ∙ sym are.public,
        rw (are.atoms, are.eithers, led.1) (bare_branches xs led.2),
      );
      is = led.4 ∙ sym (bare_joined xs);
    }
led_ends Mixed p b xs text led may = record {
  condition = Parts led.0;
  parts = (led.4, sym led.1.public, rw (led.1.atoms, led.1.eithers, led.2) (bare_branches xs led.3));
  is = led.5;
}
led_ends Behind p b xs text led may = record {
  condition = Parts led.0;
  parts = (led.4, sym led.1.public, rw (led.1.atoms, led.1.eithers, led.2) (led.3, refl));
  is = led.5;
}
led_ends Apart p b xs text led may = record {
  condition = Branches (b ++ xs ∷ []);
  parts = (led.0, omega (arith, length-append b (xs ∷ []), led.1), all_more b xs led.2 (is_branch_of xs led.3 led.4), with_last b xs led.4);
  is = led.5 ∙ joined_more (Symbol Or) branch_text b xs;
}
led_ends Inside p b xs text led may = cc
