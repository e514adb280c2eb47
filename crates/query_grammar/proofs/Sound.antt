-- What the machine accepts the grammar reads, and each state has a completion.
use Rattle.std.proofs.Common.{◌≡◌, ℕ, ◌≤◌, Bool, true, false, not, ◌&&◌, ◌||◌, List, [], ◌∷◌, ◌++◌, Option, Some, None, IfSome, length, refl, sym, ◌∙◌, ap, subst, append_assoc}
use Rattle.std.proofs.lemmas.List.{append-nil}
use Rattle.query_grammar.specs.declared.item.Item.{Item}
use Rattle.query_grammar.specs.declared.item.Item.TheVariants as item
use Rattle.query_grammar.specs.declared.condition.Literal.TheVariants as literal
use Rattle.query_grammar.specs.declared.condition.Public.{Public}
use Rattle.query_grammar.specs.declared.condition.Public.TheVariants as public
use Rattle.query_grammar.specs.declared.condition.Atom.{Atom}
use Rattle.query_grammar.specs.declared.condition.Atom.TheVariants as atom
use Rattle.query_grammar.specs.declared.token.Aggregate.TheVariants as aggregate
use Rattle.query_grammar.specs.declared.token.Token.{Token}
use Rattle.query_grammar.specs.declared.token.Token.TheVariants.{Symbol, Aggregate, Name, Number, Text}
use Rattle.query_grammar.specs.declared.token.Symbol.TheVariants.{Select, From, Where, And, Or, Between, Group, By, Count, TopK, Open, Close, Comma, Star, Equals, Question, Semicolon}
use Rattle.query_grammar.specs.Queries.{QueryParts, ends_in_range}
use Rattle.query_grammar.specs.Grammar.{joined, item_text, literal_text, public_text, atom_text, condition_text, where_text, group_text, end_text, Reads, IsBeginning}
use Rattle.query_grammar.specs.declared.mode.Mode.{Mode}
use Rattle.query_grammar.specs.declared.mode.Mode.TheVariants.{Atoms, Mixed, Inside, Behind, Apart}
use Rattle.query_grammar.specs.Machine.{Found, Head, nothing_found, may_atom, may_go_on, may_atom_in, may_public_in, none_yet, opens_in, ends_in, or_in, close_in, add_atom, add_public, opened, close, with_atoms, query_of, if_may, or_step, if_ends, State, Start, Items, CountOpen, CountStar, CountClose, AggregateOpen, AggregateName, AggregateClose, TopOpen, TopNumber, TopSortComma, TopSort, TopShowComma, TopShow, TopClose, ItemEnd, Table, TableEnd, PartStart, Named, Equal, Low, Mark, MarkAnd, Least, LeastAnd, PartEnd, GroupBy, GroupName, GroupEnd, Done, aggregate_item, step, finish, finished, run}
use Rattle.query_grammar.proofs.AtomLists.{both}
use Rattle.query_grammar.proofs.Complete.{accepted}
use Rattle.query_grammar.proofs.Led.{joined_more, begun_of, items_text, head_text, LedPart, LedEnd, LedWhere, head_of, Led, longer, led_atom, led_public, led_and, led_or, led_open, led_close, led_ends}

grow : (a b : List Token) (t : Token) (ts : List Token) → ts ≡ a ++ b → ts ++ t ∷ [] ≡ a ++ (b ++ t ∷ [])
grow a b t ts h = ap (λ l. l ++ t ∷ []) h ∙ append_assoc a b (t ∷ [])

item_aggregate : (is : List Item) (i : Item) (ts front : List Token) (t : Token) → ts ≡ items_text is ++ front → front ++ t ∷ [] ≡ item_text i
    → (1 ≤ length (is ++ i ∷ [])) × (ts ++ t ∷ [] ≡ (Symbol Select) ∷ joined (Symbol Comma) item_text (is ++ i ∷ []))
item_aggregate is i ts front t h e =
    (longer is i, grow (items_text is) front t ts h ∙ ap (λ l. items_text is ++ l) e ∙ ap (λ l. (Symbol Select) ∷ l) (joined_more (Symbol Comma) item_text is i))

if_led : (b : Bool) (s : State) (ts : List Token) → (b ≡ true → Led s ts) → IfSome (if_may b s) (λ z. Led z ts)
if_led true s ts f = f refl
if_led false s ts f = tt

part_more : (h : Head) (w : Found) (ts behind : List Token) (t : Token) → LedPart h w ts behind → LedPart h w (ts ++ t ∷ []) (behind ++ t ∷ [])
part_more h w ts behind t l = record { some = l.some; text = l.text; led = l.led; on = l.on; is = grow (head_text h ++ ((Symbol Where) ∷ l.text)) behind t ts l.is }

no_range_here : (b : Bool) → not b ≡ true → b ≡ false
no_range_here true h = sym h
no_range_here false h = refl

-- the part is over
part_over : (h : Head) (text more ts : List Token) → ts ≡ (head_text h ++ ((Symbol Where) ∷ text)) ++ more → ts ≡ head_text h ++ ((Symbol Where) ∷ (text ++ more))
part_over h text more ts is = is ∙ append_assoc (head_text h) ((Symbol Where) ∷ text) more

atom_over : (h : Head) (w : Found) (a : Atom) (ts behind : List Token) (t : Token) → may_atom w ≡ true → LedPart h w ts behind → behind ++ t ∷ [] ≡ atom_text a
    → LedEnd h (add_atom w a) (ts ++ t ∷ [])
atom_over h w a ts behind t may l e =
    let both_may = both (may_atom_in w.mode) (not (ends_in_range w.atoms)) may in
    record {
      some = l.some;
      text = l.text ++ atom_text a;
      led = led_atom w.mode w.public w.branches w.atoms a l.text l.led both_may.0 (no_range_here (ends_in_range w.atoms) both_may.1);
      is = part_over h l.text (atom_text a) (ts ++ t ∷ []) (grow (head_text h ++ ((Symbol Where) ∷ l.text)) behind t ts l.is ∙ ap (λ m. (head_text h ++ ((Symbol Where) ∷ l.text)) ++ m) e);
    }

public_over : (h : Head) (w : Found) (x : Public) (ts behind : List Token) (t : Token) → may_public_in w.mode ≡ true → LedPart h w ts behind → behind ++ t ∷ [] ≡ public_text x
    → LedEnd h (add_public w x) (ts ++ t ∷ [])
public_over h w x ts behind t may l e = record {
  some = l.some;
  text = l.text ++ public_text x;
  led = led_public w.mode w.public w.branches w.atoms x l.text l.led may;
  is = part_over h l.text (public_text x) (ts ++ t ∷ []) (grow (head_text h ++ ((Symbol Where) ∷ l.text)) behind t ts l.is ∙ ap (λ m. (head_text h ++ ((Symbol Where) ∷ l.text)) ++ m) e);
}

or_may : (m k : Mode) → or_in m ≡ Some k → (may_public_in k || true) ≡ true
or_may m Atoms h = refl
or_may m Mixed h = refl
or_may m Inside h = refl
or_may m Behind h = refl
or_may m Apart h = refl

or_led : (h : Head) (w : Found) (ts : List Token) (k : Option Mode) → or_in w.mode ≡ k → LedEnd h w ts → IfSome (or_step h w k) (λ z. Led z (ts ++ (Symbol Or) ∷ []))
or_led h w ts None e l = tt
or_led h w ts (Some k) e l = record {
  some = l.some;
  text = l.text ++ (Symbol Or) ∷ [];
  led = led_or w.mode k w.public w.branches w.atoms l.text l.led e;
  on = or_may w.mode k e;
  is = grow (head_text h) ((Symbol Where) ∷ l.text) (Symbol Or) ts l.is ∙ sym (append-nil (head_text h ++ ((Symbol Where) ∷ (l.text ++ (Symbol Or) ∷ []))));
}

and_led : (h : Head) (w : Found) (ts : List Token) → LedEnd h w ts → may_go_on w ≡ true → LedPart h w (ts ++ (Symbol And) ∷ []) []
and_led h w ts l may = record {
  some = l.some;
  text = l.text ++ (Symbol And) ∷ [];
  led = led_and w.mode w.public w.branches w.atoms l.text l.led;
  on = may;
  is = grow (head_text h) ((Symbol Where) ∷ l.text) (Symbol And) ts l.is ∙ sym (append-nil (head_text h ++ ((Symbol Where) ∷ (l.text ++ (Symbol And) ∷ []))));
}

open_led : (h : Head) (w : Found) (ts : List Token) → LedPart h w ts [] → (opens_in w.mode && none_yet w.atoms) ≡ true → LedPart h (opened w) (ts ++ (Symbol Open) ∷ []) []
open_led h w ts l may =
    let both_may = both (opens_in w.mode) (none_yet w.atoms) may in
    record {
      some = l.some;
      text = l.text ++ (Symbol Open) ∷ [];
      led = led_open w.mode w.public w.branches w.atoms l.text l.led both_may.0 both_may.1;
      on = refl;
      is = grow (head_text h) ((Symbol Where) ∷ l.text) (Symbol Open) ts (l.is ∙ append-nil (head_text h ++ ((Symbol Where) ∷ l.text))) ∙ sym (append-nil (head_text h ++ ((Symbol Where) ∷ (l.text ++ (Symbol Open) ∷ []))));
    }

close_led : (h : Head) (w : Found) (ts : List Token) → LedEnd h w ts → close_in w.mode ≡ true → LedEnd h (close w) (ts ++ (Symbol Close) ∷ [])
close_led h w ts l may = record {
  some = l.some;
  text = l.text ++ (Symbol Close) ∷ [];
  led = led_close w.mode w.public w.branches w.atoms l.text l.led may;
  is = grow (head_text h) ((Symbol Where) ∷ l.text) (Symbol Close) ts l.is;
}

-- with the condition that is over
where_led : (h : Head) (w : Found) (ts : List Token) → LedEnd h w ts → ends_in w.mode ≡ true → LedWhere h w.public (with_atoms w.branches w.atoms) ts []
where_led h w ts l may =
    let e = led_ends w.mode w.public w.branches w.atoms l.text l.led may in
    record {
      some = l.some;
      condition = Some e.condition;
      parts = e.parts;
      is = l.is ∙ ap (λ m. head_text h ++ ((Symbol Where) ∷ m)) e.is ∙ sym (append-nil (head_text h ++ ((Symbol Where) ∷ condition_text e.condition)));
    }

nowhere_led : (h : Head) (ts : List Token) → 1 ≤ length h.items → ts ≡ head_text h → LedWhere h [] [] ts []
nowhere_led h ts some is = record {
  some = some;
  condition = None;
  parts = (refl, refl);
  is = is ∙ sym (append-nil (head_text h)) ∙ sym (append-nil (head_text h ++ []));
}

where_more : (h : Head) (p : List Public) (br : List (List Atom)) (ts behind : List Token) (t : Token) → LedWhere h p br ts behind → LedWhere h p br (ts ++ t ∷ []) (behind ++ t ∷ [])
where_more h p br ts behind t l = record { some = l.some; condition = l.condition; parts = l.parts; is = grow (head_text h ++ where_text l.condition) behind t ts l.is }

-- the query ends here
ended : (q : QueryParts) (ts : List Token) (end : Bool) → LedWhere (head_of q) q.public q.branches ts (group_text q.group ++ end_text end) → Reads ts q
ended q ts end l = record {
  condition = l.condition;
  ended = end;
  some = l.some;
  parts = l.parts;
  text =
      l.is
      ∙ append_assoc (head_text (head_of q)) (where_text l.condition) (group_text q.group ++ end_text end)
      ∙ ap (λ m. (Symbol Select) ∷ m)
      (append_assoc (joined (Symbol Comma) item_text q.items) ((Symbol From) ∷ Name q.table ∷ []) (where_text l.condition ++ (group_text q.group ++ end_text end)));
}

led_step : (s : State) (t : Token) (ts : List Token) → Led s ts → IfSome (step s t) (λ z. Led z (ts ++ t ∷ []))
led_step Start (Symbol Select) ts l = ap (λ m. m ++ (Symbol Select) ∷ []) l
led_step (Items is) (Symbol Count) ts l = ap (λ m. m ++ (Symbol Count) ∷ []) l
led_step (Items is) (Aggregate c) ts l = ap (λ m. m ++ Aggregate c ∷ []) l
led_step (Items is) (Symbol TopK) ts l = ap (λ m. m ++ (Symbol TopK) ∷ []) l
led_step (CountOpen is) (Symbol Open) ts l = grow (items_text is) ((Symbol Count) ∷ []) (Symbol Open) ts l
led_step (CountStar is) (Symbol Star) ts l = grow (items_text is) ((Symbol Count) ∷ (Symbol Open) ∷ []) (Symbol Star) ts l
led_step (CountClose is) (Symbol Close) ts l = item_aggregate is item.Count ts ((Symbol Count) ∷ (Symbol Open) ∷ (Symbol Star) ∷ []) (Symbol Close) l refl
led_step (AggregateOpen is c) (Symbol Open) ts l = grow (items_text is) (Aggregate c ∷ []) (Symbol Open) ts l
led_step (AggregateName is c) (Name n) ts l = grow (items_text is) (Aggregate c ∷ (Symbol Open) ∷ []) (Name n) ts l
led_step (AggregateClose is aggregate.Sum n) (Symbol Close) ts l = item_aggregate is (item.Sum n) ts (Aggregate aggregate.Sum ∷ (Symbol Open) ∷ Name n ∷ []) (Symbol Close) l refl
led_step (AggregateClose is aggregate.Avg n) (Symbol Close) ts l = item_aggregate is (item.Avg n) ts (Aggregate aggregate.Avg ∷ (Symbol Open) ∷ Name n ∷ []) (Symbol Close) l refl
led_step (AggregateClose is aggregate.Max n) (Symbol Close) ts l = item_aggregate is (item.Max n) ts (Aggregate aggregate.Max ∷ (Symbol Open) ∷ Name n ∷ []) (Symbol Close) l refl
led_step (AggregateClose is aggregate.Min n) (Symbol Close) ts l = item_aggregate is (item.Min n) ts (Aggregate aggregate.Min ∷ (Symbol Open) ∷ Name n ∷ []) (Symbol Close) l refl
led_step (TopOpen is) (Symbol Open) ts l = grow (items_text is) ((Symbol TopK) ∷ []) (Symbol Open) ts l
led_step (TopNumber is) (Number k) ts l = grow (items_text is) ((Symbol TopK) ∷ (Symbol Open) ∷ []) (Number k) ts l
led_step (TopSortComma is k) (Symbol Comma) ts l = grow (items_text is) ((Symbol TopK) ∷ (Symbol Open) ∷ Number k ∷ []) (Symbol Comma) ts l
led_step (TopSort is k) (Name n) ts l = grow (items_text is) ((Symbol TopK) ∷ (Symbol Open) ∷ Number k ∷ (Symbol Comma) ∷ []) (Name n) ts l
led_step (TopShowComma is k n) (Symbol Comma) ts l = grow (items_text is) ((Symbol TopK) ∷ (Symbol Open) ∷ Number k ∷ (Symbol Comma) ∷ Name n ∷ []) (Symbol Comma) ts l
led_step (TopShow is k n) (Name m) ts l = grow (items_text is) ((Symbol TopK) ∷ (Symbol Open) ∷ Number k ∷ (Symbol Comma) ∷ Name n ∷ (Symbol Comma) ∷ []) (Name m) ts l
led_step (TopClose is k n m) (Symbol Close) ts l = item_aggregate is (item.TopK k n m) ts ((Symbol TopK) ∷ (Symbol Open) ∷ Number k ∷ (Symbol Comma) ∷ Name n ∷ (Symbol Comma) ∷ Name m ∷ []) (Symbol Close) l refl
led_step (ItemEnd is) (Symbol Comma) ts l = ap (λ m. m ++ (Symbol Comma) ∷ []) l.1 ∙ ap (λ m. (Symbol Select) ∷ m) (begun_of (Symbol Comma) item_text is l.0)
led_step (ItemEnd is) (Symbol From) ts l = (l.0, ap (λ m. m ++ (Symbol From) ∷ []) l.1)
led_step (Table is) (Name n) ts l =
    (l.0, grow ((Symbol Select) ∷ joined (Symbol Comma) item_text is) ((Symbol From) ∷ []) (Name n) ts l.1)
led_step (TableEnd h) (Symbol Where) ts l = record {
  some = l.0;
  text = [];
  led = (refl, refl, refl, tt, refl);
  on = refl;
  is = ap (λ m. m ++ (Symbol Where) ∷ []) l.1 ∙ sym (append-nil (head_text h ++ ((Symbol Where) ∷ [])));
}
led_step (TableEnd h) (Symbol Group) ts l = where_more h [] [] ts [] (Symbol Group) (nowhere_led h ts l.0 l.1)
led_step (TableEnd h) (Symbol Semicolon) ts l = ended (query_of h nothing_found None) (ts ++ (Symbol Semicolon) ∷ []) true (where_more h [] [] ts [] (Symbol Semicolon) (nowhere_led h ts l.0 l.1))
led_step (PartStart h w) (Name n) ts l = part_more h w ts [] (Name n) l
led_step (PartStart h w) (Symbol Open) ts l = if_led (opens_in w.mode && none_yet w.atoms) (PartStart h (opened w)) (ts ++ (Symbol Open) ∷ []) (open_led h w ts l)
led_step (Named h w n) (Symbol Equals) ts l = part_more h w ts (Name n ∷ []) (Symbol Equals) l
led_step (Named h w n) (Symbol Between) ts l = part_more h w ts (Name n ∷ []) (Symbol Between) l
led_step (Equal h w n) (Symbol Question) ts l =
    if_led (may_atom w) (PartEnd h (add_atom w (atom.Equal n))) (ts ++ (Symbol Question) ∷ []) (λ may. atom_over h w (atom.Equal n) ts (Name n ∷ (Symbol Equals) ∷ []) (Symbol Question) may l refl)
led_step (Equal h w n) (Number k) ts l =
    if_led (may_public_in w.mode) (PartEnd h (add_public w (public.Equal n (literal.Number k)))) (ts ++ Number k ∷ [])
    (λ may. public_over h w (public.Equal n (literal.Number k)) ts (Name n ∷ (Symbol Equals) ∷ []) (Number k) may l refl)
led_step (Equal h w n) (Text k) ts l =
    if_led (may_public_in w.mode) (PartEnd h (add_public w (public.Equal n (literal.Text k)))) (ts ++ Text k ∷ [])
    (λ may. public_over h w (public.Equal n (literal.Text k)) ts (Name n ∷ (Symbol Equals) ∷ []) (Text k) may l refl)
led_step (Low h w n) (Symbol Question) ts l = if_led (may_atom w) (Mark h w n) (ts ++ (Symbol Question) ∷ []) (λ may. (may, part_more h w ts (Name n ∷ (Symbol Between) ∷ []) (Symbol Question) l))
led_step (Low h w n) (Number k) ts l =
    if_led (may_public_in w.mode) (Least h w n (literal.Number k)) (ts ++ Number k ∷ []) (λ may. (may, part_more h w ts (Name n ∷ (Symbol Between) ∷ []) (Number k) l))
led_step (Low h w n) (Text k) ts l =
    if_led (may_public_in w.mode) (Least h w n (literal.Text k)) (ts ++ Text k ∷ []) (λ may. (may, part_more h w ts (Name n ∷ (Symbol Between) ∷ []) (Text k) l))
led_step (Mark h w n) (Symbol And) ts l = (l.0, part_more h w ts (Name n ∷ (Symbol Between) ∷ (Symbol Question) ∷ []) (Symbol And) l.1)
led_step (MarkAnd h w n) (Symbol Question) ts l = atom_over h w (atom.Between n) ts (Name n ∷ (Symbol Between) ∷ (Symbol Question) ∷ (Symbol And) ∷ []) (Symbol Question) l.0 l.1 refl
led_step (Least h w n k) (Symbol And) ts l = (l.0, part_more h w ts (Name n ∷ (Symbol Between) ∷ literal_text k ∷ []) (Symbol And) l.1)
led_step (LeastAnd h w n k) (Number j) ts l = public_over h w (public.Between n k (literal.Number j)) ts (Name n ∷ (Symbol Between) ∷ literal_text k ∷ (Symbol And) ∷ []) (Number j) l.0 l.1 refl
led_step (LeastAnd h w n k) (Text j) ts l = public_over h w (public.Between n k (literal.Text j)) ts (Name n ∷ (Symbol Between) ∷ literal_text k ∷ (Symbol And) ∷ []) (Text j) l.0 l.1 refl
led_step (PartEnd h w) (Symbol And) ts l = if_led (may_go_on w) (PartStart h w) (ts ++ (Symbol And) ∷ []) (and_led h w ts l)
led_step (PartEnd h w) (Symbol Or) ts l = or_led h w ts (or_in w.mode) refl l
led_step (PartEnd h w) (Symbol Close) ts l = if_led (close_in w.mode) (PartEnd h (close w)) (ts ++ (Symbol Close) ∷ []) (close_led h w ts l)
led_step (PartEnd h w) (Symbol Group) ts l =
    if_led (ends_in w.mode) (GroupBy h w) (ts ++ (Symbol Group) ∷ []) (λ may. where_more h w.public (with_atoms w.branches w.atoms) ts [] (Symbol Group) (where_led h w ts l may))
led_step (PartEnd h w) (Symbol Semicolon) ts l =
    if_led (ends_in w.mode) (Done (query_of h w None)) (ts ++ (Symbol Semicolon) ∷ [])
    (λ may. ended (query_of h w None) (ts ++ (Symbol Semicolon) ∷ []) true (where_more h w.public (with_atoms w.branches w.atoms) ts [] (Symbol Semicolon) (where_led h w ts l may)))
led_step (GroupBy h w) (Symbol By) ts l = where_more h w.public (with_atoms w.branches w.atoms) ts ((Symbol Group) ∷ []) (Symbol By) l
led_step (GroupName h w) (Name n) ts l = where_more h w.public (with_atoms w.branches w.atoms) ts ((Symbol Group) ∷ (Symbol By) ∷ []) (Name n) l
led_step (GroupEnd q) (Symbol Semicolon) ts l = ended q (ts ++ (Symbol Semicolon) ∷ []) true (where_more (head_of q) q.public q.branches ts (group_text q.group) (Symbol Semicolon) l)
led_step _ _ ts l = tt

if_ended : (b : Bool) (q : QueryParts) (ts : List Token) → (b ≡ true → Reads ts q) → IfSome (if_ends b q) (λ z. Reads ts z)
if_ended true q ts f = f refl
if_ended false q ts f = tt

led_finish : (s : State) (ts : List Token) → Led s ts → IfSome (finish s) (λ q. Reads ts q)
led_finish (TableEnd h) ts l = ended (query_of h nothing_found None) ts false (nowhere_led h ts l.0 l.1)
led_finish (PartEnd h w) ts l = if_ended (ends_in w.mode) (query_of h w None) ts (λ may. ended (query_of h w None) ts false (where_led h w ts l may))
led_finish (GroupEnd q) ts l = ended q ts false (subst (λ (m : List Token). LedWhere (head_of q) q.public q.branches ts m) (sym (append-nil (group_text q.group))) l)
led_finish (Done q) ts l = l
led_finish _ ts l = tt

-- every state reached has a completion
pub record Completes (s : State) : Type 0 where
  pub tokens : List Token
  pub query : QueryParts
  pub is : finished (run (Some s) tokens) ≡ Some query

ends_well : (h : Head) (m : Mode) (p : List Public) (b : List (List Atom)) (xs : List Atom) → Completes (PartEnd h (record { mode = m; public = p; branches = b; atoms = xs }))
ends_well h Atoms p b xs = record { tokens = []; query = query_of h (record { mode = Atoms; public = p; branches = b; atoms = xs }) None; is = refl }
ends_well h Mixed p b xs = record { tokens = []; query = query_of h (record { mode = Mixed; public = p; branches = b; atoms = xs }) None; is = refl }
ends_well h Inside p b xs = record { tokens = (Symbol Close) ∷ []; query = query_of h (close (record { mode = Inside; public = p; branches = b; atoms = xs })) None; is = refl }
ends_well h Behind p b xs = record { tokens = []; query = query_of h (record { mode = Behind; public = p; branches = b; atoms = xs }) None; is = refl }
ends_well h Apart p b xs = record { tokens = []; query = query_of h (record { mode = Apart; public = p; branches = b; atoms = xs }) None; is = refl }

end_of : (h : Head) (w : Found) → Completes (PartEnd h w)
end_of h w = ends_well h w.mode w.public w.branches w.atoms

-- some tokens, and then a completion
before : (s z : State) (ts : List Token) → ((more : List Token) → run (Some s) (ts ++ more) ≡ run (Some z) more) → Completes z → Completes s
before s z ts e c = record { tokens = ts ++ c.tokens; query = c.query; is = ap finished (e c.tokens) ∙ c.is }

-- a public or an atom may stand here
pub data Goes (w : Found) : Type 0 where
  shows : may_public_in w.mode ≡ true → Goes w
  hides : may_atom w ≡ true → Goes w

goes : (m : Mode) (p : List Public) (b : List (List Atom)) (xs : List Atom) → (may_public_in m || not (ends_in_range xs)) ≡ true → Goes (record { mode = m; public = p; branches = b; atoms = xs })
goes Atoms p b xs may = shows refl
goes Mixed p b xs may = shows refl
goes Inside p b xs may = hides may
goes Behind p b xs may = shows refl
goes Apart p b xs may = hides may

goes_on : (w : Found) → may_go_on w ≡ true → Goes w
goes_on w may = goes w.mode w.public w.branches w.atoms may

equal_on : (h : Head) (w : Found) (n : List ℕ) → Goes w → Completes (Equal h w n)
equal_on h w n (shows may) =
    before (Equal h w n) (PartEnd h (add_public w (public.Equal n (literal.Number 1)))) (Number 1 ∷ [])
    (λ more. ap (λ b. run (if_may b (PartEnd h (add_public w (public.Equal n (literal.Number 1))))) more) may) (end_of h (add_public w (public.Equal n (literal.Number 1))))
equal_on h w n (hides may) =
    before (Equal h w n) (PartEnd h (add_atom w (atom.Equal n))) ((Symbol Question) ∷ [])
    (λ more. ap (λ b. run (if_may b (PartEnd h (add_atom w (atom.Equal n)))) more) may) (end_of h (add_atom w (atom.Equal n)))

low_on : (h : Head) (w : Found) (n : List ℕ) → Goes w → Completes (Low h w n)
low_on h w n (shows may) =
    before (Low h w n) (PartEnd h (add_public w (public.Between n (literal.Number 1) (literal.Number 1)))) (Number 1 ∷ (Symbol And) ∷ Number 1 ∷ [])
    (λ more. ap (λ b. run (if_may b (Least h w n (literal.Number 1))) ((Symbol And) ∷ Number 1 ∷ more)) may)
    (end_of h (add_public w (public.Between n (literal.Number 1) (literal.Number 1))))
low_on h w n (hides may) =
    before (Low h w n) (PartEnd h (add_atom w (atom.Between n))) ((Symbol Question) ∷ (Symbol And) ∷ (Symbol Question) ∷ [])
    (λ more. ap (λ b. run (if_may b (Mark h w n)) ((Symbol And) ∷ (Symbol Question) ∷ more)) may) (end_of h (add_atom w (atom.Between n)))

start_on : (h : Head) (w : Found) → Goes w → Completes (PartStart h w)
start_on h w g = before (PartStart h w) (Equal h w (97 ∷ [])) (Name (97 ∷ []) ∷ (Symbol Equals) ∷ []) (λ more. refl) (equal_on h w (97 ∷ []) g)

table_on : (is : List Item) → Completes (Table is)
table_on is = record { tokens = Name (97 ∷ []) ∷ []; query = query_of (record { items = is; table = 97 ∷ [] }) nothing_found None; is = refl }

item_on : (is : List Item) → Completes (ItemEnd is)
item_on is = before (ItemEnd is) (Table is) ((Symbol From) ∷ []) (λ more. refl) (table_on is)

top_on : (is : List Item) (k : ℕ) → Completes (TopSortComma is k)
top_on is k =
    before (TopSortComma is k) (ItemEnd (is ++ item.TopK k (97 ∷ []) (97 ∷ []) ∷ [])) ((Symbol Comma) ∷ Name (97 ∷ []) ∷ (Symbol Comma) ∷ Name (97 ∷ []) ∷ (Symbol Close) ∷ []) (λ more. refl)
    (item_on (is ++ item.TopK k (97 ∷ []) (97 ∷ []) ∷ []))

completes : (s : State) (ts : List Token) → Led s ts → Completes s
completes Start ts l = before Start (ItemEnd (item.Count ∷ [])) ((Symbol Select) ∷ (Symbol Count) ∷ (Symbol Open) ∷ (Symbol Star) ∷ (Symbol Close) ∷ []) (λ more. refl) (item_on (item.Count ∷ []))
completes (Items is) ts l = before (Items is) (ItemEnd (is ++ item.Count ∷ [])) ((Symbol Count) ∷ (Symbol Open) ∷ (Symbol Star) ∷ (Symbol Close) ∷ []) (λ more. refl) (item_on (is ++ item.Count ∷ []))
completes (CountOpen is) ts l = before (CountOpen is) (ItemEnd (is ++ item.Count ∷ [])) ((Symbol Open) ∷ (Symbol Star) ∷ (Symbol Close) ∷ []) (λ more. refl) (item_on (is ++ item.Count ∷ []))
completes (CountStar is) ts l = before (CountStar is) (ItemEnd (is ++ item.Count ∷ [])) ((Symbol Star) ∷ (Symbol Close) ∷ []) (λ more. refl) (item_on (is ++ item.Count ∷ []))
completes (CountClose is) ts l = before (CountClose is) (ItemEnd (is ++ item.Count ∷ [])) ((Symbol Close) ∷ []) (λ more. refl) (item_on (is ++ item.Count ∷ []))
completes (AggregateOpen is c) ts l =
    before (AggregateOpen is c) (ItemEnd (is ++ aggregate_item c (97 ∷ []) ∷ [])) ((Symbol Open) ∷ Name (97 ∷ []) ∷ (Symbol Close) ∷ []) (λ more. refl) (item_on (is ++ aggregate_item c (97 ∷ []) ∷ []))
completes (AggregateName is c) ts l = before (AggregateName is c) (ItemEnd (is ++ aggregate_item c (97 ∷ []) ∷ [])) (Name (97 ∷ []) ∷ (Symbol Close) ∷ []) (λ more. refl) (item_on (is ++ aggregate_item c (97 ∷ []) ∷ []))
completes (AggregateClose is c n) ts l = before (AggregateClose is c n) (ItemEnd (is ++ aggregate_item c n ∷ [])) ((Symbol Close) ∷ []) (λ more. refl) (item_on (is ++ aggregate_item c n ∷ []))
completes (TopOpen is) ts l = before (TopOpen is) (TopSortComma is 1) ((Symbol Open) ∷ Number 1 ∷ []) (λ more. refl) (top_on is 1)
completes (TopNumber is) ts l = before (TopNumber is) (TopSortComma is 1) (Number 1 ∷ []) (λ more. refl) (top_on is 1)
completes (TopSortComma is k) ts l = top_on is k
completes (TopSort is k) ts l =
    before (TopSort is k) (ItemEnd (is ++ item.TopK k (97 ∷ []) (97 ∷ []) ∷ [])) (Name (97 ∷ []) ∷ (Symbol Comma) ∷ Name (97 ∷ []) ∷ (Symbol Close) ∷ []) (λ more. refl)
    (item_on (is ++ item.TopK k (97 ∷ []) (97 ∷ []) ∷ []))
completes (TopShowComma is k n) ts l =
    before (TopShowComma is k n) (ItemEnd (is ++ item.TopK k n (97 ∷ []) ∷ [])) ((Symbol Comma) ∷ Name (97 ∷ []) ∷ (Symbol Close) ∷ []) (λ more. refl) (item_on (is ++ item.TopK k n (97 ∷ []) ∷ []))
completes (TopShow is k n) ts l =
    before (TopShow is k n) (ItemEnd (is ++ item.TopK k n (97 ∷ []) ∷ [])) (Name (97 ∷ []) ∷ (Symbol Close) ∷ []) (λ more. refl) (item_on (is ++ item.TopK k n (97 ∷ []) ∷ []))
completes (TopClose is k n m) ts l = before (TopClose is k n m) (ItemEnd (is ++ item.TopK k n m ∷ [])) ((Symbol Close) ∷ []) (λ more. refl) (item_on (is ++ item.TopK k n m ∷ []))
completes (ItemEnd is) ts l = item_on is
completes (Table is) ts l = table_on is
completes (TableEnd h) ts l = record { tokens = []; query = query_of h nothing_found None; is = refl }
completes (PartStart h w) ts l = start_on h w (goes_on w l.on)
completes (Named h w n) ts l = before (Named h w n) (Equal h w n) ((Symbol Equals) ∷ []) (λ more. refl) (equal_on h w n (goes_on w l.on))
completes (Equal h w n) ts l = equal_on h w n (goes_on w l.on)
completes (Low h w n) ts l = low_on h w n (goes_on w l.on)
completes (Mark h w n) ts l = before (Mark h w n) (PartEnd h (add_atom w (atom.Between n))) ((Symbol And) ∷ (Symbol Question) ∷ []) (λ more. refl) (end_of h (add_atom w (atom.Between n)))
completes (MarkAnd h w n) ts l = before (MarkAnd h w n) (PartEnd h (add_atom w (atom.Between n))) ((Symbol Question) ∷ []) (λ more. refl) (end_of h (add_atom w (atom.Between n)))
completes (Least h w n k) ts l =
    before (Least h w n k) (PartEnd h (add_public w (public.Between n k (literal.Number 1)))) ((Symbol And) ∷ Number 1 ∷ []) (λ more. refl) (end_of h (add_public w (public.Between n k (literal.Number 1))))
completes (LeastAnd h w n k) ts l =
    before (LeastAnd h w n k) (PartEnd h (add_public w (public.Between n k (literal.Number 1)))) (Number 1 ∷ []) (λ more. refl) (end_of h (add_public w (public.Between n k (literal.Number 1))))
completes (PartEnd h w) ts l = end_of h w
completes (GroupBy h w) ts l = record { tokens = (Symbol By) ∷ Name (97 ∷ []) ∷ []; query = query_of h w (Some (97 ∷ [])); is = refl }
completes (GroupName h w) ts l = record { tokens = Name (97 ∷ []) ∷ []; query = query_of h w (Some (97 ∷ [])); is = refl }
completes (GroupEnd q) ts l = record { tokens = []; query = q; is = refl }
completes (Done q) ts l = record { tokens = []; query = q; is = refl }

-- over whole lists of tokens
abbrev pub LedOption : Option State → List Token → Type 0
LedOption None ts = Unit {0}
LedOption (Some s) ts = Led s ts

led_some : (o : Option State) (ts : List Token) → IfSome o (λ z. Led z ts) → LedOption o ts
led_some None ts l = tt
led_some (Some s) ts l = l

pub led_run : (o : Option State) (ts more : List Token) → LedOption o ts → LedOption (run o more) (ts ++ more)
led_run None ts more l = tt
led_run (Some s) ts [] l = subst (λ (m : List Token). Led s m) (sym (append-nil ts)) l
led_run (Some s) ts (t ∷ more) l =
    subst (λ (m : List Token). LedOption (run (step s t) more) m) (append_assoc ts (t ∷ []) more)
    (led_run (step s t) (ts ++ t ∷ []) more (led_some (step s t) (ts ++ t ∷ []) (led_step s t ts l)))

some_of : (o : Option QueryParts) (q : QueryParts) (ts : List Token) → o ≡ Some q → IfSome o (λ z. Reads ts z) → Reads ts q
some_of None q ts e r = cc
some_of (Some p) q ts e r = let f : p ≡ q = cc in subst (λ (z : QueryParts). Reads ts z) f r

finished_reads : (o : Option State) (ts : List Token) (q : QueryParts) → LedOption o ts → finished o ≡ Some q → Reads ts q
finished_reads None ts q l e = cc
finished_reads (Some s) ts q l e = some_of (finish s) q ts e (led_finish s ts l)

-- what the machine accepts, the grammar reads
pub sound : (tokens : List Token) (q : QueryParts) → finished (run (Some Start) tokens) ≡ Some q → Reads tokens q
sound tokens q e = finished_reads (run (Some Start) tokens) tokens q (led_run (Some Start) [] tokens refl) e

pub run_more : (o : Option State) (ts more : List Token) → run o (ts ++ more) ≡ run (run o ts) more
run_more None ts [] = refl
run_more None ts (t ∷ more) = refl
run_more (Some s) [] more = refl
run_more (Some s) (t ∷ ts) more = run_more (step s t) ts more

-- where the machine lives, some query begins so
pub lives : (tokens : List Token) (s : State) → run (Some Start) tokens ≡ Some s → IsBeginning tokens
lives tokens s e =
    let l = subst (λ (o : Option State). LedOption o tokens) e (led_run (Some Start) [] tokens refl) in
    let c = completes s tokens l in
    (c.tokens, c.query, sound (tokens ++ c.tokens) c.query (ap finished (run_more (Some Start) tokens c.tokens ∙ ap (λ o. run o c.tokens) e) ∙ c.is))

-- where it is dead, none does
pub dead : (tokens : List Token) → run (Some Start) tokens ≡ None → IsBeginning tokens → ⊥
dead tokens e b =
    let a = accepted (tokens ++ b.0) b.1 b.2 in
    let d : finished (run (Some Start) (tokens ++ b.0)) ≡ None = ap finished (run_more (Some Start) tokens b.0 ∙ ap (λ o. run o b.0) e) in
    cc
