-- What reading one part does to the verdict.
use Rattle.std.proofs.Common.{◌≡◌, ℕ, Bool, true, false, List, [], ◌∷◌, ◌++◌, None, Result, Ok, Err, refl, sym, ◌∙◌, ap, if◌then◌else◌}
use Rattle.query_grammar.specs.declared.item.Item.{Item}
use Rattle.query_grammar.specs.declared.item.Item.TheVariants as item
use Rattle.query_grammar.specs.declared.token.Aggregate.{Aggregate as Column}
use Rattle.query_grammar.specs.declared.token.Token.{Token}
use Rattle.query_grammar.specs.declared.token.Token.TheVariants.{Symbol as TheSymbol, Aggregate, Name, Number}
use Rattle.query_grammar.specs.declared.token.Symbol.{Symbol}
use Rattle.query_grammar.specs.declared.token.Symbol.TheVariants.{Select, From, Count, TopK, Open, Close, Comma, Star}
use Rattle.query_grammar.specs.declared.token.Placed.{Placed}
use Rattle.query_parser.specs.declared.fault.ReadFault.{ReadFault}
use Rattle.query_parser.specs.declared.fault.ReadFault.TheVariants.{NoReading, OutOfMemory}
use Rattle.query_grammar.specs.Queries.{QueryParts}
use Rattle.query_grammar.specs.Machine.{State, Start, TableEnd, Items, CountOpen, CountStar, CountClose, AggregateOpen, AggregateName, AggregateClose, TopOpen, TopNumber, TopSortComma, TopSort, TopShowComma, TopShow, TopClose, ItemEnd, Table, aggregate_item, if_may, step, finish}
use Rattle.query_grammar.specs.Faults.{ended, after, verdict}
use Rattle.query_parser.specs.Reading.{Left, verdict_at, Refuses}
use Rattle.spl_words.specs.Results.{◌>>=◌}
use Rattle.query_parser.specs.Parsing.{Fails, same_symbol, take_at, symbol_of, any_symbol_at, symbol_at, name_of, name_at, number_of, number_at, count_at, aggregate_at, top_at, item_of, item_at, more_of, more_at, listed_at, with_item}

-- a first part, and then the rest
pub chain : {A B C : Type 0} (v : Result C ℕ) (m : Result A ℕ) (f : A → Result C ℕ) (g : A → Result B ℕ) (k : B → Result C ℕ) → v ≡ (m >>= f) → ((x : A) → f x ≡ (g x >>= k)) → v ≡ ((m >>= g) >>= k)
chain v (Ok x) f g k e h = e ∙ h x
chain v (Err x) f g k e h = e

-- the token is that symbol
abbrev pub is_symbol : Symbol → Token → Bool
is_symbol wanted (TheSymbol symbol) = same_symbol wanted symbol
is_symbol wanted _ = false

wanted_of : (wanted : Symbol) (t : Token) (at : ℕ) (l : Left) → (if is_symbol wanted t then Ok l else Err at) ≡ (symbol_of t at l >>= λ s. if same_symbol wanted s.0.0 then Ok s.1 else Err s.0.1)
wanted_of wanted (TheSymbol s) at l = refl
wanted_of wanted _ at l = refl

-- in state s only this symbol goes on
pub record WantsSymbol (s z : State) (wanted : Symbol) : Type 0 where
  pub steps : (t : Token) → step s t ≡ if_may (is_symbol wanted t) z
  pub end : finish s ≡ None

may_symbol : (b : Bool) (z : State) (p : Placed) (ps : List Placed) (end : ℕ) →
    after (if_may b z) p.at (λ y. verdict y ps end) ≡ ((if b then Ok (record { tokens = ps; end = end }) else Err p.at) >>= verdict_at z)
may_symbol true z p ps end = refl
may_symbol false z p ps end = refl

symbol_steps : (s z : State) (wanted : Symbol) (ps : List Placed) (end : ℕ) → WantsSymbol s z wanted → verdict s ps end ≡ (symbol_at wanted (record { tokens = ps; end = end }) >>= verdict_at z)
unfolding symbol_at any_symbol_at take_at
symbol_steps s z wanted [] end w = ap (λ o. ended o end) w.end
symbol_steps s z wanted (p ∷ ps) end w =
    ap (λ o. after o p.at (λ y. verdict y ps end)) (w.steps p.token) ∙ may_symbol (is_symbol wanted p.token) z p ps end
    ∙ ap (λ r. r >>= verdict_at z) (wanted_of wanted p.token p.at (record { tokens = ps; end = end }))

pub symbol_then : (s z : State) (wanted : Symbol) (l : Left) → WantsSymbol s z wanted → verdict_at s l ≡ (symbol_at wanted l >>= verdict_at z)
symbol_then s z wanted l w = symbol_steps s z wanted l.tokens l.end w

-- any token
take_steps : (s : State) (ps : List Placed) (end : ℕ) → finish s ≡ None
    → verdict s ps end ≡ (take_at (record { tokens = ps; end = end }) >>= λ p. after (step s p.0.token) p.0.at (λ y. verdict_at y p.1))
unfolding take_at
take_steps s [] end e = ap (λ o. ended o end) e
take_steps s (p ∷ ps) end e = refl

pub take_then : (s : State) (l : Left) → finish s ≡ None → verdict_at s l ≡ (take_at l >>= λ p. after (step s p.0.token) p.0.at (λ y. verdict_at y p.1))
take_then s l e = take_steps s l.tokens l.end e

-- in state s a token of one kind goes on, as g says
pub kind_then : {A B : Type 0} (s : State) (l : Left) (of : Token → ℕ → Left → Result A ℕ) (g : A → Result B ℕ) (k : B → Result QueryParts ℕ) → finish s ≡ None
    → ((t : Token) (at : ℕ) (m : Left) → after (step s t) at (λ y. verdict_at y m) ≡ (of t at m >>= λ x. g x >>= k))
    → verdict_at s l ≡ (((take_at l >>= λ p. of p.0.token p.0.at p.1) >>= g) >>= k)
kind_then s l of g k e h =
    chain _ (take_at l >>= λ p. of p.0.token p.0.at p.1) (λ x. g x >>= k) g k
    (chain _ (take_at l) _ (λ p. of p.0.token p.0.at p.1) (λ x. g x >>= k) (take_then s l e) (λ p. h p.0.token p.0.at p.1)) (λ x. refl)

-- in state s only a name goes on, or only a number
pub record WantsName (s : State) (next : List ℕ → State) : Type 0 where
  pub steps : (t : Token) (at : ℕ) (l : Left) → after (step s t) at (λ y. verdict_at y l) ≡ (name_of t at l >>= λ x. verdict_at (next x.0) x.1)
  pub end : finish s ≡ None

pub record WantsNumber (s : State) (next : ℕ → State) : Type 0 where
  pub steps : (t : Token) (at : ℕ) (l : Left) → after (step s t) at (λ y. verdict_at y l) ≡ (number_of t at l >>= λ x. verdict_at (next x.0) x.1)
  pub end : finish s ≡ None

pub name_then : (s : State) (next : List ℕ → State) (l : Left) → WantsName s next → verdict_at s l ≡ (name_at l >>= λ x. verdict_at (next x.0) x.1)
unfolding name_at
name_then s next l w = chain _ (take_at l) _ _ _ (take_then s l w.end) (λ p. w.steps p.0.token p.0.at p.1)

pub number_then : (s : State) (next : ℕ → State) (l : Left) → WantsNumber s next → verdict_at s l ≡ (number_at l >>= λ x. verdict_at (next x.0) x.1)
unfolding number_at
number_then s next l w = chain _ (take_at l) _ _ _ (take_then s l w.end) (λ p. w.steps p.0.token p.0.at p.1)

count_open : (is : List Item) (t : Token) → step (CountOpen is) t ≡ if_may (is_symbol Open t) (CountStar is)
count_open is (TheSymbol Open) = refl
count_open is _ = refl

count_star : (is : List Item) (t : Token) → step (CountStar is) t ≡ if_may (is_symbol Star t) (CountClose is)
count_star is (TheSymbol Star) = refl
count_star is _ = refl

count_close : (is : List Item) (t : Token) → step (CountClose is) t ≡ if_may (is_symbol Close t) (ItemEnd (is ++ item.Count ∷ []))
count_close is (TheSymbol Close) = refl
count_close is _ = refl

aggregate_open : (is : List Item) (c : Column) (t : Token) → step (AggregateOpen is c) t ≡ if_may (is_symbol Open t) (AggregateName is c)
aggregate_open is c (TheSymbol Open) = refl
aggregate_open is c _ = refl

aggregate_name : (is : List Item) (c : Column) (t : Token) (at : ℕ) (l : Left) → after (step (AggregateName is c) t) at (λ y. verdict_at y l) ≡ (name_of t at l >>= λ x. verdict_at (AggregateClose is c x.0) x.1)
aggregate_name is c (Name n) at l = refl
aggregate_name is c _ at l = refl

aggregate_close : (is : List Item) (c : Column) (n : List ℕ) (t : Token) → step (AggregateClose is c n) t ≡ if_may (is_symbol Close t) (ItemEnd (is ++ aggregate_item c n ∷ []))
aggregate_close is c n (TheSymbol Close) = refl
aggregate_close is c n _ = refl

count_law : (is : List Item) (l : Left) → verdict_at (CountOpen is) l ≡ (count_at l >>= with_item is)
unfolding count_at
count_law is l =
    chain _ (symbol_at Open l) _ _ _ (symbol_then (CountOpen is) (CountStar is) Open l (record { steps = count_open is; end = refl }))
    (λ a. chain _ (symbol_at Star a) _ _ _ (symbol_then (CountStar is) (CountClose is) Star a (record { steps = count_star is; end = refl }))
    (λ b. chain _ (symbol_at Close b) _ _ _ (symbol_then (CountClose is) (ItemEnd (is ++ item.Count ∷ [])) Close b (record { steps = count_close is; end = refl })) (λ x. refl)))

aggregate_law : (is : List Item) (c : Column) (l : Left) → verdict_at (AggregateOpen is c) l ≡ (aggregate_at c l >>= with_item is)
unfolding aggregate_at
aggregate_law is c l =
    chain _ (symbol_at Open l) _ _ _ (symbol_then (AggregateOpen is c) (AggregateName is c) Open l (record { steps = aggregate_open is c; end = refl }))
    (λ a. chain _ (name_at a) _ _ _ (name_then (AggregateName is c) (λ n. AggregateClose is c n) a (record { steps = aggregate_name is c; end = refl }))
    (λ n. chain _ (symbol_at Close n.1) _ _ _
    (symbol_then (AggregateClose is c n.0) (ItemEnd (is ++ aggregate_item c n.0 ∷ [])) Close n.1 (record { steps = aggregate_close is c n.0; end = refl })) (λ x. refl)))

top_open : (is : List Item) (t : Token) → step (TopOpen is) t ≡ if_may (is_symbol Open t) (TopNumber is)
top_open is (TheSymbol Open) = refl
top_open is _ = refl

top_number : (is : List Item) (t : Token) (at : ℕ) (l : Left) → after (step (TopNumber is) t) at (λ y. verdict_at y l) ≡ (number_of t at l >>= λ x. verdict_at (TopSortComma is x.0) x.1)
top_number is (Number n) at l = refl
top_number is _ at l = refl

top_comma : (is : List Item) (k : ℕ) (t : Token) → step (TopSortComma is k) t ≡ if_may (is_symbol Comma t) (TopSort is k)
top_comma is k (TheSymbol Comma) = refl
top_comma is k _ = refl

top_sort : (is : List Item) (k : ℕ) (t : Token) (at : ℕ) (l : Left) → after (step (TopSort is k) t) at (λ y. verdict_at y l) ≡ (name_of t at l >>= λ x. verdict_at (TopShowComma is k x.0) x.1)
top_sort is k (Name n) at l = refl
top_sort is k _ at l = refl

top_comma2 : (is : List Item) (k : ℕ) (n : List ℕ) (t : Token) → step (TopShowComma is k n) t ≡ if_may (is_symbol Comma t) (TopShow is k n)
top_comma2 is k n (TheSymbol Comma) = refl
top_comma2 is k n _ = refl

top_show : (is : List Item) (k : ℕ) (n : List ℕ) (t : Token) (at : ℕ) (l : Left) → after (step (TopShow is k n) t) at (λ y. verdict_at y l) ≡ (name_of t at l >>= λ x. verdict_at (TopClose is k n x.0) x.1)
top_show is k n (Name m) at l = refl
top_show is k n _ at l = refl

top_close : (is : List Item) (k : ℕ) (n m : List ℕ) (t : Token) → step (TopClose is k n m) t ≡ if_may (is_symbol Close t) (ItemEnd (is ++ item.TopK k n m ∷ []))
top_close is k n m (TheSymbol Close) = refl
top_close is k n m _ = refl

top_law : (is : List Item) (l : Left) → verdict_at (TopOpen is) l ≡ (top_at l >>= with_item is)
unfolding top_at
top_law is l =
    chain _ (symbol_at Open l) _ _ _ (symbol_then (TopOpen is) (TopNumber is) Open l (record { steps = top_open is; end = refl }))
    (λ a. chain _ (number_at a) _ _ _ (number_then (TopNumber is) (λ n. TopSortComma is n) a (record { steps = top_number is; end = refl }))
    (λ k. chain _ (symbol_at Comma k.1) _ _ _ (symbol_then (TopSortComma is k.0) (TopSort is k.0) Comma k.1 (record { steps = top_comma is k.0; end = refl }))
    (λ b. chain _ (name_at b) _ _ _ (name_then (TopSort is k.0) (λ n. TopShowComma is k.0 n) b (record { steps = top_sort is k.0; end = refl }))
    (λ n. chain _ (symbol_at Comma n.1) _ _ _ (symbol_then (TopShowComma is k.0 n.0) (TopShow is k.0 n.0) Comma n.1 (record { steps = top_comma2 is k.0 n.0; end = refl }))
    (λ c. chain _ (name_at c) _ _ _ (name_then (TopShow is k.0 n.0) (λ m. TopClose is k.0 n.0 m) c (record { steps = top_show is k.0 n.0; end = refl }))
    (λ m. chain _ (symbol_at Close m.1) _ _ _
    (symbol_then (TopClose is k.0 n.0 m.0) (ItemEnd (is ++ item.TopK k.0 n.0 m.0 ∷ [])) Close m.1 (record { steps = top_close is k.0 n.0 m.0; end = refl })) (λ x. refl)))))))

items_step : (is : List Item) (t : Token) (at : ℕ) (l : Left) → after (step (Items is) t) at (λ y. verdict_at y l) ≡ (item_of t at l >>= with_item is)
items_step is (TheSymbol Count) at l = count_law is l
items_step is (Aggregate c) at l = aggregate_law is c l
items_step is (TheSymbol TopK) at l = top_law is l
items_step is _ at l = refl

pub item_law : (is : List Item) (l : Left) → verdict_at (Items is) l ≡ (item_at l >>= with_item is)
unfolding item_at
item_law is l = chain _ (take_at l) _ _ _ (take_then (Items is) l refl) (λ p. items_step is p.0.token p.0.at p.1)

-- behind a comma the next item, behind FROM the table
abbrev pub listed_state : List Item → Item × Bool → State
listed_state is x = if x.1 then Items (is ++ x.0 ∷ []) else Table (is ++ x.0 ∷ [])

more_step : (is : List Item) (i : Item) (t : Token) (at : ℕ) (l : Left)
    → after (step (ItemEnd (is ++ i ∷ [])) t) at (λ y. verdict_at y l) ≡ (symbol_of t at l >>= λ s. more_of s.0.0 s.0.1 s.1 >>= λ m. verdict_at (listed_state is (i, m.0)) m.1)
more_step is i (TheSymbol Comma) at l = refl
more_step is i (TheSymbol From) at l = refl
more_step is i _ at l = refl

more_law : (is : List Item) (i : Item) (l : Left) → verdict_at (ItemEnd (is ++ i ∷ [])) l ≡ (more_at l >>= λ m. verdict_at (listed_state is (i, m.0)) m.1)
unfolding more_at any_symbol_at
more_law is i l = kind_then (ItemEnd (is ++ i ∷ [])) l symbol_of (λ s. more_of s.0.0 s.0.1 s.1) (λ m. verdict_at (listed_state is (i, m.0)) m.1) refl (more_step is i)

pub listed_law : (is : List Item) (l : Left) → verdict_at (Items is) l ≡ (listed_at l >>= λ x. verdict_at (listed_state is x.0) x.1)
unfolding listed_at
listed_law is l =
    chain _ (item_at l) _ _ _ (item_law is l)
    (λ i. chain _ (more_at i.1) _ _ _ (more_law is i.0 i.1) (λ m. refl))

-- what a call returned, under such a law
pub gave : {A C : Type 0} (v : Result C ℕ) (m : Result A ℕ) (f : A → Result C ℕ) (x : A) → v ≡ (m >>= f) → m ≡ Ok x → v ≡ f x
gave v (Ok y) f x e h = let g : y ≡ x = cc in e ∙ ap f g
gave v (Err y) f x e h = cc

pub refused : {A : Type 0} (v : Result QueryParts ℕ) (m : Result A ℕ) (f : A → Result QueryParts ℕ) (e : ReadFault) → v ≡ (m >>= f) → Fails e m → Refuses e v
refused v (Ok x) f (NoReading o) e h = cc
refused v (Ok x) f OutOfMemory e h = tt
refused v (Err o) f (NoReading k) e h = e ∙ cc
refused v (Err o) f OutOfMemory e h = tt

pub turned : (v : Result QueryParts ℕ) (is js : List Item) (i : Item) (b : Bool) (l : Left) → v ≡ verdict_at (listed_state is (i, b)) l → b ≡ true → js ≡ is ++ i ∷ [] → v ≡ verdict_at (Items js) l
turned v is js i true l e h k = e ∙ ap (λ z. verdict_at (Items z) l) (sym k)
turned v is js i false l e h k = cc

pub over_with : (v : Result QueryParts ℕ) (is js : List Item) (i : Item) (b : Bool) (l : Left) → v ≡ verdict_at (listed_state is (i, b)) l → b ≡ false → js ≡ is ++ i ∷ [] → v ≡ verdict_at (Table js) l
over_with v is js i true l e h k = cc
over_with v is js i false l e h k = e ∙ ap (λ z. verdict_at (Table z) l) (sym k)

pub carry : (v w : Result QueryParts ℕ) (e : ReadFault) → v ≡ w → Refuses e w → Refuses e v
carry v w (NoReading o) p r = p ∙ r
carry v w OutOfMemory p r = tt

start_select : (t : Token) → step Start t ≡ if_may (is_symbol Select t) (Items [])
start_select (TheSymbol Select) = refl
start_select _ = refl

pub start_law : (l : Left) → verdict_at Start l ≡ (symbol_at Select l >>= verdict_at (Items []))
start_law l = symbol_then Start (Items []) Select l (record { steps = start_select; end = refl })

table_name : (is : List Item) (t : Token) (at : ℕ) (l : Left)
    → after (step (Table is) t) at (λ y. verdict_at y l) ≡ (name_of t at l >>= λ x. verdict_at (TableEnd (record { items = is; table = x.0 })) x.1)
table_name is (Name n) at l = refl
table_name is _ at l = refl

pub table_law : (is : List Item) (l : Left) → verdict_at (Table is) l ≡ (name_at l >>= λ x. verdict_at (TableEnd (record { items = is; table = x.0 })) x.1)
table_law is l = name_then (Table is) (λ n. TableEnd (record { items = is; table = n })) l (record { steps = table_name is; end = refl })
