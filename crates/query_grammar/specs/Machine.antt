-- Reading tokens from the left: what is read so far, and what one more token makes of it.
use Rattle.std.specs.Prelude.{ℕ, Bool, true, false, not, ◌&&◌, ◌||◌, List, [], ◌∷◌, ◌++◌, Option, Some, None}
use Rattle.query_grammar.specs.declared.item.Item.{Item}
use Rattle.query_grammar.specs.declared.item.Item.TheVariants as item
use Rattle.query_grammar.specs.declared.condition.Literal.{Literal}
use Rattle.query_grammar.specs.declared.condition.Literal.TheVariants as literal
use Rattle.query_grammar.specs.declared.condition.Public.{Public}
use Rattle.query_grammar.specs.declared.condition.Public.TheVariants as public
use Rattle.query_grammar.specs.declared.condition.Atom.{Atom}
use Rattle.query_grammar.specs.declared.condition.Atom.TheVariants as atom
use Rattle.query_grammar.specs.declared.token.Aggregate.{Aggregate as Column}
use Rattle.query_grammar.specs.declared.token.Aggregate.TheVariants as aggregate
use Rattle.query_grammar.specs.declared.token.Token.{Token}
use Rattle.query_grammar.specs.declared.token.Token.TheVariants.{Symbol, Aggregate, Name, Number, Text}
use Rattle.query_grammar.specs.declared.token.Symbol.TheVariants.{Select, From, Where, And, Or, Between, Group, By, Count, TopK, Open, Close, Comma, Star, Equals, Question, Semicolon}
use Rattle.query_grammar.specs.declared.mode.Mode.{Mode}
use Rattle.query_grammar.specs.declared.mode.Mode.TheVariants.{Atoms, Mixed, Inside, Behind, Apart}
use Rattle.query_grammar.specs.Queries.{QueryParts, ends_in_range}

-- What is read of a condition: the publics, the branches that are whole, and the atoms of the branch that is being read.
pub record Found : Type 0 where
  pub mode : Mode
  pub public : List Public
  pub branches : List (List Atom)
  pub atoms : List Atom

-- What stands before the condition.
pub record Head : Type 0 where
  pub items : List Item
  pub table : List ℕ

-- Before the first part of a condition.
abbrev pub nothing_found : Found
nothing_found = record { mode = Atoms; public = []; branches = []; atoms = [] }

-- Whether an atom may follow, by the mode.
abbrev pub may_atom_in : Mode → Bool
may_atom_in Atoms = true
may_atom_in Mixed = true
may_atom_in Inside = true
may_atom_in Behind = false
may_atom_in Apart = true

-- Whether an atom may follow: none follows a range of its own branch.
abbrev pub may_atom : Found → Bool
may_atom w = may_atom_in w.mode && not (ends_in_range w.atoms)

-- Whether a public condition may follow.
abbrev pub may_public_in : Mode → Bool
may_public_in Atoms = true
may_public_in Mixed = true
may_public_in Inside = false
may_public_in Behind = true
may_public_in Apart = false

-- Whether AND may follow: a public condition or an atom has to be able to come behind it.
abbrev pub may_go_on : Found → Bool
may_go_on w = may_public_in w.mode || not (ends_in_range w.atoms)

-- No atom of this branch was read.
abbrev pub none_yet : List Atom → Bool
none_yet [] = true
none_yet (a ∷ more) = false

-- Whether the parentheses may open.
abbrev pub opens_in : Mode → Bool
opens_in Atoms = true
opens_in Mixed = true
opens_in Inside = false
opens_in Behind = false
opens_in Apart = false

-- Whether the condition may end.
abbrev pub ends_in : Mode → Bool
ends_in Atoms = true
ends_in Mixed = true
ends_in Inside = false
ends_in Behind = true
ends_in Apart = true

-- The mode behind a public condition.
abbrev pub public_mode : Mode → Mode
public_mode Atoms = Mixed
public_mode Mixed = Mixed
public_mode Inside = Inside
public_mode Behind = Behind
public_mode Apart = Apart

-- With one atom more.
abbrev pub add_atom : Found → Atom → Found
add_atom w a = record { mode = w.mode; public = w.public; branches = w.branches; atoms = w.atoms ++ a ∷ [] }

-- With one public condition more.
abbrev pub add_public : Found → Public → Found
add_public w p = record { mode = public_mode w.mode; public = w.public ++ p ∷ []; branches = w.branches; atoms = w.atoms }

-- Behind the opening parenthesis.
abbrev pub opened : Found → Found
opened w = record { mode = Inside; public = w.public; branches = []; atoms = [] }

-- The mode behind OR, where it may stand.
abbrev pub or_in : Mode → Option Mode
or_in Atoms = Some Apart
or_in Mixed = None
or_in Inside = Some Inside
or_in Behind = None
or_in Apart = Some Apart

-- The branch is whole, and the next one begins.
abbrev pub next_branch : Found → Mode → Found
next_branch w m = record { mode = m; public = w.public; branches = w.branches ++ w.atoms ∷ []; atoms = [] }

-- Whether the parentheses may close.
abbrev pub close_in : Mode → Bool
close_in Atoms = false
close_in Mixed = false
close_in Inside = true
close_in Behind = false
close_in Apart = false

-- Behind the closing parenthesis.
abbrev pub close : Found → Found
close w = record { mode = Behind; public = w.public; branches = w.branches ++ w.atoms ∷ []; atoms = [] }

-- The branches at the end: the bare atoms, where there are any, are the last one.
abbrev pub with_atoms : List (List Atom) → List Atom → List (List Atom)
with_atoms branches [] = branches
with_atoms branches (a ∷ more) = branches ++ (a ∷ more) ∷ []

-- The query that was read.
abbrev pub query_of : Head → Found → Option (List ℕ) → QueryParts
query_of h w group = record { items = h.items; table = h.table; public = w.public; branches = with_atoms w.branches w.atoms; group = group }

-- What the tokens so far were, and what they stated.
pub data State : Type 0 where
  Start : State
  Items : List Item → State
  CountOpen CountStar CountClose : List Item → State
  AggregateOpen AggregateName : List Item → Column → State
  AggregateClose : List Item → Column → List ℕ → State
  TopOpen TopNumber : List Item → State
  TopSortComma TopSort : List Item → ℕ → State
  TopShowComma TopShow : List Item → ℕ → List ℕ → State
  TopClose : List Item → ℕ → List ℕ → List ℕ → State
  ItemEnd : List Item → State
  Table : List Item → State
  TableEnd : Head → State
  PartStart : Head → Found → State
  Named : Head → Found → List ℕ → State
  Equal : Head → Found → List ℕ → State
  Low : Head → Found → List ℕ → State
  Mark MarkAnd : Head → Found → List ℕ → State
  Least LeastAnd : Head → Found → List ℕ → Literal → State
  PartEnd : Head → Found → State
  GroupBy GroupName : Head → Found → State
  GroupEnd : QueryParts → State
  Done : QueryParts → State

-- The item of a function of one column.
abbrev pub aggregate_item : Column → List ℕ → Item
aggregate_item aggregate.Sum n = item.Sum n
aggregate_item aggregate.Avg n = item.Avg n
aggregate_item aggregate.Max n = item.Max n
aggregate_item aggregate.Min n = item.Min n

-- The state, where the token may stand.
abbrev pub if_may : Bool → State → Option State
if_may false s = None
if_may true s = Some s

-- What OR leads to.
abbrev pub or_step : Head → Found → Option Mode → Option State
or_step h w None = None
or_step h w (Some m) = Some (PartStart h (next_branch w m))

-- What one more token makes of a state: nothing, where no query goes on with it.
abbrev pub step : State → Token → Option State
step Start (Symbol Select) = Some (Items [])
step (Items is) (Symbol Count) = Some (CountOpen is)
step (Items is) (Aggregate c) = Some (AggregateOpen is c)
step (Items is) (Symbol TopK) = Some (TopOpen is)
step (CountOpen is) (Symbol Open) = Some (CountStar is)
step (CountStar is) (Symbol Star) = Some (CountClose is)
step (CountClose is) (Symbol Close) = Some (ItemEnd (is ++ item.Count ∷ []))
step (AggregateOpen is c) (Symbol Open) = Some (AggregateName is c)
step (AggregateName is c) (Name n) = Some (AggregateClose is c n)
step (AggregateClose is c n) (Symbol Close) = Some (ItemEnd (is ++ aggregate_item c n ∷ []))
step (TopOpen is) (Symbol Open) = Some (TopNumber is)
step (TopNumber is) (Number k) = Some (TopSortComma is k)
step (TopSortComma is k) (Symbol Comma) = Some (TopSort is k)
step (TopSort is k) (Name n) = Some (TopShowComma is k n)
step (TopShowComma is k n) (Symbol Comma) = Some (TopShow is k n)
step (TopShow is k n) (Name m) = Some (TopClose is k n m)
step (TopClose is k n m) (Symbol Close) = Some (ItemEnd (is ++ item.TopK k n m ∷ []))
step (ItemEnd is) (Symbol Comma) = Some (Items is)
step (ItemEnd is) (Symbol From) = Some (Table is)
step (Table is) (Name n) = Some (TableEnd (record { items = is; table = n }))
step (TableEnd h) (Symbol Where) = Some (PartStart h nothing_found)
step (TableEnd h) (Symbol Group) = Some (GroupBy h nothing_found)
step (TableEnd h) (Symbol Semicolon) = Some (Done (query_of h nothing_found None))
step (PartStart h w) (Name n) = Some (Named h w n)
step (PartStart h w) (Symbol Open) = if_may (opens_in w.mode && none_yet w.atoms) (PartStart h (opened w))
step (Named h w n) (Symbol Equals) = Some (Equal h w n)
step (Named h w n) (Symbol Between) = Some (Low h w n)
step (Equal h w n) (Symbol Question) = if_may (may_atom w) (PartEnd h (add_atom w (atom.Equal n)))
step (Equal h w n) (Number k) = if_may (may_public_in w.mode) (PartEnd h (add_public w (public.Equal n (literal.Number k))))
step (Equal h w n) (Text t) = if_may (may_public_in w.mode) (PartEnd h (add_public w (public.Equal n (literal.Text t))))
step (Low h w n) (Symbol Question) = if_may (may_atom w) (Mark h w n)
step (Low h w n) (Number k) = if_may (may_public_in w.mode) (Least h w n (literal.Number k))
step (Low h w n) (Text t) = if_may (may_public_in w.mode) (Least h w n (literal.Text t))
step (Mark h w n) (Symbol And) = Some (MarkAnd h w n)
step (MarkAnd h w n) (Symbol Question) = Some (PartEnd h (add_atom w (atom.Between n)))
step (Least h w n l) (Symbol And) = Some (LeastAnd h w n l)
step (LeastAnd h w n l) (Number k) = Some (PartEnd h (add_public w (public.Between n l (literal.Number k))))
step (LeastAnd h w n l) (Text t) = Some (PartEnd h (add_public w (public.Between n l (literal.Text t))))
step (PartEnd h w) (Symbol And) = if_may (may_go_on w) (PartStart h w)
step (PartEnd h w) (Symbol Or) = or_step h w (or_in w.mode)
step (PartEnd h w) (Symbol Close) = if_may (close_in w.mode) (PartEnd h (close w))
step (PartEnd h w) (Symbol Group) = if_may (ends_in w.mode) (GroupBy h w)
step (PartEnd h w) (Symbol Semicolon) = if_may (ends_in w.mode) (Done (query_of h w None))
step (GroupBy h w) (Symbol By) = Some (GroupName h w)
step (GroupName h w) (Name n) = Some (GroupEnd (query_of h w (Some n)))
step (GroupEnd q) (Symbol Semicolon) = Some (Done q)
step _ _ = None

-- The query, where it may end.
abbrev pub if_ends : Bool → QueryParts → Option QueryParts
if_ends false q = None
if_ends true q = Some q

-- The query, where the text may end in this state.
abbrev pub finish : State → Option QueryParts
finish (TableEnd h) = Some (query_of h nothing_found None)
finish (PartEnd h w) = if_ends (ends_in w.mode) (query_of h w None)
finish (GroupEnd q) = Some q
finish (Done q) = Some q
finish _ = None

-- The state behind some tokens.
abbrev pub run : Option State → List Token → Option State
run None ts = None
run (Some s) [] = Some s
run (Some s) (t ∷ ts) = run (step s t) ts

-- The query, where the machine lives and the text may end.
abbrev pub finished : Option State → Option QueryParts
finished None = None
finished (Some s) = finish s
