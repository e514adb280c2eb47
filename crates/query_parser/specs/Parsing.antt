-- Reading from the left, as functions on the tokens that are left: a value and what is left behind it, or the place of the fault.
use Rattle.std.specs.Prelude.{◌≡◌, ℕ, Bool, true, false, ◌&&◌, List, [], ◌∷◌, ◌++◌, Option, Some, None, Result, Ok, Err, if◌then◌else◌}
use Rattle.query_grammar.specs.declared.item.Item.{Item}
use Rattle.query_grammar.specs.declared.item.Item.TheVariants as item
use Rattle.query_grammar.specs.declared.token.Aggregate.{Aggregate as Column}
use Rattle.query_grammar.specs.declared.token.Token.{Token}
use Rattle.query_grammar.specs.declared.token.Token.TheVariants.{Symbol as TheSymbol, Aggregate, Name, Number, Text}
use Rattle.query_grammar.specs.declared.token.Symbol.{Symbol}
use Rattle.query_grammar.specs.declared.token.Symbol.TheVariants.{Select, From, Where, And, Or, Between, Group, By, Count, TopK, Open, Close, Comma, Star, Equals, Question, Semicolon}
use Rattle.query_grammar.specs.declared.token.Placed.{Placed}
use Rattle.query_parser.specs.declared.fault.Unread.{Unread}
use Rattle.query_parser.specs.declared.fault.ReadFault.{ReadFault}
use Rattle.query_parser.specs.declared.fault.ReadFault.TheVariants.{NoReading, OutOfMemory}
use Rattle.query_grammar.specs.Queries.{QueryParts}
use Rattle.query_grammar.specs.declared.condition.Literal.TheVariants as literal
use Rattle.query_grammar.specs.declared.condition.Public.TheVariants as public
use Rattle.query_grammar.specs.declared.condition.Atom.TheVariants as atom
use Rattle.query_grammar.specs.Machine.{aggregate_item, Items, ItemEnd, Found, State, PartStart, PartEnd, GroupBy, Done, Head, may_atom, may_public_in, may_go_on, opens_in, none_yet, ends_in, or_in, close_in, opened, next_branch, close, add_atom, add_public, query_of}
use Rattle.query_grammar.specs.declared.mode.Mode.{Mode}
use Rattle.query_parser.specs.declared.found.Ending.{Ending}
use Rattle.query_parser.specs.declared.found.Ending.TheVariants as ending
use Rattle.query_grammar.specs.declared.condition.Literal.{Literal}
use Rattle.query_parser.specs.Reading.{Left, verdict_at}
use Rattle.spl_words.specs.Results.{◌>>=◌}

-- What a function refuses is what reading gives, unless memory ran out.
abbrev pub Fails : {Y : Type 0} → ReadFault → Result Y ℕ → Type 0
Fails (NoReading o) read = read ≡ Err o
Fails OutOfMemory read = Unit {0}

-- What a function that takes no memory returned, and what it left, is what reading gives.
abbrev pub GivesAt : {X : Type 0} → Result X Unread → Left → Result (X × Left) ℕ → Type 0
GivesAt (Ok x) new read = read ≡ Ok (x, new)
GivesAt (Err e) new read = read ≡ Err e.at

-- The same for a function that returns nothing.
abbrev pub Passes : Result (Unit {0}) Unread → Left → Result Left ℕ → Type 0
Passes (Ok x) new read = read ≡ Ok new
Passes (Err e) new read = read ≡ Err e.at

-- Two symbols are the same.
abbrev pub same_symbol : Symbol → Symbol → Bool
same_symbol Select Select = true
same_symbol From From = true
same_symbol Where Where = true
same_symbol And And = true
same_symbol Or Or = true
same_symbol Between Between = true
same_symbol Group Group = true
same_symbol By By = true
same_symbol Count Count = true
same_symbol TopK TopK = true
same_symbol Open Open = true
same_symbol Close Close = true
same_symbol Comma Comma = true
same_symbol Star Star = true
same_symbol Equals Equals = true
same_symbol Question Question = true
same_symbol Semicolon Semicolon = true
same_symbol _ _ = false

-- The first of some tokens, or the end.
abbrev pub take_from : List Placed → ℕ → Result (Placed × Left) ℕ
take_from [] end = Err end
take_from (p ∷ ps) end = Ok (p, record { tokens = ps; end = end })

-- The next token.
unfoldable pub take_at : Left → Result (Placed × Left) ℕ
take_at l = take_from l.tokens l.end

-- The token is a symbol, of which the place is told too.
abbrev pub symbol_of : Token → ℕ → Left → Result ((Symbol × ℕ) × Left) ℕ
symbol_of (TheSymbol symbol) at l = Ok ((symbol, at), l)
symbol_of _ at l = Err at

-- Any symbol, and its place.
unfoldable pub any_symbol_at : Left → Result ((Symbol × ℕ) × Left) ℕ
any_symbol_at l = do
  p ← take_at l
  symbol_of p.0.token p.0.at p.1

-- That symbol.
unfoldable pub symbol_at : Symbol → Left → Result Left ℕ
symbol_at wanted l = do
  s ← any_symbol_at l
  if same_symbol wanted s.0.0 then Ok s.1 else Err s.0.1

-- The token is a name.
abbrev pub name_of : Token → ℕ → Left → Result (List ℕ × Left) ℕ
name_of (Name n) at l = Ok (n, l)
name_of _ at l = Err at

-- A name.
unfoldable pub name_at : Left → Result (List ℕ × Left) ℕ
name_at l = do
  p ← take_at l
  name_of p.0.token p.0.at p.1

-- The token is a number.
abbrev pub number_of : Token → ℕ → Left → Result (ℕ × Left) ℕ
number_of (Number n) at l = Ok (n, l)
number_of _ at l = Err at

-- A number.
unfoldable pub number_at : Left → Result (ℕ × Left) ℕ
number_at l = do
  p ← take_at l
  number_of p.0.token p.0.at p.1

-- Behind COUNT.
unfoldable pub count_at : Left → Result (Item × Left) ℕ
count_at l = do
  a ← symbol_at Open l
  b ← symbol_at Star a
  c ← symbol_at Close b
  Ok (item.Count, c)

-- Behind a function of one column.
unfoldable pub aggregate_at : Column → Left → Result (Item × Left) ℕ
aggregate_at c l = do
  a ← symbol_at Open l
  n ← name_at a
  b ← symbol_at Close n.1
  Ok (aggregate_item c n.0, b)

-- Behind TOPK.
unfoldable pub top_at : Left → Result (Item × Left) ℕ
top_at l = do
  a ← symbol_at Open l
  k ← number_at a
  b ← symbol_at Comma k.1
  n ← name_at b
  c ← symbol_at Comma n.1
  m ← name_at c
  d ← symbol_at Close m.1
  Ok (item.TopK k.0 n.0 m.0, d)

-- An item that begins with this token.
abbrev pub item_of : Token → ℕ → Left → Result (Item × Left) ℕ
item_of (TheSymbol Count) at l = count_at l
item_of (Aggregate c) at l = aggregate_at c l
item_of (TheSymbol TopK) at l = top_at l
item_of _ at l = Err at

-- An item.
unfoldable pub item_at : Left → Result (Item × Left) ℕ
item_at l = do
  p ← take_at l
  item_of p.0.token p.0.at p.1

-- Whether the symbol behind an item is a comma, and not FROM.
abbrev pub more_of : Symbol → ℕ → Left → Result (Bool × Left) ℕ
more_of Comma at l = Ok (true, l)
more_of From at l = Ok (false, l)
more_of _ at l = Err at

-- Whether a comma follows an item, and not FROM.
unfoldable pub more_at : Left → Result (Bool × Left) ℕ
more_at l = do
  s ← any_symbol_at l
  more_of s.0.0 s.0.1 s.1

-- An item, and what follows it.
unfoldable pub listed_at : Left → Result ((Item × Bool) × Left) ℕ
listed_at l = do
  i ← item_at l
  m ← more_at i.1
  Ok ((i.0, m.0), m.1)

-- Where an item ends.
abbrev pub with_item : List Item → Item × Left → Result QueryParts ℕ
with_item is x = verdict_at (ItemEnd (is ++ x.0 ∷ [])) x.1

-- What reading an item does to the verdict.
abbrev pub ItemSteps : List Item → Left → Type 0
ItemSteps is l = verdict_at (Items is) l ≡ (item_at l >>= with_item is)

-- What a function left that returns nothing and changes what is read of a condition is what reading gives, unless memory ran out.
abbrev pub Leaves : Result (Unit {0}) ReadFault → Found → Left → Result (Found × Left) ℕ → Type 0
Leaves (Ok x) w new read = read ≡ Ok (w, new)
Leaves (Err e) w new read = Fails e read

-- The token is a literal, or none for a question mark, of which the place is told too.
abbrev pub operand_of : Token → ℕ → Left → Result ((Option Literal × ℕ) × Left) ℕ
operand_of (TheSymbol Question) at l = Ok ((None, at), l)
operand_of (Number k) at l = Ok ((Some (literal.Number k), at), l)
operand_of (Text t) at l = Ok ((Some (literal.Text t), at), l)
operand_of _ at l = Err at

-- What a column is compared with, and its place.
unfoldable pub operand_at : Left → Result ((Option Literal × ℕ) × Left) ℕ
operand_at l = do
  p ← take_at l
  operand_of p.0.token p.0.at p.1

-- What stands behind a name and the sign of equality.
abbrev pub equal_of : Found → List ℕ → Option Literal → ℕ → Left → Result (Found × Left) ℕ
equal_of w n None at l = if may_atom w then Ok (add_atom w (atom.Equal n), l) else Err at
equal_of w n (Some k) at l = if may_public_in w.mode then Ok (add_public w (public.Equal n k), l) else Err at

-- Behind a name and the sign of equality.
unfoldable pub equal_at : Found → List ℕ → Left → Result (Found × Left) ℕ
equal_at w n l = do
  o ← operand_at l
  equal_of w n o.0.0 o.0.1 o.1

-- The rest of a range of two question marks.
unfoldable pub mark_at : Found → List ℕ → Left → Result (Found × Left) ℕ
mark_at w n l = do
  a ← symbol_at And l
  b ← symbol_at Question a
  Ok (add_atom w (atom.Between n), b)

-- The greatest value of a public range.
abbrev pub greatest_of : Found → List ℕ → Literal → Option Literal → ℕ → Left → Result (Found × Left) ℕ
greatest_of w n k None at l = Err at
greatest_of w n k (Some j) at l = Ok (add_public w (public.Between n k j), l)

-- The rest of a public range.
unfoldable pub greatest_at : Found → List ℕ → Literal → Left → Result (Found × Left) ℕ
greatest_at w n k l = do
  a ← symbol_at And l
  o ← operand_at a
  greatest_of w n k o.0.0 o.0.1 o.1

-- What stands behind a name and BETWEEN.
abbrev pub least_of : Found → List ℕ → Option Literal → ℕ → Left → Result (Found × Left) ℕ
least_of w n None at l = if may_atom w then mark_at w n l else Err at
least_of w n (Some k) at l = if may_public_in w.mode then greatest_at w n k l else Err at

-- Behind a name and BETWEEN.
unfoldable pub least_at : Found → List ℕ → Left → Result (Found × Left) ℕ
least_at w n l = do
  o ← operand_at l
  least_of w n o.0.0 o.0.1 o.1

-- What stands behind a name.
abbrev pub named_of : Found → List ℕ → Symbol → ℕ → Left → Result (Found × Left) ℕ
named_of w n Equals at l = equal_at w n l
named_of w n Between at l = least_at w n l
named_of w n _ at l = Err at

-- Behind a name.
unfoldable pub named_at : Found → List ℕ → Left → Result (Found × Left) ℕ
named_at w n l = do
  s ← any_symbol_at l
  named_of w n s.0.0 s.0.1 s.1

-- A part behind an opening parenthesis.
unfoldable pub inner_at : Found → Left → Result (Found × Left) ℕ
inner_at w l = do
  n ← name_at l
  named_at w n.0 n.1

-- A part that begins with this token.
abbrev pub part_of : Found → Token → ℕ → Left → Result (Found × Left) ℕ
part_of w (Name n) at l = named_at w n l
part_of w (TheSymbol Open) at l = if opens_in w.mode && none_yet w.atoms then inner_at (opened w) l else Err at
part_of w _ at l = Err at

-- A public condition or an atom, with the parenthesis that opens before it.
unfoldable pub part_at : Found → Left → Result (Found × Left) ℕ
part_at w l = do
  p ← take_at l
  part_of w p.0.token p.0.at p.1

-- Nothing is left.
abbrev pub no_more : List Placed → Bool
no_more [] = true
no_more (p ∷ ps) = false

-- Nothing may follow.
unfoldable pub nothing_at : Left → Result Left ℕ
nothing_at l = if no_more l.tokens then Ok l else (take_at l >>= λ p. Err p.0.at)

-- The condition is at its end.
abbrev pub done_at : Found → Left → Result ((Found × Ending) × Left) ℕ
done_at w l = Ok ((w, ending.Done), l)

-- What stands behind the closing parenthesis.
abbrev pub behind_of : Found → Symbol → ℕ → Left → Result ((Found × Ending) × Left) ℕ
behind_of w And at l = Ok ((w, ending.More), l)
behind_of w Group at l = Ok ((w, ending.Group), l)
behind_of w Semicolon at l = done_at w l
behind_of w _ at l = Err at

-- Behind the part in parentheses.
unfoldable pub behind_at : Found → Left → Result ((Found × Ending) × Left) ℕ
behind_at w l = if no_more l.tokens then Ok ((w, ending.Done), l) else (any_symbol_at l >>= λ s. behind_of w s.0.0 s.0.1 s.1)

-- The next branch, where OR may stand.
abbrev pub or_of : Found → Option Mode → ℕ → Left → Result ((Found × Ending) × Left) ℕ
or_of w None at l = Err at
or_of w (Some m) at l = Ok ((next_branch w m, ending.More), l)

-- What stands behind a part.
abbrev pub end_of : Found → Symbol → ℕ → Left → Result ((Found × Ending) × Left) ℕ
end_of w And at l = if may_go_on w then Ok ((w, ending.More), l) else Err at
end_of w Or at l = or_of w (or_in w.mode) at l
end_of w Close at l = if close_in w.mode then behind_at (close w) l else Err at
end_of w Group at l = if ends_in w.mode then Ok ((w, ending.Group), l) else Err at
end_of w Semicolon at l = if ends_in w.mode then done_at w l else Err at
end_of w _ at l = Err at

-- The text ends behind a part.
abbrev pub stop_of : Found → Left → Result ((Found × Ending) × Left) ℕ
stop_of w l = if ends_in w.mode then Ok ((w, ending.Done), l) else Err l.end

-- Behind a part.
unfoldable pub end_at : Found → Left → Result ((Found × Ending) × Left) ℕ
end_at w l = if no_more l.tokens then stop_of w l else (any_symbol_at l >>= λ s. end_of w s.0.0 s.0.1 s.1)

-- What a function that takes no memory told of how the condition goes on, and what it left, is what reading gives.
abbrev pub Turns : Result Ending Unread → Found → Left → Result ((Found × Ending) × Left) ℕ → Type 0
Turns (Ok x) w new read = read ≡ Ok ((w, x), new)
Turns (Err e) w new read = read ≡ Err e.at

-- The same of a function that changes what is read of a condition, unless memory ran out.
abbrev pub Leads : Result Ending ReadFault → Found → Left → Result ((Found × Ending) × Left) ℕ → Type 0
Leads (Ok x) w new read = read ≡ Ok ((w, x), new)
Leads (Err e) w new read = Fails e read

-- The state behind a part.
abbrev pub ending_state : Head → Found → Ending → State
ending_state h w ending.More = PartStart h w
ending_state h w ending.Group = GroupBy h w
ending_state h w ending.Done = Done (query_of h w None)

-- What reading a part does to the verdict.
abbrev pub PartSteps : Head → Found → Left → Type 0
PartSteps h w l = verdict_at (PartStart h w) l ≡ (part_at w l >>= λ x. verdict_at (PartEnd h x.0) x.1)

-- A part, and what stands behind it.
unfoldable pub turn_at : Found → Left → Result ((Found × Ending) × Left) ℕ
turn_at w l = part_at w l >>= λ x. end_at x.0 x.1

-- The semicolon.
abbrev pub semicolon_of : Symbol → ℕ → Left → Result Left ℕ
semicolon_of Semicolon at l = Ok l
semicolon_of _ at l = Err at

-- The semicolon, which may be absent.
unfoldable pub semicolon_at : Left → Result Left ℕ
semicolon_at l = if no_more l.tokens then Ok l else (any_symbol_at l >>= λ s. semicolon_of s.0.0 s.0.1 s.1)

-- The name of a group, to the end.
unfoldable pub group_at : Left → Result (List ℕ × Left) ℕ
group_at l = do
  a ← symbol_at By l
  n ← name_at a
  b ← semicolon_at n.1
  c ← nothing_at b
  Ok (n.0, c)

-- What stands behind the table's name.
abbrev pub opening_of : Symbol → ℕ → Left → Result (Ending × Left) ℕ
opening_of Where at l = Ok (ending.More, l)
opening_of Group at l = Ok (ending.Group, l)
opening_of Semicolon at l = Ok (ending.Done, l)
opening_of _ at l = Err at

-- Behind the table's name.
unfoldable pub opening_at : Left → Result (Ending × Left) ℕ
opening_at l = if no_more l.tokens then Ok (ending.Done, l) else (any_symbol_at l >>= λ s. opening_of s.0.0 s.0.1 s.1)

-- Behind all conditions.
unfoldable pub closing_at : Ending → Left → Result (Option (List ℕ) × Left) ℕ
closing_at ending.More l = nothing_at l >>= λ m. Ok (None, m)
closing_at ending.Group l = group_at l >>= λ x. Ok (Some x.0, x.1)
closing_at ending.Done l = nothing_at l >>= λ m. Ok (None, m)
