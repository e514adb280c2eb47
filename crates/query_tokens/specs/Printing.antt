-- The text of tokens: the canonical text of a query is that of its canonical tokens.
use Rattle.std.specs.Prelude.{◌≡◌, ℕ, ◌<◌, ◌^◌, Bool, true, false, not, ◌&&◌, ◌||◌, List, [], ◌∷◌, ◌++◌, Option, Some, None, eqb, if◌then◌else◌, IsTrue, codes}
use Rattle.std.specs.List.{list_all}
use Rattle.std.specs.Fmt as fmt
use Rattle.query_grammar.specs.declared.token.Aggregate.{Aggregate as TheAggregate}
use Rattle.query_grammar.specs.declared.token.Aggregate.TheVariants as aggregate
use Rattle.query_grammar.specs.declared.token.Symbol.{Symbol}
use Rattle.query_grammar.specs.declared.token.Symbol.TheVariants as symbol
use Rattle.query_grammar.specs.declared.token.Token.{Token}
use Rattle.query_grammar.specs.declared.token.Token.TheVariants.{Symbol as TheSymbol, Aggregate, Name, Number, Text, Nothing}
use Rattle.query_grammar.specs.declared.item.Item.{Item}
use Rattle.query_grammar.specs.declared.item.Item.TheVariants as item
use Rattle.query_grammar.specs.declared.condition.Literal.{Literal}
use Rattle.query_grammar.specs.declared.condition.Literal.TheVariants as literal
use Rattle.query_grammar.specs.declared.condition.Public.{Public}
use Rattle.query_grammar.specs.declared.condition.Public.TheVariants as public
use Rattle.query_grammar.specs.declared.condition.Atom.{Atom}
use Rattle.query_grammar.specs.declared.condition.Atom.TheVariants as atom
use Rattle.query_tokens.specs.declared.printer.Last.{Last}
use Rattle.query_tokens.specs.declared.printer.Last.TheVariants.{Begin, Opening, Function, Other}
use Rattle.spl_values.specs.Names.{is_name, is_name_byte}
use Rattle.spl_values.specs.Kinds.{is_printable}
use Rattle.query_grammar.specs.Queries.{QueryParts}
use Rattle.query_grammar.specs.Canonical.{canonical, IsQuery}

-- The text of a reserved word or a sign.
abbrev pub symbol_text : Symbol → List ℕ
symbol_text symbol.Select = codes "SELECT"
symbol_text symbol.From = codes "FROM"
symbol_text symbol.Where = codes "WHERE"
symbol_text symbol.And = codes "AND"
symbol_text symbol.Or = codes "OR"
symbol_text symbol.Between = codes "BETWEEN"
symbol_text symbol.Group = codes "GROUP"
symbol_text symbol.By = codes "BY"
symbol_text symbol.Count = codes "COUNT"
symbol_text symbol.TopK = codes "TOPK"
symbol_text symbol.Open = codes "("
symbol_text symbol.Close = codes ")"
symbol_text symbol.Comma = codes ","
symbol_text symbol.Star = codes "*"
symbol_text symbol.Equals = codes "="
symbol_text symbol.Question = codes "?"
symbol_text symbol.Semicolon = codes ";"

-- The text of a function of one column.
abbrev pub aggregate_text : TheAggregate → List ℕ
aggregate_text aggregate.Sum = codes "SUM"
aggregate_text aggregate.Avg = codes "AVG"
aggregate_text aggregate.Max = codes "MAX"
aggregate_text aggregate.Min = codes "MIN"

-- Each quote twice.
abbrev pub doubled : List ℕ → List ℕ
doubled [] = []
doubled (b ∷ bs) = if eqb b 39 then 39 ∷ 39 ∷ doubled bs else b ∷ doubled bs

-- The text of a token.
abbrev pub spelled : Token → List ℕ
spelled (TheSymbol s) = symbol_text s
spelled (Aggregate o) = aggregate_text o
spelled (Name w) = w
spelled (Number n) = fmt.decimal n
spelled (Text t) = 39 ∷ doubled t ++ 39 ∷ []
spelled Nothing = []

-- The word is a name.
abbrev pub IsName : List ℕ → Type 0
IsName w = IsTrue (is_name w)

-- The token can be written: a name is one, a number is below 2^64, a text is of printable bytes.
abbrev pub CanStand : Token → Type 0
CanStand (TheSymbol s) = Unit {0}
CanStand (Aggregate o) = Unit {0}
CanStand (Name w) = IsName w
CanStand (Number n) = n < 2 ^ 64
CanStand (Text t) = list_all is_printable t ≡ true
CanStand Nothing = ⊥

-- Each of the tokens can be written.
abbrev pub AllCanStand : List Token → Type 0
AllCanStand [] = Unit {0}
AllCanStand (t ∷ ts) = CanStand t × AllCanStand ts

-- An opening parenthesis.
abbrev pub opens : Symbol → Bool
opens symbol.Open = true
opens s = false

-- A closing parenthesis.
abbrev pub closes : Symbol → Bool
closes symbol.Close = true
closes s = false

-- A comma.
abbrev pub parts : Symbol → Bool
parts symbol.Comma = true
parts s = false

-- COUNT.
abbrev pub counts : Symbol → Bool
counts symbol.Count = true
counts s = false

-- TOPK.
abbrev pub ranks : Symbol → Bool
ranks symbol.TopK = true
ranks s = false

-- The token is such a word or sign.
abbrev pub of_symbol : (Symbol → Bool) → Token → Bool
of_symbol test (TheSymbol s) = test s
of_symbol test t = false

-- The token is a function of one column.
abbrev pub is_aggregate : Token → Bool
is_aggregate (Aggregate o) = true
is_aggregate t = false

-- The parentheses of the token follow it at once.
abbrev pub calls : Token → Bool
calls t = is_aggregate t || (of_symbol counts t || of_symbol ranks t)

-- A space stands between two tokens, but not behind `(`, before `)` and `,`, and between a function and its `(`.
abbrev pub gap : Token → Token → Bool
gap t u = not (of_symbol opens t || (of_symbol closes u || (of_symbol parts u || (calls t && of_symbol opens u))))

-- A space, or nothing.
abbrev pub space : Bool → List ℕ
space true = 32 ∷ []
space false = []

-- The text of some tokens behind another.
abbrev pub printed_behind : Token → List Token → List ℕ
printed_behind t [] = []
printed_behind t (u ∷ us) = space (gap t u) ++ (spelled u ++ printed_behind u us)

-- The text of some tokens.
abbrev pub printed : List Token → List ℕ
printed [] = []
printed (t ∷ ts) = spelled t ++ printed_behind t ts

-- The canonical text of a query: that of its canonical tokens.
abbrev pub canonical_text : QueryParts → List ℕ
canonical_text q = printed (canonical q)

-- The fact holds of each.
abbrev pub Each : {A : Type 0} → (A → Type 0) → List A → Type 0
Each P [] = Unit {0}
Each P (x ∷ xs) = P x × Each P xs

-- The names of an item are names, and its number is below 2^64.
abbrev pub ItemStands : Item → Type 0
ItemStands item.Count = Unit {0}
ItemStands (item.Sum n) = IsName n
ItemStands (item.Avg n) = IsName n
ItemStands (item.Max n) = IsName n
ItemStands (item.Min n) = IsName n
ItemStands (item.TopK k sort show) = (k < 2 ^ 64) × IsName sort × IsName show

-- A number is below 2^64, and a text is of printable bytes.
abbrev pub LiteralStands : Literal → Type 0
LiteralStands (literal.Number k) = k < 2 ^ 64
LiteralStands (literal.Text t) = list_all is_printable t ≡ true

-- The name of a public condition is one, and its literals can be written.
abbrev pub PublicStands : Public → Type 0
PublicStands (public.Equal n l) = IsName n × LiteralStands l
PublicStands (public.Between n l m) = IsName n × LiteralStands l × LiteralStands m

-- The name of an atom is one.
abbrev pub AtomStands : Atom → Type 0
AtomStands (atom.Equal n) = IsName n
AtomStands (atom.Between n) = IsName n

-- The name behind GROUP BY is one.
abbrev pub GroupStands : Option (List ℕ) → Type 0
GroupStands None = Unit {0}
GroupStands (Some n) = IsName n

-- The names of a query are names, its numbers are below 2^64, and its texts are of printable bytes.
pub record IsWritable (q : QueryParts) : Type 0 where
  pub items : Each ItemStands q.items
  pub table : IsName q.table
  pub public : Each PublicStands q.public
  pub branches : Each (Each AtomStands) q.branches
  pub group : GroupStands q.group

-- What every query keeps: its form, and that it can be written.
pub record IsWellFormed (q : QueryParts) : Type 0 where
  pub form : IsQuery q
  pub writable : IsWritable q

-- What stands in front ends a word, a number and a text.
abbrev pub Ends : List ℕ → Type 0
Ends [] = Unit {0}
Ends (b ∷ bs) = (is_name_byte b ≡ false) × (eqb b 39 ≡ false)

-- What a printer has written last, behind a token.
abbrev pub last_of : Token → Last
last_of t = if of_symbol opens t then Opening else if calls t then Function else Other

-- A space stands before a token that is no sign.
abbrev pub space_behind : Last → Bool
space_behind Begin = false
space_behind Opening = false
space_behind Function = true
space_behind Other = true

-- A space stands before a token.
abbrev pub gap_behind : Last → Token → Bool
gap_behind Begin u = false
gap_behind Opening u = false
gap_behind Function u = not (of_symbol closes u || (of_symbol parts u || of_symbol opens u))
gap_behind Other u = not (of_symbol closes u || of_symbol parts u)

-- What a printer has written, and what stands last in it.
pub record Written : Type 0 where
  pub text : List ℕ
  pub last : Last

-- With one token more.
abbrev pub put : Written → Token → Written
put p t = record { text = p.text ++ (space (gap_behind p.last t) ++ spelled t); last = last_of t }

-- With some tokens more.
abbrev pub written : Written → List Token → Written
written p [] = p
written p (t ∷ ts) = written (put p t) ts

-- Nothing is written yet.
abbrev pub begun : Written
begun = record { text = []; last = Begin }
