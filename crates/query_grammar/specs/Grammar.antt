-- The grammar of queries: what each part is spelled as, one case per line of the grammar.
use Rattle.std.specs.Prelude.{◌≡◌, ℕ, ◌≤◌, Bool, true, false, List, [], ◌∷◌, ◌++◌, length, Option, Some, None, IsTrue}
use Rattle.std.specs.List.{flat_map, list_all}
use Rattle.query_grammar.specs.declared.item.Item.{Item}
use Rattle.query_grammar.specs.declared.item.Item.TheVariants as item
use Rattle.query_grammar.specs.declared.condition.Literal.{Literal}
use Rattle.query_grammar.specs.declared.condition.Literal.TheVariants as literal
use Rattle.query_grammar.specs.declared.condition.Public.{Public}
use Rattle.query_grammar.specs.declared.condition.Public.TheVariants as public
use Rattle.query_grammar.specs.declared.condition.Atom.{Atom}
use Rattle.query_grammar.specs.declared.condition.Atom.TheVariants as atom
use Rattle.query_grammar.specs.declared.token.Aggregate.TheVariants as aggregate
use Rattle.query_grammar.specs.declared.token.Token.{Token}
use Rattle.query_grammar.specs.declared.token.Token.TheVariants.{Symbol, Aggregate, Name, Number, Text}
use Rattle.query_grammar.specs.declared.token.Symbol.TheVariants.{Select, From, Where, And, Or, Between, Group, By, Count, TopK, Open, Close, Comma, Star, Equals, Question, Semicolon}
use Rattle.query_grammar.specs.Queries.{QueryParts, ranges_last, is_branch}

-- x { separator x }
abbrev pub joined : {A : Type 0} → Token → (A → List Token) → List A → List Token
joined separator f [] = []
joined separator f (x ∷ xs) = f x ++ flat_map (λ y. separator ∷ f y) xs

-- item = COUNT ( * ) | SUM ( name ) | AVG ( name ) | MAX ( name ) | MIN ( name ) | TOPK ( number , name , name )
abbrev pub item_text : Item → List Token
item_text item.Count = (Symbol Count) ∷ (Symbol Open) ∷ (Symbol Star) ∷ (Symbol Close) ∷ []
item_text (item.Sum n) = Aggregate aggregate.Sum ∷ (Symbol Open) ∷ Name n ∷ (Symbol Close) ∷ []
item_text (item.Avg n) = Aggregate aggregate.Avg ∷ (Symbol Open) ∷ Name n ∷ (Symbol Close) ∷ []
item_text (item.Max n) = Aggregate aggregate.Max ∷ (Symbol Open) ∷ Name n ∷ (Symbol Close) ∷ []
item_text (item.Min n) = Aggregate aggregate.Min ∷ (Symbol Open) ∷ Name n ∷ (Symbol Close) ∷ []
item_text (item.TopK k sort show) = (Symbol TopK) ∷ (Symbol Open) ∷ Number k ∷ (Symbol Comma) ∷ Name sort ∷ (Symbol Comma) ∷ Name show ∷ (Symbol Close) ∷ []

-- literal = number | text
abbrev pub literal_text : Literal → Token
literal_text (literal.Number k) = Number k
literal_text (literal.Text t) = Text t

-- public = name = literal | name BETWEEN literal AND literal
abbrev pub public_text : Public → List Token
public_text (public.Equal n l) = Name n ∷ (Symbol Equals) ∷ literal_text l ∷ []
public_text (public.Between n l m) = Name n ∷ (Symbol Between) ∷ literal_text l ∷ (Symbol And) ∷ literal_text m ∷ []

-- atom = equal | range, equal = name = ?, range = name BETWEEN ? AND ?
abbrev pub atom_text : Atom → List Token
atom_text (atom.Equal n) = Name n ∷ (Symbol Equals) ∷ (Symbol Question) ∷ []
atom_text (atom.Between n) = Name n ∷ (Symbol Between) ∷ (Symbol Question) ∷ (Symbol And) ∷ (Symbol Question) ∷ []

-- branch = range | equal { AND equal } [ AND range ]
abbrev pub branch_text : List Atom → List Token
branch_text = joined (Symbol And) atom_text

-- part = public | atom | ( branch { OR branch } )
pub data Part : Type 0 where
  Shown : Public → Part
  Bare : Atom → Part
  Either : List (List Atom) → Part

-- part = public | atom | ( branch { OR branch } )
abbrev pub part_text : Part → List Token
part_text (Shown p) = public_text p
part_text (Bare a) = atom_text a
part_text (Either bs) = (Symbol Open) ∷ joined (Symbol Or) branch_text bs ++ (Symbol Close) ∷ []

-- where = parts | either, parts = part { AND part }, either = branch OR branch { OR branch }
pub data Condition : Type 0 where
  Parts : List Part → Condition
  Branches : List (List Atom) → Condition

-- where = parts | either, parts = part { AND part }, either = branch OR branch { OR branch }
abbrev pub condition_text : Condition → List Token
condition_text (Parts ps) = joined (Symbol And) part_text ps
condition_text (Branches bs) = joined (Symbol Or) branch_text bs

-- [ WHERE where ]
abbrev pub where_text : Option Condition → List Token
where_text None = []
where_text (Some c) = (Symbol Where) ∷ condition_text c

-- [ GROUP BY name ]
abbrev pub group_text : Option (List ℕ) → List Token
group_text None = []
group_text (Some n) = (Symbol Group) ∷ (Symbol By) ∷ Name n ∷ []

-- [ ; ]
abbrev pub end_text : Bool → List Token
end_text false = []
end_text true = (Symbol Semicolon) ∷ []

-- The public parts, in order.
abbrev pub publics_of : List Part → List Public
publics_of [] = []
publics_of (Shown p ∷ ps) = p ∷ publics_of ps
publics_of (Bare a ∷ ps) = publics_of ps
publics_of (Either bs ∷ ps) = publics_of ps

-- The bare atoms, in order.
abbrev pub atoms_of : List Part → List Atom
atoms_of [] = []
atoms_of (Shown p ∷ ps) = atoms_of ps
atoms_of (Bare a ∷ ps) = a ∷ atoms_of ps
atoms_of (Either bs ∷ ps) = atoms_of ps

-- The parts in parentheses, in order.
abbrev pub eithers_of : List Part → List (List (List Atom))
eithers_of [] = []
eithers_of (Shown p ∷ ps) = eithers_of ps
eithers_of (Bare a ∷ ps) = eithers_of ps
eithers_of (Either bs ∷ ps) = bs ∷ eithers_of ps

-- one branch or more, each with a range only last
abbrev pub are_branches : List (List Atom) → Bool
are_branches [] = false
are_branches (b ∷ bs) = list_all is_branch (b ∷ bs)

-- Which branches the bare atoms and the parentheses make. No bare atom follows a bare range; there is at
-- most one part in parentheses, and then no bare atom.
abbrev pub BranchesOf : List Atom → List (List (List Atom)) → List (List Atom) → Type 0
BranchesOf [] [] branches = branches ≡ []
BranchesOf (a ∷ more) [] branches = IsTrue (ranges_last (a ∷ more)) × (branches ≡ (a ∷ more) ∷ [])
BranchesOf [] (bs ∷ []) branches = IsTrue (are_branches bs) × (branches ≡ bs)
BranchesOf (a ∷ more) (bs ∷ []) branches = ⊥
BranchesOf atoms (bs ∷ cs ∷ more) branches = ⊥

-- Which publics and branches a condition states.
abbrev pub IsCondition : Condition → List Public → List (List Atom) → Type 0
IsCondition (Parts ps) public branches = (1 ≤ length ps) × (public ≡ publics_of ps) × BranchesOf (atoms_of ps) (eithers_of ps) branches
IsCondition (Branches bs) public branches = (public ≡ []) × (2 ≤ length bs) × IsTrue (list_all is_branch bs) × (branches ≡ bs)

-- The same for a condition that may be absent: then there are none.
abbrev pub IsWhere : Option Condition → List Public → List (List Atom) → Type 0
IsWhere None public branches = (public ≡ []) × (branches ≡ [])
IsWhere (Some c) public branches = IsCondition c public branches

-- query = SELECT item { , item } FROM name [ WHERE where ] [ GROUP BY name ] [ ; ]
pub record Reads (tokens : List Token) (q : QueryParts) : Type 0 where
  pub condition : Option Condition
  pub ended : Bool
  pub some : 1 ≤ length q.items
  pub parts : IsWhere condition q.public q.branches
  pub text : tokens ≡ (Symbol Select) ∷ joined (Symbol Comma) item_text q.items
      ++ ((Symbol From) ∷ Name q.table ∷ where_text condition ++ (group_text q.group ++ end_text ended))

-- Some query begins with these tokens.
abbrev pub IsBeginning : List Token → Type 0
IsBeginning tokens = (more : List Token) × (q : QueryParts) × Reads (tokens ++ more) q
