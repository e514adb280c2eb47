-- What the reader of tokens has left, and what each of its steps does to the verdict.
use Rattle.std.specs.Prelude.{◌≡◌, ℕ, List, Result, Ok, Err}
use Rattle.query_grammar.specs.declared.token.Placed.{Placed}
use Rattle.query_grammar.specs.Queries.{QueryParts}
use Rattle.query_grammar.specs.Machine.{State}
use Rattle.query_grammar.specs.Faults.{NoReadingAt, verdict}
use Rattle.query_parser.specs.declared.fault.QueryFault.{QueryFault}
use Rattle.query_parser.specs.declared.fault.QueryFault.TheVariants.{NoReading, OutOfMemory}
use Rattle.query_parser.specs.declared.fault.ReadFault.{ReadFault}
use Rattle.query_parser.specs.declared.fault.ReadFault.TheVariants as stop
use Rattle.query_parser.specs.declared.reader.Draft.{Draft}

-- The tokens that are left, and where the text ends.
pub record Left : Type 0 where
  pub tokens : List Placed
  pub end : ℕ

-- The verdict in a state, from what is left.
abbrev pub verdict_at : State → Left → Result QueryParts ℕ
verdict_at s l = verdict s l.tokens l.end

-- What a function refuses is the verdict, unless memory ran out.
abbrev pub Refuses : ReadFault → Result QueryParts ℕ → Type 0
Refuses (stop.NoReading o) v = v ≡ Err o
Refuses stop.OutOfMemory v = Unit {0}

-- Reading goes on in the state `next` of what was read, with the same verdict.
abbrev pub Moves : {X : Type 0} → State → Left → (X → State) → Left → Result X ReadFault → Type 0
Moves s old next new (Ok x) = verdict_at s old ≡ verdict_at (next x) new
Moves s old next new (Err e) = Refuses e (verdict_at s old)

-- The reader is done, with this query.
abbrev pub Ends : {X : Type 0} → State → Left → (X → QueryParts) → Result X ReadFault → Type 0
Ends s old query (Ok x) = verdict_at s old ≡ Ok (query x)
Ends s old query (Err e) = Refuses e (verdict_at s old)

-- The query that a draft is.
abbrev pub drafted : Draft → QueryParts
drafted d = record { items = d.items; table = d.table; public = d.public; branches = d.branches; group = d.group }

-- The query was drafted, unless memory ran out.
abbrev pub IsDrafted : QueryParts → Result Draft ReadFault → Type 0
IsDrafted q (Ok d) = drafted d ≡ q
IsDrafted q (Err (stop.NoReading o)) = ⊥
IsDrafted q (Err stop.OutOfMemory) = Unit {0}

-- The reader stopped where no query goes on, unless memory ran out.
abbrev pub IsStopOf : ReadFault → List Placed → ℕ → Type 0
IsStopOf (stop.NoReading o) placed end = NoReadingAt placed end o
IsStopOf stop.OutOfMemory placed end = Unit {0}

-- The query was read, unless memory ran out.
abbrev pub IsRead : QueryParts → Result QueryParts QueryFault → Type 0
IsRead q (Ok r) = r ≡ q
IsRead q (Err OutOfMemory) = Unit {0}
IsRead q (Err _) = ⊥

-- The fault is NoReading where no query goes on, or want of memory.
abbrev pub IsFaultOf : QueryFault → List Placed → ℕ → Type 0
IsFaultOf (NoReading o) placed end = NoReadingAt placed end o
IsFaultOf OutOfMemory placed end = Unit {0}
IsFaultOf _ placed end = ⊥
