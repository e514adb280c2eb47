-- A text stops being a query in one place, so a fault of a reader is the one that the grammar tells.
use Rattle.std.proofs.Common.{◌≡◌, ℕ, List, [], ◌∷◌, ◌++◌, length, Result, Ok, Err, refl, sym, ◌∙◌, ap, subst, append_assoc}
use Rattle.std.proofs.lemmas.List.{append-nil, map-append}
use Rattle.query_grammar.specs.declared.token.Placed.{Placed}
use Rattle.query_grammar.specs.declared.token.Token.{Token}
use Rattle.query_grammar.specs.Queries.{QueryParts}
use Rattle.query_grammar.specs.Grammar.{Reads, IsBeginning}
use Rattle.query_grammar.specs.Machine.{Start}
use Rattle.query_grammar.specs.Faults.{tokens_of, Stops, NoReadingAt, verdict}
use Rattle.query_tokens.specs.Tokens.{tokens_in}
use Rattle.query_parser.specs.declared.fault.QueryFault.TheVariants.{NoReading}
use Rattle.judged_queries.specs.Queries.{reading_of, or_no_reading}

-- where some query begins so, one begins with the front of it
front_begins : (a b : List Placed) → IsBeginning (tokens_of (a ++ b)) → IsBeginning (tokens_of a)
front_begins a b (more, q, reads) =
    let split : tokens_of (a ++ b) ++ more ≡ tokens_of a ++ (tokens_of b ++ more) =
    ap (λ (x : List Token). x ++ more) (map-append (λ (p : Placed). p.token) a b) ∙ append_assoc (tokens_of a) (tokens_of b) more
    in
    (tokens_of b ++ more, q, subst (λ ts. Reads ts q) split reads)

-- a text that stops behind a front goes on with nothing longer
no_longer : (done front : List Placed) (p : Placed) → (IsBeginning (tokens_of ((done ++ []) ++ p ∷ [])) → ⊥) → IsBeginning (tokens_of (done ++ p ∷ front)) → ⊥
no_longer done front p stops begins =
    let same : ((done ++ []) ++ p ∷ []) ++ front ≡ done ++ p ∷ front =
    ap (λ (x : List Placed). (x ++ p ∷ []) ++ front) (append-nil done) ∙ append_assoc done (p ∷ []) front
    in
    stops (front_begins ((done ++ []) ++ p ∷ []) front (subst (λ (x : List Placed). IsBeginning (tokens_of x)) (sym same) begins))

-- the place of a stop is that of what is left
one_place : (front rest : List Placed) (end o u : ℕ) → Stops front rest end o → Stops front rest end u → o ≡ u
one_place front [] end o u h k = h.0 ∙ sym k.0
one_place front (p ∷ rest) end o u h k = h.0 ∙ sym k.0

-- two stops of one text, behind what both fronts begin with
one_stop : (done a x b y : List Placed) (end o u : ℕ) → a ++ x ≡ b ++ y → IsBeginning (tokens_of (done ++ a)) → IsBeginning (tokens_of (done ++ b))
    → Stops (done ++ a) x end o → Stops (done ++ b) y end u → o ≡ u
one_stop done [] x [] y end o u same begins starts h k = one_place (done ++ []) x end o u h (subst (λ rest. Stops (done ++ []) rest end u) (sym same) k)
one_stop done [] x (q ∷ b) y end o u same begins starts h k =
    let stops : Stops (done ++ []) (q ∷ (b ++ y)) end o = subst (λ rest. Stops (done ++ []) rest end o) same h in
    absurd (no_longer done b q stops.1 starts)
one_stop done (p ∷ a) x [] y end o u same begins starts h k =
    let stops : Stops (done ++ []) (p ∷ (a ++ x)) end u = subst (λ rest. Stops (done ++ []) rest end u) (sym same) k in
    absurd (no_longer done a p stops.1 begins)
one_stop done (p ∷ a) x (q ∷ b) y end o u same begins starts h k =
    let head : p ≡ q = cc in
    let tail : a ++ x ≡ b ++ y = cc in
    let left : done ++ p ∷ a ≡ (done ++ p ∷ []) ++ a = sym (append_assoc done (p ∷ []) a) in
    let right : done ++ q ∷ b ≡ (done ++ p ∷ []) ++ b = ap (λ r. done ++ r ∷ b) (sym head) ∙ sym (append_assoc done (p ∷ []) b) in
    one_stop (done ++ p ∷ []) a x b y end o u tail (rw left at begins) (rw right at starts) (rw left at h) (rw right at k)

-- a text stops in one place
pub stops_once : (placed : List Placed) (end o u : ℕ) → NoReadingAt placed end o → NoReadingAt placed end u → o ≡ u
stops_once placed end o u h k = one_stop [] h.front h.rest k.front k.rest end o u (sym h.split ∙ k.split) h.begins k.begins h.stops k.stops

-- the verdict on a text that is no query
verdict_stops : (v : Result QueryParts ℕ) (placed : List Placed) (end o : ℕ) → verdict Start placed end ≡ v → ((q : QueryParts) → v ≡ Ok q → ⊥)
    → ((u : ℕ) → v ≡ Err u → NoReadingAt placed end u) → NoReadingAt placed end o → v ≡ Err o
verdict_stops (Ok q) placed end o is never stops h = absurd (never q refl)
verdict_stops (Err u) placed end o is never stops h = ap Err (stops_once placed end u o (stops u refl) h)

-- what no query is, and stops in a place, has that verdict
pub stops_there : (placed : List Placed) (end o : ℕ) → ((q : QueryParts) → verdict Start placed end ≡ Ok q → Reads (tokens_of placed) q)
    → ((u : ℕ) → verdict Start placed end ≡ Err u → NoReadingAt placed end u) → ((q : QueryParts) → Reads (tokens_of placed) q → ⊥) → NoReadingAt placed end o
    → verdict Start placed end ≡ Err o
stops_there placed end o reads stops never h = verdict_stops (verdict Start placed end) placed end o refl (λ q is. never q (reads q is)) stops h

-- what is answered to a text that is no query
pub no_reading_gives : (text : List ℕ) (o : ℕ) → ((q : QueryParts) → verdict Start (tokens_in text) (length text) ≡ Ok q → Reads (tokens_of (tokens_in text)) q)
    → ((u : ℕ) → verdict Start (tokens_in text) (length text) ≡ Err u → NoReadingAt (tokens_in text) (length text) u)
    → ((q : QueryParts) → Reads (tokens_of (tokens_in text)) q → ⊥) → NoReadingAt (tokens_in text) (length text) o
    → or_no_reading (reading_of text) ≡ Err (NoReading o)
no_reading_gives text o reads stops never is = ap or_no_reading (stops_there (tokens_in text) (length text) o reads stops never is)
