-- The verdict is the grammar's.
use Rattle.std.proofs.Common.{◌≡◌, ℕ, List, [], ◌∷◌, ◌++◌, Option, Some, None, Ok, Err, refl, ◌∙◌, ap}
use Rattle.std.proofs.lemmas.List.{map-append}
use Rattle.query_grammar.specs.declared.token.Placed.{Placed}
use Rattle.query_grammar.specs.Queries.{QueryParts}
use Rattle.query_grammar.specs.Grammar.{Reads}
use Rattle.query_grammar.specs.Machine.{State, Start, step, finish, run, finished}
use Rattle.query_grammar.specs.Faults.{tokens_of, Stops, NoReadingAt, ended, after, verdict}
use Rattle.query_grammar.proofs.Complete.{accepted}
use Rattle.query_grammar.proofs.Sound.{sound, lives, dead, run_more}

ended_ok : (o : Option QueryParts) (end : ℕ) (q : QueryParts) → ended o end ≡ Ok q → o ≡ Some q
ended_ok None end q e = cc
ended_ok (Some p) end q e = cc

ended_err : (o : Option QueryParts) (end k : ℕ) → ended o end ≡ Err k → (o ≡ None) × (k ≡ end)
ended_err None end k e = (refl, cc)
ended_err (Some p) end k e = cc

after_ok : (o : Option State) (at : ℕ) (ps : List Placed) (end : ℕ) (q : QueryParts) → ((z : State) → verdict z ps end ≡ Ok q → finished (run (Some z) (tokens_of ps)) ≡ Some q)
    → after o at (λ z. verdict z ps end) ≡ Ok q → finished (run o (tokens_of ps)) ≡ Some q
after_ok None at ps end q f e = cc
after_ok (Some z) at ps end q f e = f z e

verdict_ok : (s : State) (ps : List Placed) (end : ℕ) (q : QueryParts) → verdict s ps end ≡ Ok q → finished (run (Some s) (tokens_of ps)) ≡ Some q
verdict_ok s [] end q e = ended_ok (finish s) end q e
verdict_ok s (p ∷ ps) end q e = after_ok (step s p.token) p.at ps end q (λ z. verdict_ok z ps end q) e

ok_after : (o : Option State) (at : ℕ) (ps : List Placed) (end : ℕ) (q : QueryParts) → ((z : State) → finished (run (Some z) (tokens_of ps)) ≡ Some q → verdict z ps end ≡ Ok q)
    → finished (run o (tokens_of ps)) ≡ Some q → after o at (λ z. verdict z ps end) ≡ Ok q
ok_after None at ps end q f e = let n : finished (run None (tokens_of ps)) ≡ None = refl in cc
ok_after (Some z) at ps end q f e = f z e

ok_verdict : (s : State) (ps : List Placed) (end : ℕ) (q : QueryParts) → finished (run (Some s) (tokens_of ps)) ≡ Some q → verdict s ps end ≡ Ok q
ok_verdict s [] end q e = rw e
ok_verdict s (p ∷ ps) end q e = ok_after (step s p.token) p.at ps end q (λ z. ok_verdict z ps end q) e

-- the machine stops at o, behind what it took
abbrev pub StopsIn : State → List Placed → ℕ → ℕ → Type 0
StopsIn s [] end o = (o ≡ end) × (finish s ≡ None)
StopsIn s (p ∷ more) end o = (o ≡ p.at) × (step s p.token ≡ None)

pub record Died (s : State) (ps : List Placed) (end o : ℕ) : Type 0 where
  pub front : List Placed
  pub rest : List Placed
  pub split : ps ≡ front ++ rest
  pub state : State
  pub runs : run (Some s) (tokens_of front) ≡ Some state
  pub stops : StopsIn state rest end o

next_died : (s : State) (p : Placed) (ps : List Placed) (end o : ℕ) (z : Option State) → ((y : State) → verdict y ps end ≡ Err o → Died y ps end o)
    → step s p.token ≡ z → after z p.at (λ y. verdict y ps end) ≡ Err o → Died s (p ∷ ps) end o
next_died s p ps end o None f e v = record { front = []; rest = p ∷ ps; split = refl; state = s; runs = refl; stops = (cc, e) }
next_died s p ps end o (Some z) f e v =
    let d = f z v in
    record { front = p ∷ d.front; rest = d.rest; split = ap (λ l. p ∷ l) d.split; state = d.state; runs = ap (λ y. run y (tokens_of d.front)) e ∙ d.runs; stops = d.stops }

verdict_err : (s : State) (ps : List Placed) (end o : ℕ) → verdict s ps end ≡ Err o → Died s ps end o
verdict_err s [] end o v = let e = ended_err (finish s) end o v in record { front = []; rest = []; split = refl; state = s; runs = refl; stops = (e.1, e.0) }
verdict_err s (p ∷ ps) end o v = next_died s p ps end o (step s p.token) (λ y w. verdict_err y ps end o w) refl v

stops_of : (front rest : List Placed) (s : State) (end o : ℕ) → run (Some Start) (tokens_of front) ≡ Some s → StopsIn s rest end o → Stops front rest end o
stops_of front [] s end o e stops =
    (stops.0, λ q r. let a : finished (run (Some Start) (tokens_of front)) ≡ Some q = accepted (tokens_of front) q r in let b : finished (run (Some Start) (tokens_of front)) ≡ None = ap finished e ∙ stops.1 in let c : ⊥ = cc in c)
stops_of front (p ∷ rest) s end o e stops = (
  stops.0,
  dead (tokens_of (front ++ p ∷ []))
      (ap (run (Some Start)) (map-append (λ (x : Placed). x.token) front (p ∷ [])) ∙ run_more (Some Start) (tokens_of front) (p.token ∷ []) ∙ ap (λ y. run y (p.token ∷ [])) e ∙ ap (λ y. run y []) stops.1),
)

pub verdict_reads : (ps : List Placed) (end : ℕ) (q : QueryParts) → verdict Start ps end ≡ Ok q → Reads (tokens_of ps) q
verdict_reads ps end q e = sound (tokens_of ps) q (verdict_ok Start ps end q e)

pub reads_verdict : (ps : List Placed) (end : ℕ) (q : QueryParts) → Reads (tokens_of ps) q → verdict Start ps end ≡ Ok q
reads_verdict ps end q r = ok_verdict Start ps end q (accepted (tokens_of ps) q r)

pub verdict_faults : (ps : List Placed) (end o : ℕ) → verdict Start ps end ≡ Err o → NoReadingAt ps end o
verdict_faults ps end o e =
    let d = verdict_err Start ps end o e in
    record { front = d.front; rest = d.rest; split = d.split; begins = lives (tokens_of d.front) d.state d.runs; stops = stops_of d.front d.rest d.state end o d.runs d.stops }
