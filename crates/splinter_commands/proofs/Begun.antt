-- What `keys` and `trace` come to, over the round that was begun.
use Rattle.std.proofs.Common.{◌≡◌, ℕ, List, drop, Option, Some, None, Result, Ok, refl, subst, ap, ◌∙◌, arith}
use Rattle.std.specs.Prelude.{IfSome}
use Rattle.std.specs.Global.{Vec}
use Rattle.spl_outside.specs.Content.{FileMap, LeftAfter}
use Rattle.spl_values.specs.Shapes.{ShapeParts}
use Rattle.seed_expansion.specs.ChaChaExpansion.{chacha}
use Rattle.query_reader.specs.declared.checked.Checked.{Checked}
use Rattle.client_rounds.specs.Rounds.{words_taken, IsRound, IsRoundOf}
use Rattle.client_rounds.specs.declared.starting.RoundOut.{RoundOut}
use Rattle.command_words.specs.Orders.{KeysOrder}
use Rattle.splinter_status.specs.declared.stops.Stopped.{Stopped}
use Rattle.splinter_steps.specs.Writes.{put_all, Puts}
use Rattle.splinter_commands.specs.declared.keys.Question.{Question}
use Rattle.splinter_commands.specs.declared.trace.Traced.{Traced}
use Rattle.splinter_commands.specs.Effects.{outputs}
use Rattle.splinter_commands.specs.Commands.{asked, begun_text, round_files, trace_text, traced}
use Rattle.splinter_commands.specs.Meets.{IsTold}
use Rattle.splinter_commands.proofs.Late.{Came, Wrote}

-- the round is that of the words, and all of them were taken
abbrev pub Began : Checked → ShapeParts → List ℕ → RoundOut → Option (List ℕ) → List ℕ → Type 0
Began checked shape params round left ws = IsRoundOf chacha checked shape params ws round × (left ≡ Some (drop (words_taken checked shape params) ws))

module _ (checked : Checked) (shape : ShapeParts) (params : List ℕ) (round : RoundOut) where
  all_taken : (words left : Option (List ℕ)) → IfSome words (Began checked shape params round left) → IfSome words (λ ws. left ≡ Some (drop (words_taken checked shape params) ws))
  all_taken None left told = tt
  all_taken (Some ws) left told = told.1

  all_drawn : (words left : Option (List ℕ)) → IfSome words (Began checked shape params round left) → IfSome words (λ ws. LeftAfter (words_taken checked shape params) ws left)
  all_drawn None left told = tt
  all_drawn (Some ws) left told = (words_taken checked shape params, (omega arith, told.1))

  -- its words, told or not
  own_words : (words left : Option (List ℕ)) → IfSome words (Began checked shape params round left) → IsRound chacha checked shape params round
      → (ws : List ℕ) × (IsTold words ws × IsRoundOf chacha checked shape params ws round)
  own_words None left told of = (of.0, (tt, of.1))
  own_words (Some ws) left told of = (ws, (refl, told.0))

-- ---- keys

module _ (o : KeysOrder) (q : Question) where
  -- no more words are drawn than the question takes
  pub asked_some : (words left : Option (List ℕ)) → IfSome words (λ ws. LeftAfter (words_taken q.asked.checked q.shape q.asked.params) ws left) → IfSome words (λ ws. LeftAfter (asked o q).draws ws left)
  unfolding asked
  asked_some words left drawn = drawn

  module _ (round : RoundOut) where
    pub asked_drawn : (words left : Option (List ℕ)) → IfSome words (Began q.asked.checked q.shape q.asked.params round left) → IfSome words (λ ws. LeftAfter (asked o q).draws ws left)
    asked_drawn words left told = asked_some words left (all_drawn q.asked.checked q.shape q.asked.params round words left told)

    pub asked_taken : (words left : Option (List ℕ)) → IfSome words (Began q.asked.checked q.shape q.asked.params round left) → IfSome words (λ ws. left ≡ Some (drop (asked o q).draws ws))
    unfolding asked
    asked_taken words left told = all_taken q.asked.checked q.shape q.asked.params round words left told

    files_are : (ws : List ℕ) → IsRoundOf chacha q.asked.checked q.shape q.asked.params ws round → round_files o round ≡ outputs (asked o q) ws
    unfolding asked
    files_are ws of = ap (λ (r : RoundOut). round_files o r) of.is

    text_is : (ws : List ℕ) → IsRoundOf chacha q.asked.checked q.shape q.asked.params ws round → begun_text round.rounds ≡ (asked o q).prints ws
    unfolding asked
    text_is ws of = ap (λ (r : RoundOut). begun_text r.rounds) of.is

    puts_in : (ws : List ℕ) (m : FileMap) (mid held : Option FileMap) (r : Result (Unit {0}) Stopped) → IsRoundOf chacha q.asked.checked q.shape q.asked.params ws round → mid ≡ Some m
        → IfSome mid (λ n. Puts (round_files o round) n held r) → Puts (outputs (asked o q) ws) m held r
    puts_in ws m mid held r of same puts =
        let own = subst (λ k. IfSome k (λ n. Puts (round_files o round) n held r)) same puts in
        subst (λ os. Puts os m held r) (files_are ws of) own

    -- what was written of the round
    pub wrote : (files mid held : Option FileMap) (words left : Option (List ℕ)) (r : Result (Unit {0}) Stopped) → mid ≡ files → IfSome words (Began q.asked.checked q.shape q.asked.params round left)
        → IsRound chacha q.asked.checked q.shape q.asked.params round → IfSome mid (λ n. Puts (round_files o round) n held r) → Wrote files held words (asked o q) r
    wrote None mid held words left r same told of puts = tt
    wrote (Some m) mid held words left r same told of puts =
        let own = own_words q.asked.checked q.shape q.asked.params round words left told of in
        (own.0, (own.1.0, puts_in own.0 m mid held r own.1.1 same puts))

    -- its files were written, and its text is told
    pub asked_came : (files mid held : Option FileMap) (words left : Option (List ℕ)) (text : Vec ℕ) → mid ≡ files → IfSome words (Began q.asked.checked q.shape q.asked.params round left)
        → IsRound chacha q.asked.checked q.shape q.asked.params round → text.items ≡ begun_text round.rounds → IfSome mid (λ n. held ≡ Some (put_all (round_files o round) n)) → Came files held words (asked o q) (Ok text)
    asked_came None mid held words left text same told of shown puts = tt
    asked_came (Some m) mid held words left text same told of shown puts =
        let own = own_words q.asked.checked q.shape q.asked.params round words left told of in
        (own.0, (own.1.0, (shown ∙ text_is own.0 own.1.1, puts_in own.0 m mid held (Ok tt) own.1.1 same puts)))

-- ---- trace

module _ (t : Traced) where
  pub traced_some : (words left : Option (List ℕ)) → IfSome words (λ ws. LeftAfter (words_taken t.asked.checked t.table.shape t.asked.params) ws left) → IfSome words (λ ws. LeftAfter (traced t).draws ws left)
  unfolding traced
  traced_some words left drawn = drawn

  module _ (round : RoundOut) where
    pub traced_drawn : (words left : Option (List ℕ)) → IfSome words (Began t.asked.checked t.table.shape t.asked.params round left) → IfSome words (λ ws. LeftAfter (traced t).draws ws left)
    traced_drawn words left told = traced_some words left (all_drawn t.asked.checked t.table.shape t.asked.params round words left told)

    pub traced_taken : (words left : Option (List ℕ)) → IfSome words (Began t.asked.checked t.table.shape t.asked.params round left) → IfSome words (λ ws. left ≡ Some (drop (traced t).draws ws))
    unfolding traced
    traced_taken words left told = all_taken t.asked.checked t.table.shape t.asked.params round words left told

    -- its text is told, and nothing was written
    pub traced_came : (files held : Option FileMap) (words left : Option (List ℕ)) (text : Vec ℕ) → held ≡ files → IfSome words (Began t.asked.checked t.table.shape t.asked.params round left)
        → IsRound chacha t.asked.checked t.table.shape t.asked.params round → ((ws : List ℕ) → IsRoundOf chacha t.asked.checked t.table.shape t.asked.params ws round → text.items ≡ trace_text t ws) → Came files held words (traced t) (Ok text)
    unfolding traced put_all
    traced_came None held words left text stays told of shown = tt
    traced_came (Some m) held words left text stays told of shown =
        let own = own_words t.asked.checked t.table.shape t.asked.params round words left told of in
        (own.0, (own.1.0, (shown own.0 own.1.1, stays)))
