-- What `combine` reads, one file after another.
use Rattle.std.proofs.Common.{◌≡◌, ℕ, List, Option, Some, None, Result, Ok, Err, refl, subst, ◌∙◌}
use Rattle.std.specs.Prelude.{IfSome}
use Rattle.spl_outside.specs.Content.{FileMap}
use Rattle.spl_words.specs.Results.{◌>>=◌}
use Rattle.answer_frames.specs.declared.answer.AnswerFrame.{AnswerFrame}
use Rattle.client_rounds.specs.declared.faults.Source.TheVariants as source
use Rattle.client_rounds.specs.declared.judging.Judged.{Judged}
use Rattle.client_rounds.specs.Finishing.{result_of}
use Rattle.command_words.specs.Orders.{CombineOrder}
use Rattle.splinter_status.specs.Phases.{InputGives}
use Rattle.splinter_status.specs.declared.stops.InputStop.{InputStop}
use Rattle.splinter_status.specs.declared.stops.InputStop.TheVariants as input
use Rattle.splinter_status.specs.declared.stops.Refusal.{Refusal}
use Rattle.splinter_commands.specs.Effects.{Effect}
use Rattle.splinter_commands.specs.Commands.{noted_in, answer_of, combine_ready, combined}
use Rattle.splinter_commands.specs.Refusals.{or_ask_refusal}

-- a step that stopped ends what follows it
stop_in : {X : Type 0} (step : Result X Refusal) (next : X → Result Effect Refusal) (s : InputStop) → InputGives {X = X} {Y = X} (λ x. x) (Err s) step → InputGives {X = List ℕ} {Y = Effect} (λ text. combined text) (Err s) (step >>= next)
stop_in step next (input.Refused r) gives = rw gives refl
stop_in step next input.FileFault gives = tt
stop_in step next input.OutOfMemory gives = tt

-- the last step
end_in : (step : Result (List ℕ) Refusal) (r : Result (List ℕ) InputStop) → InputGives {X = List ℕ} {Y = List ℕ} (λ text. text) r step
    → InputGives {X = List ℕ} {Y = Effect} (λ text. combined text) r (step >>= (λ text. Ok (combined text)))
end_in step (Ok t) gives = rw gives refl
end_in step (Err (input.Refused r)) gives = rw gives refl
end_in step (Err input.FileFault) gives = tt
end_in step (Err input.OutOfMemory) gives = tt

-- the first answer stopped
pub at_first : (o : CombineOrder) (files mid : Option FileMap) (j : Judged) (s : InputStop) (r : Result (List ℕ) InputStop) → r ≡ Err s → IfSome files (λ m. noted_in o m ≡ Ok j) → mid ≡ files
    → IfSome mid (λ m. InputGives {X = AnswerFrame} {Y = AnswerFrame} (λ x. x) (Err s) (answer_of o source.First m)) → IfSome files (λ m. InputGives {X = List ℕ} {Y = Effect} (λ text. combined text) r (combine_ready o m))
unfolding combine_ready
at_first o None mid j s r is noted same gives = tt
at_first o (Some m) mid j s r is noted same gives =
    let first = subst (λ k. IfSome k (λ n. InputGives {X = AnswerFrame} {Y = AnswerFrame} (λ x. x) (Err s) (answer_of o source.First n))) same gives in
    rw (is, noted) (stop_in (answer_of o source.First m) _ s first)

-- the second one stopped
pub at_second : (o : CombineOrder) (files mid late : Option FileMap) (j : Judged) (a : AnswerFrame) (s : InputStop) (r : Result (List ℕ) InputStop) → r ≡ Err s → IfSome files (λ m. noted_in o m ≡ Ok j) → mid ≡ files
    → IfSome mid (λ m. answer_of o source.First m ≡ Ok a) → late ≡ mid
    → IfSome late (λ m. InputGives {X = AnswerFrame} {Y = AnswerFrame} (λ x. x) (Err s) (answer_of o source.Second m)) → IfSome files (λ m. InputGives {X = List ℕ} {Y = Effect} (λ text. combined text) r (combine_ready o m))
unfolding combine_ready
at_second o None mid late j a s r is noted same first again gives = tt
at_second o (Some m) mid late j a s r is noted same first again gives =
    let one = subst (λ k. IfSome k (λ n. answer_of o source.First n ≡ Ok a)) same first in
    let two = subst (λ k. IfSome k (λ n. InputGives {X = AnswerFrame} {Y = AnswerFrame} (λ x. x) (Err s) (answer_of o source.Second n))) (again ∙ same) gives in
    rw (is, noted, one) (stop_in (answer_of o source.Second m) _ s two)

-- both were read
pub at_end : (o : CombineOrder) (files mid late : Option FileMap) (j : Judged) (a b : AnswerFrame) (r : Result (List ℕ) InputStop) → IfSome files (λ m. noted_in o m ≡ Ok j) → mid ≡ files
    → IfSome mid (λ m. answer_of o source.First m ≡ Ok a) → late ≡ mid → IfSome late (λ m. answer_of o source.Second m ≡ Ok b)
    → InputGives {X = List ℕ} {Y = List ℕ} (λ text. text) r (or_ask_refusal o (result_of j a b)) → IfSome files (λ m. InputGives {X = List ℕ} {Y = Effect} (λ text. combined text) r (combine_ready o m))
unfolding combine_ready
at_end o None mid late j a b r noted same first again second gives = tt
at_end o (Some m) mid late j a b r noted same first again second gives =
    let one = subst (λ k. IfSome k (λ n. answer_of o source.First n ≡ Ok a)) same first in
    let two = subst (λ k. IfSome k (λ n. answer_of o source.Second n ≡ Ok b)) (again ∙ same) second in
    rw (noted, one, two) (end_in (or_ask_refusal o (result_of j a b)) r gives)
