-- What commands may do is all that they do.
use Rattle.std.proofs.Common.{◌≡◌, ℕ, false, List, [], Result, Ok, refl, sym, subst, ◌∙◌}
use Rattle.spl_outside.specs.Content.{FileMap}
use Rattle.seed_expansion.specs.ChaChaExpansion.{chacha}
use Rattle.provider_core.specs.Answering.{answered as answered_over}
use Rattle.client_rounds.specs.declared.faults.Source.TheVariants as source
use Rattle.client_rounds.specs.Finishing.{result_of}
use Rattle.command_words.specs.Orders.{Order, AnswerOrder, CombineOrder, trace, keys, answer, combine}
use Rattle.splinter_status.specs.declared.stops.Refusal.{Refusal}
use Rattle.splinter_steps.specs.Reads.{file_of, shape_in, table_in}
use Rattle.splinter_commands.specs.Effects.{Effect}
use Rattle.splinter_commands.specs.Commands.{answer_of, answer_ready, answer_effect, combine_ready, combined, conduct_of, noted_in}
use Rattle.splinter_commands.specs.Refusals.{or_ask_refusal, or_provider_refusal}
use Rattle.splinter_commands.proofs.ByFiles.{step_came}

-- two values of a step are one
same_value : (r : Result Effect Refusal) (x y : Effect) → r ≡ Ok x → r ≡ Ok y → x ≡ y
same_value r x y first second = let both : Ok x ≡ Ok y = sym first ∙ second in cc

answer_is : (o : AnswerOrder) (m : FileMap) (x : Effect) → answer_ready o m ≡ Ok x → (bytes : List ℕ) × (answer_effect o.out bytes ≡ x)
unfolding answer_ready
answer_is o m x is =
    let shape = step_came (shape_in m o.shape) _ x is in
    let table = step_came (table_in m o.table shape.0) _ x shape.1.1 in
    let key = step_came (file_of m o.key) _ x table.1.1 in
    let bytes = step_came (or_provider_refusal o.provider o.key shape.0 (answered_over chacha o.provider key.0 table.0)) _ x key.1.1 in
    (bytes.0, same_value (Ok (answer_effect o.out bytes.0)) (answer_effect o.out bytes.0) x refl bytes.1.1)

combine_is : (o : CombineOrder) (m : FileMap) (x : Effect) → combine_ready o m ≡ Ok x → (text : List ℕ) × (combined text ≡ x)
unfolding combine_ready
combine_is o m x is =
    let judged = step_came (noted_in o m) _ x is in
    let first = step_came (answer_of o source.First m) _ x judged.1.1 in
    let second = step_came (answer_of o source.Second m) _ x first.1.1 in
    let text = step_came (or_ask_refusal o (result_of judged.0 first.0 second.0)) _ x second.1.1 in
    (text.0, same_value (Ok (combined text.0)) (combined text.0) x refl text.1.1)

answered_draws : (name bytes : List ℕ) → (answer_effect name bytes).draws ≡ 0
unfolding answer_effect
answered_draws name bytes = refl

answered_prints : (name bytes ws : List ℕ) → (answer_effect name bytes).prints ws ≡ []
unfolding answer_effect
answered_prints name bytes ws = refl

combined_draws : (text : List ℕ) → (combined text).draws ≡ 0
unfolding combined
combined_draws text = refl

-- one that may not draw draws nothing
pub none_drawn : (o : Order) (m : FileMap) (x : Effect) → (conduct_of o).ready m ≡ Ok x → (conduct_of o).may_draw ≡ false → x.draws ≡ 0
none_drawn (trace o) m x is may = absurd cc
none_drawn (keys o) m x is may = absurd cc
none_drawn (answer o) m x is may = let own = answer_is o m x is in subst (λ (y : Effect). y.draws ≡ 0) own.1 (answered_draws o.out own.0)
none_drawn (combine o) m x is may = let own = combine_is o m x is in subst (λ (y : Effect). y.draws ≡ 0) own.1 (combined_draws own.0)

-- and one that may not print prints nothing
pub none_printed : (o : Order) (m : FileMap) (x : Effect) → (conduct_of o).ready m ≡ Ok x → (conduct_of o).may_print ≡ false → (ws : List ℕ) → x.prints ws ≡ []
none_printed (trace o) m x is may = absurd cc
none_printed (keys o) m x is may = absurd cc
none_printed (answer o) m x is may = λ ws. let own = answer_is o m x is in subst (λ (y : Effect). y.prints ws ≡ []) own.1 (answered_prints o.out own.0 ws)
none_printed (combine o) m x is may = absurd cc
