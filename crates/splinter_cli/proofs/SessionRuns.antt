-- How a run ends over the files of a session.
use Rattle.std.proofs.Common.{◌≡◌, ℕ, ◌<◌, ◌^◌, List, ◌++◌, Option, Some, Ok, refl, sym, subst, ap, ◌∙◌, inl, inr, Result}
use Rattle.std.specs.Prelude.{IfSome, IsOk}
use Rattle.std.specs.List.{AllByRecursion}
use Rattle.spl_outside.specs.Content.{FileMap}
use Rattle.session_laws.specs.OwnSessions.{Session, IsSession, own_text}
use Rattle.command_words.specs.Orders.{Order, CombineOrder, combine}
use Rattle.splinter_status.specs.declared.status.Status.{Status}
use Rattle.splinter_status.specs.declared.status.Status.TheVariants as status
use Rattle.splinter_status.specs.declared.stops.Refusal.{Refusal}
use Rattle.splinter_commands.specs.Effects.{Effect}
use Rattle.splinter_commands.specs.Commands.{combine_ready, combined, judged}
use Rattle.splinter_commands.specs.HeldSessions.{HoldsSession}
use Rattle.splinter_cli.specs.Worlds.{World}
use Rattle.splinter_cli.specs.Runs.{EndsWith, IsDoneOrFault, Promises, Tells}
use Rattle.splinter_cli.proofs.Ends.{if_some, told_as}

combined_prints : (text ws : List ℕ) → (combined text).prints ws ≡ text
unfolding combined
combined_prints text ws = refl

is_ready : {x : Effect} (ready : Result Effect Refusal) → ready ≡ Ok x → IsOk ready
is_ready ready is = subst IsOk (sym is) refl

-- a run that is done printed the text
done_with : (ready : Result Effect Refusal) (text ws w : List ℕ) (now : Option (List ℕ)) → ready ≡ Ok (combined text) → Tells status.Done ready ws w now → now ≡ Some (w ++ text)
done_with ready text ws w now is told =
    let own : now ≡ Some (w ++ (combined text).prints ws) = subst (λ k. Tells status.Done k ws w now) is told in
    own ∙ ap (λ (b : List ℕ). Some (w ++ b)) (combined_prints text ws)

ends_with : (ready : Result Effect Refusal) (text ws w : List ℕ) (result : Status) (now : Option (List ℕ)) → ready ≡ Ok (combined text) → IsDoneOrFault result → Tells result ready ws w now → EndsWith text result w now
ends_with ready text ws w result now is (inl done) told = inl (done, done_with ready text ws w now is (subst (λ s. Tells s ready ws w now) done told))
ends_with ready text ws w result now is (inr fault) told = inr fault

both : {A : Type 0} (P Q : A → Type 0) (o : Option A) → IfSome o P → IfSome o Q → IfSome o (λ a. P a × Q a)
both P Q o p q = if_some o (λ a is h. (h, told_as Q o a is q)) p

pub session_ends : (order : Option Order) (before after : World) (result : Status)
    → ((s : Session) (o : CombineOrder) (m : FileMap) → IsSession s → AllByRecursion (λ x. x < 2 ^ 64) s.words → HoldsSession s o m → combine_ready o m ≡ Ok (combined (own_text s)))
    → Promises order before after result
    → IfSome before.held (λ m. IfSome before.written (λ w. (s : Session) (o : CombineOrder) → order ≡ Some (combine o) → IsSession s → AllByRecursion (λ x. x < 2 ^ 64) s.words → HoldsSession s o m
    → EndsWith (own_text s) result w after.written))
session_ends order before after result law promises =
    if_some before.held (λ m is (ready, left). if_some before.written (λ w written tells s o ordered session drawn holds.
    let comes : judged order m ≡ Ok (combined (own_text s)) = ap (λ k. judged k m) ordered ∙ law s o m session drawn holds in
    ends_with (judged order m) (own_text s) left.words w result after.written comes (ready (is_ready (judged order m) comes)) tells) left.tells) (both _ _ before.held promises.ready promises.left)
