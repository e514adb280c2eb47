-- What a run appends to what was written.
use Rattle.std.proofs.Common.{◌≡◌, ◌≢◌, ℕ, List, ◌++◌, Option, Some, Result, Ok, Err, refl, sym, subst, ap, ◌∙◌, inl, inr}
use Rattle.std.specs.Prelude.{IsOk, IsOkAnd}
use Rattle.std.specs.Global.{Vec}
use Rattle.spl_outside.specs.Content.{FileMap}
use Rattle.splinter_status.specs.declared.status.Status.{Status}
use Rattle.splinter_status.specs.declared.status.Status.TheVariants as status
use Rattle.splinter_status.specs.declared.stops.Refusal.{Refusal}
use Rattle.splinter_status.specs.declared.stops.Refusal.TheVariants as refusal
use Rattle.splinter_status.specs.declared.stops.InputStop.TheVariants as input
use Rattle.splinter_status.specs.declared.stops.Stopped.{Stopped}
use Rattle.splinter_status.specs.declared.stops.Stopped.TheVariants as stopped
use Rattle.splinter_status.specs.Ends.{line_of_refusal, Reports, status_of}
use Rattle.splinter_commands.specs.Effects.{Effect}
use Rattle.splinter_commands.specs.Meets.{Ends}
use Rattle.splinter_cli.specs.Runs.{ended, MayPrint, shown, Tells}

module _ (ws : List ℕ) (m : FileMap) (held : Option FileMap) where
  -- what was to be printed, unless memory was short
  may_print : (ready : Result Effect Refusal) (outcome : Result (Vec ℕ) Stopped) → ended outcome ≢ status.OutOfMemory → Ends outcome ready ws m held → MayPrint ready ws (shown outcome)
  may_print (Ok x) (Ok text) noted ends = inr (inr ends.0)
  may_print (Err r) (Ok text) noted ends = absurd ends
  may_print ready (Err (stopped.Input (input.Refused r))) noted ends = subst (λ k. MayPrint k ws (line_of_refusal r)) (sym ends.0) (inl refl)
  may_print (Ok x) (Err (stopped.Input input.FileFault)) noted ends = inl refl
  may_print (Err r) (Err (stopped.Input input.FileFault)) noted ends = inr refl
  may_print ready (Err (stopped.Input input.OutOfMemory)) noted ends = absurd (noted refl)
  may_print (Ok x) (Err stopped.DrawFault) noted ends = inr (inl refl)
  may_print (Err r) (Err stopped.DrawFault) noted ends = let none : IsOk {T = Effect} {E = Refusal} (Err r) = ends.0 in absurd cc
  may_print (Ok x) (Err stopped.FileFault) noted ends = inl refl
  may_print (Err r) (Err stopped.FileFault) noted ends = absurd ends
  may_print ready (Err stopped.OutOfMemory) noted ends = absurd (noted refl)

module _ (w : List ℕ) (now : Option (List ℕ)) where
  told_text : (ready : Result Effect Refusal) (text ws : List ℕ) (P : Effect → Type 0) → IsOkAnd ready (λ x. (text ≡ x.prints ws) × P x) → now ≡ Some (w ++ text) → IsOkAnd ready (λ x. now ≡ Some (w ++ x.prints ws))
  told_text (Ok x) text ws P own is = is ∙ ap (λ (b : List ℕ). Some (w ++ b)) own.0
  told_text (Err r) text ws P own is = own

  told_refusal : (ready : Result Effect Refusal) (ws : List ℕ) (r : Refusal) → ready ≡ Err r → now ≡ Some (w ++ line_of_refusal r) → Tells (status_of r) ready ws w now
  told_refusal ready ws refusal.Usage is line = (refusal.Usage, (is, line))
  told_refusal ready ws (refusal.Query f) is line = (refusal.Query f, (is, line))
  told_refusal ready ws (refusal.Param f) is line = (refusal.Param f, (is, line))
  told_refusal ready ws (refusal.Shape f) is line = (refusal.Shape f, (is, line))
  told_refusal ready ws (refusal.Table f) is line = (refusal.Table f, (is, line))
  told_refusal ready ws (refusal.SumBound n c at) is line = (refusal.SumBound n c at, (is, line))
  told_refusal ready ws (refusal.Frame n f) is line = (refusal.Frame n f, (is, line))
  told_refusal ready ws (refusal.Differ d) is line = (refusal.Differ d, (is, line))
  told_refusal ready ws (refusal.BadWord i word) is line = (refusal.BadWord i word, (is, line))
  told_refusal ready ws (refusal.MissingFile n) is line = (refusal.MissingFile n, (is, line))
  told_refusal ready ws (refusal.FileTooLong n) is line = (refusal.FileTooLong n, (is, line))
  told_refusal ready ws (refusal.SameProvider p) is line = (refusal.SameProvider p, (is, line))
  told_refusal ready ws (refusal.NotBuilt p) is line = (refusal.NotBuilt p, (is, line))

  -- with the command's own status
  told_own : (ready : Result Effect Refusal) (outcome : Result (Vec ℕ) Stopped) (ws : List ℕ) (m : FileMap) (held : Option FileMap) → Ends outcome ready ws m held → (ended outcome ≡ status.OutOfMemory → now ≡ Some w)
      → now ≡ Some (w ++ shown outcome) → Tells (ended outcome) ready ws w now
  told_own ready (Ok text) ws m held ends quiet is = told_text ready text.items ws _ ends is
  told_own ready (Err (stopped.Input (input.Refused r))) ws m held ends quiet is = told_refusal ready ws r ends.0 is
  told_own ready (Err (stopped.Input input.FileFault)) ws m held ends quiet is = is
  told_own ready (Err (stopped.Input input.OutOfMemory)) ws m held ends quiet is = quiet refl
  told_own ready (Err stopped.DrawFault) ws m held ends quiet is = is
  told_own ready (Err stopped.FileFault) ws m held ends quiet is = is
  told_own ready (Err stopped.OutOfMemory) ws m held ends quiet is = quiet refl

  pub tells : (ready : Result Effect Refusal) (outcome : Result (Vec ℕ) Stopped) (result : Status) (ws : List ℕ) (m : FileMap) (held : Option FileMap) → Ends outcome ready ws m held
      → (ended outcome ≡ status.OutOfMemory → (result ≡ status.OutOfMemory) × (now ≡ Some w)) → Reports w (shown outcome) (ended outcome) result now → Tells result ready ws w now
  tells ready outcome result ws m held ends quiet (inl (is, text)) = subst (λ own. Tells own ready ws w now) (sym is) (told_own ready outcome ws m held ends (λ e. (quiet e).1) text)
  tells ready outcome result ws m held ends quiet (inr (inl (is, cut))) =
      let noted : ended outcome ≢ status.OutOfMemory = λ e. let both : status.OutputFault ≡ status.OutOfMemory = sym is ∙ (quiet e).0 in absurd cc in
      subst (λ own. Tells own ready ws w now) (sym is) (shown outcome, (may_print ws m held ready outcome noted ends, cut))
  tells ready outcome result ws m held ends quiet (inr (inr (is, same))) = subst (λ own. Tells own ready ws w now) (sym is) same

  -- without memory nothing was printed
  pub tells_nothing : (outcome : Result (Vec ℕ) Stopped) (result : Status) → (ended outcome ≡ status.OutOfMemory → now ≡ Some w) → Reports w (shown outcome) (ended outcome) result now → result ≡ status.OutOfMemory → now ≡ Some w
  tells_nothing outcome result quiet (inl (is, text)) short = quiet (sym is ∙ short)
  tells_nothing outcome result quiet (inr (inl (is, cut))) short = let both : status.OutputFault ≡ status.OutOfMemory = sym is ∙ short in absurd cc
  tells_nothing outcome result quiet (inr (inr (is, same))) short = same
