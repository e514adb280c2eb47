-- Each refusal comes exactly where the words and the files call for it.
use Rattle.std.proofs.Common.{◌≡◌, ◌⊎◌, ℕ, List, Option, Result, Ok, Err, refl, sym, subst, ap, ◌∙◌, inl, inr}
use Rattle.std.specs.Prelude.{IsErr, IsOk}
use Rattle.std.specs.Global.{Vec}
use Rattle.spl_outside.specs.Content.{FileMap}
use Rattle.splinter_status.specs.declared.status.Status.{Status}
use Rattle.splinter_status.specs.declared.status.Status.TheVariants as status
use Rattle.splinter_status.specs.declared.stops.Refusal.{Refusal}
use Rattle.splinter_status.specs.declared.stops.InputStop.{InputStop}
use Rattle.splinter_status.specs.declared.stops.InputStop.TheVariants as input
use Rattle.splinter_status.specs.declared.stops.Stopped.{Stopped}
use Rattle.splinter_status.specs.declared.stops.Stopped.TheVariants as stopped
use Rattle.splinter_status.specs.Ends.{EndsAs, status_of}
use Rattle.splinter_commands.specs.Effects.{Effect}
use Rattle.splinter_commands.specs.Meets.{Ends}
use Rattle.splinter_cli.specs.Runs.{CallsFor, ended, IsDoneOrFault}
use Rattle.splinter_cli.proofs.Ends.{apart, fault_ends}

module _ (ready : Result Effect Refusal) (ws : List ℕ) (m : FileMap) (held : Option FileMap) where
  -- what the command came to has the status of a refusal
  calls : (outcome : Result (Vec ℕ) Stopped) (r : Refusal) → Ends outcome ready ws m held → ended outcome ≡ status_of r → CallsFor (status_of r) ready
  calls (Ok text) r ends same = apart r status.Done tt same
  calls (Err (stopped.Input (input.Refused q))) r ends same = (q, (ends.0, same))
  calls (Err (stopped.Input input.FileFault)) r ends same = apart r status.FileFault tt same
  calls (Err (stopped.Input input.OutOfMemory)) r ends same = apart r status.OutOfMemory tt same
  calls (Err stopped.DrawFault) r ends same = apart r status.DrawFault tt same
  calls (Err stopped.FileFault) r ends same = apart r status.FileFault tt same
  calls (Err stopped.OutOfMemory) r ends same = apart r status.OutOfMemory tt same

  -- the run ended with it
  pub refused_only : (outcome : Result (Vec ℕ) Stopped) (r : Refusal) (result : Status) → Ends outcome ready ws m held → EndsAs (ended outcome) result → result ≡ status_of r → CallsFor (status_of r) ready
  refused_only outcome r result ends (inl is) same = calls outcome r ends (sym is ∙ same)
  refused_only outcome r result ends (inr (inl is)) same = apart r status.OutputFault tt (sym is ∙ same)
  refused_only outcome r result ends (inr (inr is)) same = apart r status.OutOfMemory tt (sym is ∙ same)

  file_ends : {A : Type 0} (own result : Status) → A → EndsAs status.FileFault result → EndsAs own result ⊎ ((result ≡ status.FileFault) × A)
  file_ends own result failed (inl is) = inr (is, failed)
  file_ends own result failed (inr other) = inl (inr other)

  memory_ends : (own result : Status) → EndsAs status.OutOfMemory result → EndsAs own result
  memory_ends own result (inl is) = inr (inr is)
  memory_ends own result (inr other) = inr other

  -- where a refusal is called for it ends the run, unless a read failed
  pub refused_always : {A : Type 0} (outcome : Result (Vec ℕ) Stopped) (r : Refusal) (result : Status) → Ends outcome ready ws m held → EndsAs (ended outcome) result
      → (outcome ≡ Err (stopped.Input input.FileFault) → A) → CallsFor (status_of r) ready → EndsAs (status_of r) result ⊎ ((result ≡ status.FileFault) × A)
  refused_always (Ok text) r result ends how failed (q, (is, same)) = absurd (subst (λ k. Ends (Ok text) k ws m held) is ends)
  refused_always (Err (stopped.Input (input.Refused p))) r result ends how failed (q, (is, same)) =
      let both : Err p ≡ Err q = sym ends.0 ∙ is in
      let one : p ≡ q = cc in
      inl (subst (λ own. EndsAs own result) (ap status_of one ∙ same) how)
  refused_always (Err (stopped.Input input.FileFault)) r result ends how failed called = file_ends (status_of r) result (failed refl) how
  refused_always (Err (stopped.Input input.OutOfMemory)) r result ends how failed called = inl (memory_ends (status_of r) result how)
  refused_always (Err stopped.DrawFault) r result ends how failed (q, (is, same)) = let ok : IsOk {T = Effect} {E = Refusal} (Err q) = subst IsOk is ends.0 in absurd cc
  refused_always (Err stopped.FileFault) r result ends how failed (q, (is, same)) = absurd (subst (λ k. Ends (Err stopped.FileFault) k ws m held) is ends)
  refused_always (Err stopped.OutOfMemory) r result ends how failed (q, (is, same)) = absurd (subst (λ k. Ends (Err stopped.OutOfMemory) k ws m held) is ends)

  done_ends : (result : Status) → EndsAs status.Done result → IsDoneOrFault result
  done_ends result (inl is) = inl is
  done_ends result (inr other) = inr (fault_ends status.OutOfMemory result tt (inr other))

  -- where none is called for the run is done, or something failed
  pub ready_ends : (outcome : Result (Vec ℕ) Stopped) (result : Status) → Ends outcome ready ws m held → EndsAs (ended outcome) result → IsOk ready → IsDoneOrFault result
  ready_ends (Ok text) result ends how ok = done_ends result how
  ready_ends (Err (stopped.Input (input.Refused r))) result ends how ok = let none : IsOk {T = Effect} {E = Refusal} (Err r) = subst IsOk ends.0 ok in absurd cc
  ready_ends (Err (stopped.Input input.FileFault)) result ends how ok = inr (fault_ends status.FileFault result tt how)
  ready_ends (Err (stopped.Input input.OutOfMemory)) result ends how ok = inr (fault_ends status.OutOfMemory result tt how)
  ready_ends (Err stopped.DrawFault) result ends how ok = inr (fault_ends status.DrawFault result tt how)
  ready_ends (Err stopped.FileFault) result ends how ok = inr (fault_ends status.FileFault result tt how)
  ready_ends (Err stopped.OutOfMemory) result ends how ok = inr (fault_ends status.OutOfMemory result tt how)

-- where a refusal is called for, no more was stopped than what the words and the files hold
pub refused_early : (ready : Result Effect Refusal) (ws : List ℕ) (m : FileMap) (held : Option FileMap) (s : Stopped) → Ends (Err s) ready ws m held → IsErr ready → (i : InputStop) × (s ≡ stopped.Input i)
refused_early (Ok x) ws m held s ends refused = absurd cc
refused_early (Err r) ws m held (stopped.Input i) ends refused = (i, refl)
refused_early (Err r) ws m held stopped.DrawFault ends refused = let none : IsOk {T = Effect} {E = Refusal} (Err r) = ends.0 in absurd cc
refused_early (Err r) ws m held stopped.FileFault ends refused = absurd ends
refused_early (Err r) ws m held stopped.OutOfMemory ends refused = absurd ends

-- and nothing is done
pub refused_done : {A : Type 0} (ready : Result Effect Refusal) (ws : List ℕ) (m : FileMap) (held : Option FileMap) (text : Vec ℕ) → Ends (Ok text) ready ws m held → IsErr ready → A
refused_done (Ok x) ws m held text ends refused = absurd cc
refused_done (Err r) ws m held text ends refused = absurd ends
