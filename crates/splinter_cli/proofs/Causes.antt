-- A fault is told where one was counted, and else none was.
use Rattle.std.proofs.Common.{◌≡◌, ℕ, sym, subst, ◌∙◌, inl, inr, Result}
use Rattle.std.specs.Prelude.{IsErrOf}
use Rattle.std.specs.Global.{Vec}
use Rattle.spl_outside.specs.Causes.{Counts}
use Rattle.splinter_status.specs.declared.status.Status.{Status}
use Rattle.splinter_status.specs.declared.status.Status.TheVariants as status
use Rattle.splinter_status.specs.declared.stops.Stopped.{Stopped}
use Rattle.splinter_status.specs.declared.stops.Stopped.TheVariants as stopped
use Rattle.splinter_status.specs.Ends.{CountsAs, EndsAs}
use Rattle.splinter_commands.specs.Meets.{FilesFailed}
use Rattle.splinter_cli.specs.Runs.{ended}
use Rattle.splinter_cli.proofs.Ends.{draw_ended, draw_failed, file_ended, file_failed}

-- a run ended so only where the command did
pub ended_so : (own fault result : Status) → EndsAs own result → result ≡ fault → (status.OutputFault ≡ fault → ⊥) → (status.OutOfMemory ≡ fault → ⊥) → own ≡ fault
ended_so own fault result (inl is) same output memory = sym is ∙ same
ended_so own fault result (inr (inl is)) same output memory = absurd (output (sym is ∙ same))
ended_so own fault result (inr (inr is)) same output memory = absurd (memory (sym is ∙ same))

pub files_count : (outcome : Result (Vec ℕ) Stopped) (result : Status) (before now : ℕ) → EndsAs (ended outcome) result → Counts before now (FilesFailed outcome) → CountsAs status.FileFault before now result
files_count outcome result before now ends counts = record {
  cause = record {
    later = counts.cause.later;
    cause = λ same. counts.cause.cause (file_failed outcome (ended_so (ended outcome) status.FileFault result ends same (λ e. cc) (λ e. cc)));
  };
  quiet = λ untold. counts.quiet (λ failed. untold (subst (λ own. EndsAs own result) (file_ended outcome failed) ends));
}

pub draws_count : (outcome : Result (Vec ℕ) Stopped) (result : Status) (before now : ℕ) → EndsAs (ended outcome) result → Counts before now (IsErrOf outcome stopped.DrawFault) → CountsAs status.DrawFault before now result
draws_count outcome result before now ends counts = record {
  cause = record {
    later = counts.cause.later;
    cause = λ same. counts.cause.cause (draw_failed outcome (ended_so (ended outcome) status.DrawFault result ends same (λ e. cc) (λ e. cc)));
  };
  quiet = λ untold. counts.quiet (λ failed. untold (subst (λ own. EndsAs own result) (draw_ended outcome failed) ends));
}
