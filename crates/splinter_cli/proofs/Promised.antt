-- What is promised follows from how a run goes.
use Rattle.std.proofs.Common.{◌≡◌, Option, Some, Err, sym, subst, ◌∙◌}
use Rattle.std.specs.Prelude.{IfSome, IsOk}
use Rattle.spl_outside.specs.Content.{FileMap, KeepsBut, LeftAfter}
use Rattle.command_words.specs.Orders.{Order}
use Rattle.splinter_status.specs.declared.status.Status.{Status}
use Rattle.splinter_status.specs.declared.status.Status.TheVariants as status
use Rattle.splinter_status.specs.declared.stops.Refusal.{Refusal}
use Rattle.splinter_status.specs.declared.stops.InputStop.TheVariants as input
use Rattle.splinter_status.specs.declared.stops.Stopped.TheVariants as stopped
use Rattle.splinter_status.specs.Ends.{ComesWhereRead, status_of}
use Rattle.splinter_commands.specs.Effects.{draws, names}
use Rattle.splinter_commands.specs.Commands.{judged}
use Rattle.splinter_commands.specs.Meets.{FilesFailed, Meets}
use Rattle.splinter_cli.specs.Worlds.{ReadFailed, World}
use Rattle.splinter_cli.specs.Runs.{CallsFor, ended, IsDoneOrFault, Left, Promises, Ran}
use Rattle.splinter_cli.proofs.Ends.{draw_failed, if_some}
use Rattle.splinter_cli.proofs.Causes.{ended_so}
use Rattle.splinter_cli.proofs.Files.{Known, keeps, leaves, takes_few}
use Rattle.splinter_cli.proofs.Lines.{tells, tells_nothing}
use Rattle.splinter_cli.proofs.Refused.{ready_ends, refused_always, refused_only}

module _ (order : Option Order) (before after : World) (result : Status) (ran : Ran order before after result) where
  read_failed : ran.outcome ≡ Err (stopped.Input input.FileFault) → ReadFailed before after
  read_failed is = record { rose = ran.files.cause.cause (subst FilesFailed (sym is) tt); unchanged = ran.early input.FileFault is }

  known : (m : FileMap) (meets : Meets (judged order m) m after.held before.words after.words ran.outcome) → Known ran.outcome (judged order m) meets.ends.0 m before after
  known m meets = record {
    ends = meets.ends.1.1;
    takes = meets.takes;
    early = ran.early;
    unwritten = ran.unwritten;
    files = ran.files.cause.cause;
    draws_rose = ran.draws.cause.cause;
  }

  refused : IfSome before.held (λ m. (r : Refusal) → ComesWhereRead (CallsFor (status_of r) (judged order m)) (ReadFailed before after) (status_of r) result)
  refused = if_some before.held (λ m is meets r. record {
    only = refused_only (judged order m) meets.ends.0 m after.held ran.outcome r result meets.ends.1.1 ran.ends;
    always = refused_always (judged order m) meets.ends.0 m after.held ran.outcome r result meets.ends.1.1 ran.ends read_failed;
  }) ran.meets

  ready : IfSome before.held (λ m. IsOk (judged order m) → IsDoneOrFault result)
  ready = if_some before.held (λ m is meets. ready_ends (judged order m) meets.ends.0 m after.held ran.outcome result meets.ends.1.1 ran.ends) ran.meets

  left : IfSome before.held (λ m. Left order m before after result)
  left = if_some before.held (λ m is meets. record {
    words = meets.ends.0;
    told = meets.ends.1.0;
    leaves = leaves meets.ends.0 m before after (judged order m) ran.outcome result ran.ends (λ e. (ran.quiet e).0) (known m meets);
    tells = if_some before.written (λ w held reports. tells w after.written (judged order m) ran.outcome result meets.ends.0 m after.held meets.ends.1.1 (λ e. ((ran.quiet e).0, (ran.quiet e).1 ∙ held)) reports) ran.reports;
  }) ran.meets

  others : IfSome before.held (λ m. KeepsBut (names (judged order m)) m after.held)
  others = if_some before.held (λ m is meets. keeps (judged order m) ran.outcome meets.ends.0 m after.held meets.ends.1.1) ran.meets

  drawn : IfSome before.held (λ m. IfSome before.words (λ ws. LeftAfter (draws (judged order m)) ws after.words))
  drawn = if_some before.held (λ m is meets. if_some before.words (λ ws told took. takes_few ran.outcome (draws (judged order m)) ws after.words took) meets.takes) ran.meets

  pub promised : Promises order before after result
  promised = record { refused = refused; ready = ready; left = left; others = others; drawn = drawn; front = ran.front }

  pub nothing : result ≡ status.OutOfMemory → IfSome before.written (λ w. after.written ≡ Some w)
  nothing short = if_some before.written (λ w held reports. tells_nothing w after.written ran.outcome result (λ e. (ran.quiet e).1 ∙ held) reports short) ran.reports

  pub unwritten : result ≡ status.DrawFault → after.held ≡ before.held
  unwritten failed = ran.unwritten (draw_failed ran.outcome (ended_so (ended ran.outcome) status.DrawFault result ran.ends failed (λ e. cc) (λ e. cc)))
