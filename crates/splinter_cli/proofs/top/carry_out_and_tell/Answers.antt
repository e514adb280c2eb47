use Rattle.std.proofs.Common.{Ok, Err, ap}
use Rattle.splinter_status.specs.declared.stops.Stopped.{Stopped}
use Rattle.splinter_cli.proofs.Ends.{if_some}
use Rattle.splinter_cli.proofs.Refused.{refused_done, refused_early}
use Rattle.splinter_cli.proofs.top.carry_out_and_tell.Goals as goal

pub returns-in-Err-clause-ran : goal.returns-in-Err-clause-ran
returns-in-Err-clause-ran g c = record {
  outcome = Err c.in-Err.stopped;
  meets = rw c.deref.ensures.value at c.in-Err.ensures.told;
  early = λ s is. record {
    files = (c.in-Err.ensures.untouched s is).1;
    words = ap (λ d. g.R.Draw.words d) (c.in-Err.ensures.untouched s is).0;
  };
  unwritten = λ is. c.in-Err.ensures.unwritten is;
  front = c.in-Err.ensures.front;
  files = c.in-Err.ensures.files;
  draws = c.in-Err.ensures.draws;
  output = c.refuse.ensures.counts;
  ends = c.refuse.ensures.ends;
  quiet = λ short. ((c.refuse.ensures.quiet short).0, ap (λ o. g.O.Sink.written o) (c.refuse.ensures.quiet short).1);
  reports = c.refuse.ensures.told;
}

pub returns-in-Ok-clause-ran : goal.returns-in-Ok-clause-ran
returns-in-Ok-clause-ran g c = record {
  outcome = Ok c.in-Ok.text;
  meets = rw c.deref.ensures.value at c.in-Ok.ensures.told;
  early = λ s is. absurd cc;
  unwritten = λ is. absurd cc;
  front = c.in-Ok.ensures.front;
  files = c.in-Ok.ensures.files;
  draws = c.in-Ok.ensures.draws;
  output = c.print_text.ensures.counts;
  ends = c.print_text.ensures.ends;
  quiet = λ short. absurd cc;
  reports = rw c.deref-in-Ok.ensures.value at c.print_text.ensures.told;
}

pub returns-in-Err-clause-undrawn : goal.returns-in-Err-clause-undrawn
returns-in-Err-clause-undrawn g c =
    let met = rw c.deref.ensures.value at c.in-Err.ensures.told in
    if_some (g.F.Files.held c.args.files.now) (λ m is meets refused.
    let early = refused_early _ meets.ends.0 m _ c.in-Err.stopped meets.ends.1.1 refused in
    (c.in-Err.ensures.untouched early.0 (ap (λ (s : Stopped). Err s) early.1)).0) met

pub returns-in-Ok-clause-undrawn : goal.returns-in-Ok-clause-undrawn
returns-in-Ok-clause-undrawn g c =
    let met = rw c.deref.ensures.value at c.in-Ok.ensures.told in
    if_some (g.F.Files.held c.args.files.now) (λ m is meets refused. refused_done _ meets.ends.0 m _ c.in-Ok.text meets.ends.1.1 refused) met
