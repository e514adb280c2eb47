use Rattle.std.proofs.Common.{◌+◌, ◌∙◌, Err, arith}
use Rattle.serve_core.specs.Replies.{body_to}
use Rattle.serve_core.specs.Serving.{ServesAt}
use Rattle.serve_core.specs.Taking.{OneAt, AnswersOne}
use Rattle.serve_core.specs.declared.end.ServeEnd.TheVariants as end
use Rattle.wire_frames.proofs.Telling.{told_start, told_weaker, told_through}
use Rattle.serve_core.proofs.ServeSteps.{Served, no_room, served_more, served_full, served_then_ended}
use Rattle.serve_core.proofs.serving.serve_connection.Goals as goal

pub returns-in-Err-clause-told : goal.returns-in-Err-clause-told
returns-in-Err-clause-told g c = told_start _ (ServesAt (body_to (g.E.Expander.meaning c.args.expander.now) c.args.provider c.args.table.now) 4096 end.OutOfMemory) (λ v. no_room (body_to (g.E.Expander.meaning c.args.expander.now) c.args.provider c.args.table.now) 4096 v)

pub returns-in-Err-serve_one-clause-told : goal.returns-in-Err-serve_one-clause-told
returns-in-Err-serve_one-clause-told g c =
    told_through _ _ _
    (Served (body_to (g.E.Expander.meaning c.args.expander.now) c.args.provider c.args.table.now) c.loop.counter)
    (OneAt (body_to (g.E.Expander.meaning c.args.expander.now) c.args.provider c.args.table.now) (Err c.in-Err-serve_one.end))
    (ServesAt (body_to (g.E.Expander.meaning c.args.expander.now) c.args.provider c.args.table.now) 4096 c.in-Err-serve_one.end)
    (λ v m n p q. served_then_ended (body_to (g.E.Expander.meaning c.args.expander.now) c.args.provider c.args.table.now) c.loop.counter 4096 c.in-Err-serve_one.end v m n c.loop-test.true p q)
    c.loop.invariant.told
    c.in-Err-serve_one.ensures.told

pub returns-clause-told : goal.returns-clause-told
returns-clause-told g c =
    told_weaker _ _
    (Served (body_to (g.E.Expander.meaning c.args.expander.now) c.args.provider c.args.table.now) c.loop.counter)
    (ServesAt (body_to (g.E.Expander.meaning c.args.expander.now) c.args.provider c.args.table.now) 4096 end.Full)
    (λ v n p. served_full (body_to (g.E.Expander.meaning c.args.expander.now) c.args.provider c.args.table.now) c.loop.counter 4096 v n (omega arith) p)
    c.loop.invariant.told

pub loop-preserved : goal.loop-preserved
loop-preserved g c = record {
  told =
      told_through _ _ _
      (Served (body_to (g.E.Expander.meaning c.args.expander.now) c.args.provider c.args.table.now) c.loop.counter)
      (AnswersOne (body_to (g.E.Expander.meaning c.args.expander.now) c.args.provider c.args.table.now))
      (Served (body_to (g.E.Expander.meaning c.args.expander.now) c.args.provider c.args.table.now) (c.loop.counter + 1))
      (λ v m n p q. served_more (body_to (g.E.Expander.meaning c.args.expander.now) c.args.provider c.args.table.now) c.loop.counter v m n p q)
      c.loop.invariant.told
      c.in-Ok-serve_one.ensures.told;
  room = omega arith;
  present = c.in-Ok-serve_one.ensures.present ∙ c.loop.invariant.present;
  faults = c.in-Ok-serve_one.ensures.faults ∙ c.loop.invariant.faults;
  quiet = c.in-Ok-serve_one.ensures.cause.quiet (λ e. cc) ∙ c.loop.invariant.quiet;
}
