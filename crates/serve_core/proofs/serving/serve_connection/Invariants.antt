use Rattle.std.proofs.Common.{length, ◌≡◌}
use Rattle.wire_frames.specs.Told.{Told}
use Rattle.serve_core.specs.Replies.{body_to}
use Rattle.serve_core.proofs.ServeSteps.{Served}
use Rattle.serve_core.proofs.serving.serve_connection.Given as goal

abbrev pub invariant-loop : goal.invariant-loop
invariant-loop g l = record {
  told : Told (g.D.Door.told l.fn.door) (g.D.Door.told l.door) (Served (body_to (g.E.Expander.meaning l.fn.expander) l.fn.provider l.fn.table) l.counter);
  room : length l.room ≡ 4194304;
  present : g.D.Door.present l.door ≡ g.D.Door.present l.fn.door;
  faults : g.D.Door.faults l.door ≡ g.D.Door.faults l.fn.door;
  quiet : g.D.Door.losses l.door ≡ g.D.Door.losses l.fn.door;
}
