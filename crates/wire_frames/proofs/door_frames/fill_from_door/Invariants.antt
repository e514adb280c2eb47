use Rattle.std.proofs.Common.{length, ◌-◌, ◌≡◌, ◌≤◌}
use Rattle.wire_frames.specs.Told.{Told}
use Rattle.wire_frames.proofs.FillSteps.{FilledAt}
use Rattle.wire_frames.proofs.door_frames.fill_from_door.Given as goal

abbrev pub invariant-loop-filled : goal.invariant-loop-filled
invariant-loop-filled g l = record {
  within : l.filled ≤ length l.buf;
  told : Told (g.D.Door.told l.fn.door) (g.D.Door.told l.door) (FilledAt l.buf l.filled);
  present : g.D.Door.present l.door ≡ g.D.Door.present l.fn.door;
  faults : g.D.Door.faults l.door ≡ g.D.Door.faults l.fn.door;
  quiet : g.D.Door.losses l.door ≡ g.D.Door.losses l.fn.door;
}

abbrev pub decreases-loop-filled : goal.decreases-loop-filled
decreases-loop-filled g l = length l.initial.buf - l.filled
