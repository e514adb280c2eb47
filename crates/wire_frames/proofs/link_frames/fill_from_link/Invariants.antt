use Rattle.std.proofs.Common.{length, ◌-◌, ◌≡◌, ◌≤◌}
use Rattle.wire_frames.specs.Told.{Told}
use Rattle.wire_frames.specs.Filling.{Filled}
use Rattle.wire_frames.proofs.link_frames.fill_from_link.Given as goal

abbrev pub invariant-loop-filled : goal.invariant-loop-filled
invariant-loop-filled g l = record {
  within : l.filled ≤ length l.buf;
  told : Told (g.L.Link.told l.fn.link) (g.L.Link.told l.link) (λ w n. Filled w l.buf l.filled n);
  quiet : g.L.Link.faults l.link ≡ g.L.Link.faults l.fn.link;
}

abbrev pub decreases-loop-filled : goal.decreases-loop-filled
decreases-loop-filled g l = length l.initial.buf - l.filled
