use Rattle.std.proofs.Common.{◌+◌, ◌-◌, ◌∙◌, length, Ok, arith}
use Rattle.spl_outside.specs.Wire.{Wire, Receives}
use Rattle.wire_frames.specs.Filling.{Filled, Fills}
use Rattle.wire_frames.proofs.Telling.{told_through}
use Rattle.wire_frames.proofs.FillSteps.{room_there, filled_more, fill_ends}
use Rattle.wire_frames.proofs.link_frames.fill_from_link.Goals as goal
use borrow.Rule.Slice.PartMut.{put_mid}

pub returns-then-count-eq0-clause-told : goal.returns-then-count-eq0-clause-told
returns-then-count-eq0-clause-told g c =
    let f = c.loop-filled.filled in
    let rest = length c.loop-filled.buf - c.loop-filled.filled in
    told_through _ _ _
    (λ (w m : Wire). Filled w c.loop-filled.buf f m)
    (λ (m n : Wire). Receives m c.receive.new.buf n (Ok c.in-Ok.count))
    (λ (w n : Wire). Fills w (put_mid f rest c.loop-filled.buf c.receive.new.buf) n (Ok f))
    (λ w m n p q. fill_ends w m n c.loop-filled.buf c.receive.new.buf f c.in-Ok.count rest (omega arith) (omega arith) p q)
    c.loop-filled.invariant.told
    c.in-Ok.ensures.content

pub loop-filled-preserved : goal.loop-filled-preserved
loop-filled-preserved g c =
    let f = c.loop-filled.filled in
    let rest = length c.loop-filled.buf - c.loop-filled.filled in
    record {
      within = room_there c.loop-filled.buf c.receive.new.buf f c.in-Ok.count rest (omega arith) c.in-Ok.ensures.bound;
      told =
          told_through _ _ _
          (λ (w m : Wire). Filled w c.loop-filled.buf f m)
          (λ (m n : Wire). Receives m c.receive.new.buf n (Ok c.in-Ok.count))
          (λ (w n : Wire). Filled w (put_mid f rest c.loop-filled.buf c.receive.new.buf) (f + c.in-Ok.count) n)
          (λ w m n p q. filled_more w m n c.loop-filled.buf c.receive.new.buf f c.in-Ok.count rest (omega arith) c.in-Ok.ensures.bound p q)
          c.loop-filled.invariant.told
          c.in-Ok.ensures.content;
      quiet = c.in-Ok.ensures.cause.quiet (λ e. cc) ∙ c.loop-filled.invariant.quiet;
    }
