use Rattle.std.proofs.Common.{◌+◌, ◌-◌, ◌∙◌, length, Ok, arith}
use Rattle.spl_outside.specs.Wire.{Visits, TakesIn}
use Rattle.wire_frames.specs.Filling.{FillsAt}
use Rattle.wire_frames.proofs.Telling.{told_through}
use Rattle.wire_frames.proofs.FillSteps.{FilledAt, room_there, filled_more_at, fill_ends_at}
use Rattle.wire_frames.proofs.door_frames.fill_from_door.Goals as goal
use borrow.Rule.Slice.PartMut.{put_mid}

pub returns-then-count-eq0-clause-told : goal.returns-then-count-eq0-clause-told
returns-then-count-eq0-clause-told g c =
    let f = c.loop-filled.filled in
    let rest = length c.loop-filled.buf - c.loop-filled.filled in
    told_through _ _ _
    (FilledAt c.loop-filled.buf f)
    (λ (m n : Visits). TakesIn m c.receive.new.buf n (Ok c.in-Ok.count))
    (FillsAt (put_mid f rest c.loop-filled.buf c.receive.new.buf) (Ok f))
    (λ v m n p q. fill_ends_at v m n c.loop-filled.buf c.receive.new.buf f c.in-Ok.count rest (omega arith) (omega arith) p q)
    c.loop-filled.invariant.told
    c.in-Ok.ensures.content

pub loop-filled-preserved : goal.loop-filled-preserved
loop-filled-preserved g c =
    let f = c.loop-filled.filled in
    let rest = length c.loop-filled.buf - c.loop-filled.filled in
    record {
      within = room_there c.loop-filled.buf c.receive.new.buf f c.in-Ok.count rest (omega arith) c.in-Ok.ensures.bound;
      told =
          told_through _ _ _
          (FilledAt c.loop-filled.buf f)
          (λ (m n : Visits). TakesIn m c.receive.new.buf n (Ok c.in-Ok.count))
          (FilledAt (put_mid f rest c.loop-filled.buf c.receive.new.buf) (f + c.in-Ok.count))
          (λ v m n p q. filled_more_at v m n c.loop-filled.buf c.receive.new.buf f c.in-Ok.count rest (omega arith) c.in-Ok.ensures.bound p q)
          c.loop-filled.invariant.told
          c.in-Ok.ensures.content;
      present = c.in-Ok.ensures.present ∙ c.loop-filled.invariant.present;
      faults = c.in-Ok.ensures.faults ∙ c.loop-filled.invariant.faults;
      quiet = c.in-Ok.ensures.cause.quiet (λ e. cc) ∙ c.loop-filled.invariant.quiet;
    }
