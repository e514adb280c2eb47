use Rattle.std.proofs.Common.{Ok, Err}
use Rattle.spl_outside.specs.Wire.{Wire, Sends}
use Rattle.wire_frames.proofs.Telling.{told_weaker, told_through}
use Rattle.wire_frames.specs.Sending.{SendsFrame}
use Rattle.wire_frames.proofs.SendSteps.{length_failed, frame_after}
use Rattle.wire_frames.proofs.link_frames.send_over_link.Goals as goal

pub returns-in-Err-clause-told : goal.returns-in-Err-clause-told
returns-in-Err-clause-told g c =
    told_weaker _ _
    (λ (w n : Wire). Sends w c.to_be_bytes-length.result n (Err c.in-Err.stop))
    (SendsFrame c.args.frame.now (Err c.in-Err.stop))
    (λ w n p. length_failed c.args.frame.now c.to_be_bytes-length.result c.in-Err.stop w n c.to_be_bytes-length.ensures p)
    c.in-Err.ensures.content

pub returns-clause-told : goal.returns-clause-told
returns-clause-told g c =
    told_through _ _ _
    (λ (w m : Wire). Sends w c.to_be_bytes-length.result m (Ok c.in-Ok.field-0))
    (λ (m n : Wire). Sends m c.args.frame.now n c.send-2.result)
    (SendsFrame c.args.frame.now c.send-2.result)
    (λ w m n p q. frame_after c.args.frame.now c.to_be_bytes-length.result c.in-Ok.field-0 c.send-2.result w m n c.to_be_bytes-length.ensures p q)
    c.in-Ok.ensures.content
    c.send-2.ensures.content
