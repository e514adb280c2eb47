use Rattle.std.proofs.Common.{◌∷◌, Ok, Err}
use Rattle.spl_outside.specs.Wire.{Visits, SendsOut}
use Rattle.wire_frames.specs.Sending.{SendsFrameAt}
use Rattle.wire_frames.proofs.Telling.{told_weaker, told_through}
use Rattle.wire_frames.proofs.SendSteps.{head_failed, head_then_rest}
use Rattle.wire_frames.proofs.door_frames.send_at_door.Goals as goal

pub returns-in-Err-clause-told : goal.returns-in-Err-clause-told
returns-in-Err-clause-told g c =
    told_weaker _ _
    (λ (v n : Visits). SendsOut v c.head_of-head.result n (Err c.in-Err.stop))
    (SendsFrameAt (c.args.first ∷ c.args.rest.now) (Err c.in-Err.stop))
    (λ v n p. head_failed c.args.rest.now c.head_of-head.result c.args.first c.in-Err.stop v n c.head_of-head.ensures p)
    c.in-Err.ensures.content

pub returns-clause-told : goal.returns-clause-told
returns-clause-told g c =
    told_through _ _ _
    (λ (v m : Visits). SendsOut v c.head_of-head.result m (Ok c.in-Ok.field-0))
    (λ (m n : Visits). SendsOut m c.args.rest.now n c.send-2.result)
    (SendsFrameAt (c.args.first ∷ c.args.rest.now) c.send-2.result)
    (λ v m n p q. head_then_rest c.args.rest.now c.head_of-head.result c.args.first c.in-Ok.field-0 c.send-2.result v m n c.head_of-head.ensures p q)
    c.in-Ok.ensures.content
    c.send-2.ensures.content
