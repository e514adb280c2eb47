use Rattle.std.proofs.Common.{[], ◌∷◌, take, Ok, Err, subst, sym}
use Rattle.wire_frames.specs.Told.{Told}
use Rattle.wire_frames.specs.Sending.{SendsFrameAt}
use Rattle.serve_core.specs.Replies.{RepliesAt, body_to}
use Rattle.serve_core.specs.Taking.{end_of, OneAt, TakesRequestAt}
use Rattle.serve_core.specs.declared.end.ServeEnd.TheVariants as end
use Rattle.serve_core.specs.declared.serving.Taken.TheVariants as taken
use Rattle.wire_frames.proofs.Telling.{told_weaker, told_through}
use Rattle.serve_core.proofs.ServeSteps.{taken_none, too_long, too_long_failed, one_answered, one_failed}
use Rattle.serve_core.proofs.serving.serve_one.Goals as goal

pub returns-in-Ok-clause-told : goal.returns-in-Ok-clause-told
returns-in-Ok-clause-told g c =
    told_through _ _ _
    (TakesRequestAt c.take_request.new.room (taken.Frame c.in-Frame.length))
    (RepliesAt (body_to (g.E.Expander.meaning c.args.answering.now.expander.now) c.args.answering.now.provider c.args.answering.now.table.now) (take c.in-Frame.length c.take_request.new.room) (Ok c.in-Ok.field-0))
    (OneAt (body_to (g.E.Expander.meaning c.args.answering.now.expander.now) c.args.answering.now.provider c.args.answering.now.table.now) (Ok c.in-Ok.field-0))
    (λ v m n p q. one_answered (body_to (g.E.Expander.meaning c.args.answering.now.expander.now) c.args.answering.now.provider c.args.answering.now.table.now) c.take_request.new.room c.in-Frame.length c.in-Ok.field-0 v m n c.in-Frame.ensures.bound p q)
    c.in-Frame.ensures.told
    c.in-Ok.ensures.told

pub returns-in-Err-clause-told : goal.returns-in-Err-clause-told
returns-in-Err-clause-told g c =
    subst (λ e. Told (g.D.Door.told c.args.door.now) (g.D.Door.told c.send_reply.new.door) (OneAt (body_to (g.E.Expander.meaning c.args.answering.now.expander.now) c.args.answering.now.provider c.args.answering.now.table.now) (Err e))) (sym c.end_of.ensures) (
    told_through _ _ _
    (TakesRequestAt c.take_request.new.room (taken.Frame c.in-Frame.length))
    (RepliesAt (body_to (g.E.Expander.meaning c.args.answering.now.expander.now) c.args.answering.now.provider c.args.answering.now.table.now) (take c.in-Frame.length c.take_request.new.room) (Err c.in-Err.stop))
    (OneAt (body_to (g.E.Expander.meaning c.args.answering.now.expander.now) c.args.answering.now.provider c.args.answering.now.table.now) (Err (end_of c.in-Err.stop)))
    (λ v m n p q. one_failed (body_to (g.E.Expander.meaning c.args.answering.now.expander.now) c.args.answering.now.provider c.args.answering.now.table.now) c.take_request.new.room c.in-Frame.length c.in-Err.stop v m n c.in-Frame.ensures.bound p q)
    c.in-Frame.ensures.told
    c.in-Err.ensures.told
    )

pub returns-in-Ok-send_at_door-clause-told : goal.returns-in-Ok-send_at_door-clause-told
returns-in-Ok-send_at_door-clause-told g c =
    told_through _ _ _
    (TakesRequestAt c.take_request.new.room (taken.TooLong c.in-TooLong.length))
    (SendsFrameAt (8 ∷ []) (Ok c.in-Ok-send_at_door.field-0))
    (OneAt (body_to (g.E.Expander.meaning c.args.answering.now.expander.now) c.args.answering.now.provider c.args.answering.now.table.now) (Err (end.TooLong c.in-TooLong.length)))
    (λ v m n p q. too_long (body_to (g.E.Expander.meaning c.args.answering.now.expander.now) c.args.answering.now.provider c.args.answering.now.table.now) c.take_request.new.room c.in-TooLong.length c.in-Ok-send_at_door.field-0 v m n p q)
    c.in-TooLong.ensures.told
    c.in-Ok-send_at_door.ensures.told

pub returns-in-Err-send_at_door-clause-told : goal.returns-in-Err-send_at_door-clause-told
returns-in-Err-send_at_door-clause-told g c =
    subst (λ e. Told (g.D.Door.told c.args.door.now) (g.D.Door.told c.send_at_door.new.door) (OneAt (body_to (g.E.Expander.meaning c.args.answering.now.expander.now) c.args.answering.now.provider c.args.answering.now.table.now) (Err e))) (sym c.end_of-in-Err-send_at_door.ensures) (
    told_through _ _ _
    (TakesRequestAt c.take_request.new.room (taken.TooLong c.in-TooLong.length))
    (SendsFrameAt (8 ∷ []) (Err c.in-Err-send_at_door.stop))
    (OneAt (body_to (g.E.Expander.meaning c.args.answering.now.expander.now) c.args.answering.now.provider c.args.answering.now.table.now) (Err (end_of c.in-Err-send_at_door.stop)))
    (λ v m n p q. too_long_failed (body_to (g.E.Expander.meaning c.args.answering.now.expander.now) c.args.answering.now.provider c.args.answering.now.table.now) c.take_request.new.room c.in-TooLong.length c.in-Err-send_at_door.stop v m n p q)
    c.in-TooLong.ensures.told
    c.in-Err-send_at_door.ensures.told
    )

pub returns-in-Ended-clause-told : goal.returns-in-Ended-clause-told
returns-in-Ended-clause-told g c =
    told_weaker _ _
    (TakesRequestAt c.take_request.new.room (taken.Ended c.in-Ended.end))
    (OneAt (body_to (g.E.Expander.meaning c.args.answering.now.expander.now) c.args.answering.now.provider c.args.answering.now.table.now) (Err c.in-Ended.end))
    (λ v n p. taken_none (body_to (g.E.Expander.meaning c.args.answering.now.expander.now) c.args.answering.now.provider c.args.answering.now.table.now) c.take_request.new.room c.in-Ended.end v n p)
    c.in-Ended.ensures.told
