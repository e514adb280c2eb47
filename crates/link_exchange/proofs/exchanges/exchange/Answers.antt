use Rattle.std.proofs.Common.{Ok, Err, sym, subst}
use Rattle.wire_frames.specs.Sending.{SendsFrame}
use Rattle.wire_frames.specs.Told.{Told}
use Rattle.wire_frames.proofs.Telling.{told_start, told_weaker, told_through}
use Rattle.link_exchange.specs.declared.exchanges.Side.TheVariants as side_of
use Rattle.link_exchange.specs.Asking.{send_fault, take_fault, Asked}
use Rattle.link_exchange.specs.Replying.{TakesReply}
use Rattle.link_exchange.proofs.RoundSteps.{silent_send, silent_take, taken_says, left_says, asked_nothing, asked_sent, asked_failed}
use Rattle.link_exchange.proofs.exchanges.exchange.Goals as goal

pub returns-in-Err-clause-right : goal.returns-in-Err-clause-right
returns-in-Err-clause-right g c =
    subst (λ e. Told (g.L.Link.told c.args.right.now) (g.L.Link.told c.args.right.now) (Asked side_of.Right c.args.to_right.now (Err e))) (sym c.send_fault.ensures) (
    told_start _
    (Asked side_of.Right c.args.to_right.now (Err (send_fault side_of.Left c.in-Err.stop)))
    (λ w. asked_nothing side_of.Right c.args.to_right.now (send_fault side_of.Left c.in-Err.stop) w (silent_send side_of.Right side_of.Left c.in-Err.stop))
    )

pub returns-in-Err-send_over_link-clause-left : goal.returns-in-Err-send_over_link-clause-left
returns-in-Err-send_over_link-clause-left g c =
    subst (λ e. Told (g.L.Link.told c.args.left.now) (g.L.Link.told c.send_over_link.new.link) (Asked side_of.Left c.args.to_left.now (Err e))) (sym c.send_fault-in-Err-send_over_link.ensures) (
    told_weaker _ _
    (SendsFrame c.args.to_left.now (Ok c.in-Ok.field-0))
    (Asked side_of.Left c.args.to_left.now (Err (send_fault side_of.Right c.in-Err-send_over_link.stop)))
    (λ w n p. asked_sent side_of.Left c.args.to_left.now (Ok c.in-Ok.field-0) (send_fault side_of.Right c.in-Err-send_over_link.stop) w n (silent_send side_of.Left side_of.Right c.in-Err-send_over_link.stop) p)
    c.in-Ok.ensures.told
    )

pub returns-in-Err-take_reply-clause-left : goal.returns-in-Err-take_reply-clause-left
returns-in-Err-take_reply-clause-left g c =
    subst (λ e. Told (g.L.Link.told c.args.left.now) (g.L.Link.told c.take_reply.new.link) (Asked side_of.Left c.args.to_left.now (Err e))) (sym c.take_fault.ensures) (
    told_through _ _ _
    (SendsFrame c.args.to_left.now (Ok c.in-Ok.field-0))
    (TakesReply (Err c.in-Err-take_reply.stop))
    (Asked side_of.Left c.args.to_left.now (Err (take_fault side_of.Left c.in-Err-take_reply.stop)))
    (λ w m n p q. asked_failed side_of.Left c.args.to_left.now c.in-Ok.field-0 (Err c.in-Err-take_reply.stop) (take_fault side_of.Left c.in-Err-take_reply.stop) w m n p q (taken_says side_of.Left c.in-Err-take_reply.stop m n q))
    c.in-Ok.ensures.told
    c.in-Err-take_reply.ensures.told
    )

pub returns-in-Err-take_reply-clause-right : goal.returns-in-Err-take_reply-clause-right
returns-in-Err-take_reply-clause-right g c =
    subst (λ e. Told (g.L.Link.told c.args.right.now) (g.L.Link.told c.send_over_link-2.new.link) (Asked side_of.Right c.args.to_right.now (Err e))) (sym c.take_fault.ensures) (
    told_weaker _ _
    (SendsFrame c.args.to_right.now (Ok c.in-Ok-send_over_link.field-0))
    (Asked side_of.Right c.args.to_right.now (Err (take_fault side_of.Left c.in-Err-take_reply.stop)))
    (λ w n p. asked_sent side_of.Right c.args.to_right.now (Ok c.in-Ok-send_over_link.field-0) (take_fault side_of.Left c.in-Err-take_reply.stop) w n (silent_take c.in-Err-take_reply.stop) p)
    c.in-Ok-send_over_link.ensures.told
    )

pub returns-in-Err-take_reply-2-clause-left : goal.returns-in-Err-take_reply-2-clause-left
returns-in-Err-take_reply-2-clause-left g c =
    subst (λ e. Told (g.L.Link.told c.args.left.now) (g.L.Link.told c.take_reply.new.link) (Asked side_of.Left c.args.to_left.now (Err e))) (sym c.take_fault-in-Err-take_reply-2.ensures) (
    told_through _ _ _
    (SendsFrame c.args.to_left.now (Ok c.in-Ok.field-0))
    (TakesReply (Ok c.in-Ok-take_reply.body))
    (Asked side_of.Left c.args.to_left.now (Err (take_fault side_of.Right c.in-Err-take_reply-2.stop)))
    (λ w m n p q. asked_failed side_of.Left c.args.to_left.now c.in-Ok.field-0 (Ok c.in-Ok-take_reply.body) (take_fault side_of.Right c.in-Err-take_reply-2.stop) w m n p q (left_says c.in-Err-take_reply-2.stop c.in-Ok-take_reply.body m n q))
    c.in-Ok.ensures.told
    c.in-Ok-take_reply.ensures.told
    )

pub returns-in-Err-take_reply-2-clause-right : goal.returns-in-Err-take_reply-2-clause-right
returns-in-Err-take_reply-2-clause-right g c =
    subst (λ e. Told (g.L.Link.told c.args.right.now) (g.L.Link.told c.take_reply-2.new.link) (Asked side_of.Right c.args.to_right.now (Err e))) (sym c.take_fault-in-Err-take_reply-2.ensures) (
    told_through _ _ _
    (SendsFrame c.args.to_right.now (Ok c.in-Ok-send_over_link.field-0))
    (TakesReply (Err c.in-Err-take_reply-2.stop))
    (Asked side_of.Right c.args.to_right.now (Err (take_fault side_of.Right c.in-Err-take_reply-2.stop)))
    (λ w m n p q. asked_failed side_of.Right c.args.to_right.now c.in-Ok-send_over_link.field-0 (Err c.in-Err-take_reply-2.stop) (take_fault side_of.Right c.in-Err-take_reply-2.stop) w m n p q (taken_says side_of.Right c.in-Err-take_reply-2.stop m n q))
    c.in-Ok-send_over_link.ensures.told
    c.in-Err-take_reply-2.ensures.told
    )
