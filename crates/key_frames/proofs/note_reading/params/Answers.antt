use Rattle.std.proofs.Common.{inr}
use Rattle.std.specs.Int.{w128}
use Rattle.std.proofs.lemmas.Result.{err_from_is_err_and}
use Rattle.frame_fields.specs.Reading.{number_at, many_at}
use Rattle.frame_fields.proofs.Loop.{goes_on, ends, is_done}
use Rattle.key_frames.proofs.note_reading.params.Goals as goal

pub returns-in_err-param : goal.returns-in_err-param
returns-in_err-param c =
    let p = err_from_is_err_and c.from_residual.result c.from_residual.ensures.1 in
    rw (p.1, p.2) (ends (number_at w128) c.in_err-param.field-0.0 c.loop.params c.args.count c.loop.counter c.loop.fields (many_at (number_at w128) c.args.count c.args.fields.now) c.loop-test.true (inr c.in_err-param.ensures) c.loop.invariant)

pub loop-preserved : goal.loop-preserved
loop-preserved c =
    rw c.in_ok-push.ensures.ok (goes_on (number_at w128) c.loop.params c.args.count c.loop.counter c.loop.fields c.in_ok-param.param c.be128.new.fields (many_at (number_at w128) c.args.count c.args.fields.now) c.loop-test.true c.in_ok-param.ensures c.loop.invariant)

pub returns : goal.returns
returns c = is_done (number_at w128) c.loop.params c.args.count c.loop.counter c.loop.fields (many_at (number_at w128) c.args.count c.args.fields.now) c.loop-test.false c.loop.invariant
