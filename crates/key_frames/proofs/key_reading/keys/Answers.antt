use Rattle.std.proofs.lemmas.Result.{err_from_is_err_and}
use Rattle.frame_fields.specs.Reading.{many_at}
use Rattle.frame_fields.proofs.Loop.{goes_on, ends, is_done}
use Rattle.key_frames.specs.KeyReading.{key_at}
use Rattle.key_frames.proofs.key_reading.keys.Goals as goal

pub returns-in_err-key : goal.returns-in_err-key
returns-in_err-key c =
    let p = err_from_is_err_and c.from_residual.result c.from_residual.ensures.1 in
    rw (p.1, p.2) (ends key_at c.in_err-key.field-0.0 c.loop.keys c.args.count c.loop.counter c.loop.fields (many_at key_at c.args.count c.args.fields.now) c.loop-test.true c.in_err-key.ensures c.loop.invariant)

pub loop-preserved : goal.loop-preserved
loop-preserved c =
    rw c.in_ok-push.ensures.ok (goes_on key_at c.loop.keys c.args.count c.loop.counter c.loop.fields c.in_ok-key.key c.key.new.fields (many_at key_at c.args.count c.args.fields.now) c.loop-test.true c.in_ok-key.ensures c.loop.invariant)

pub returns : goal.returns
returns c = is_done key_at c.loop.keys c.args.count c.loop.counter c.loop.fields (many_at key_at c.args.count c.args.fields.now) c.loop-test.false c.loop.invariant
