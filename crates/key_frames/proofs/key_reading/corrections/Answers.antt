use Rattle.std.proofs.Common.{inr}
use Rattle.std.proofs.lemmas.Result.{err_from_is_err_and}
use Rattle.frame_fields.specs.Reading.{many_at}
use Rattle.frame_fields.proofs.Loop.{goes_on, ends, is_done}
use Rattle.key_frames.specs.KeyReading.{correction_at}
use Rattle.key_frames.proofs.key_reading.corrections.Goals as goal

pub returns-in_err-level : goal.returns-in_err-level
returns-in_err-level c =
    let p = err_from_is_err_and c.from_residual.result c.from_residual.ensures.1 in
    rw (p.1, p.2) (ends correction_at c.in_err-level.field-0.0 c.loop.levels c.args.depth c.loop.counter c.loop.fields (many_at correction_at c.args.depth c.args.fields.now) c.loop-test.true (inr c.in_err-level.ensures) c.loop.invariant)

pub loop-preserved : goal.loop-preserved
loop-preserved c =
    rw c.in_ok-push.ensures.ok (goes_on correction_at c.loop.levels c.args.depth c.loop.counter c.loop.fields c.in_ok-level.level c.correction.new.fields (many_at correction_at c.args.depth c.args.fields.now) c.loop-test.true c.in_ok-level.ensures c.loop.invariant)

pub returns : goal.returns
returns c = is_done correction_at c.loop.levels c.args.depth c.loop.counter c.loop.fields (many_at correction_at c.args.depth c.args.fields.now) c.loop-test.false c.loop.invariant
