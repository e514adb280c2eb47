use Rattle.std.proofs.Common.{arith}
use Rattle.key_frames.proofs.FrameLaws.{is_found, is_only}
use Rattle.key_frames.proofs.frame_reading.read_key_frame.Goals as goal

pub returns-clause-found : goal.returns-clause-found
returns-clause-found c = is_found c.args.bytes.now c.frame_of.result (λ i. omega (arith, c.type_inv.bytes i)) c.frame_of.ensures

pub returns-clause-only : goal.returns-clause-only
returns-clause-only c = λ f of. is_only c.args.bytes.now c.frame_of.result c.frame_of.ensures f of
