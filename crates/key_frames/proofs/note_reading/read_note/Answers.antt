use Rattle.std.proofs.Common.{arith}
use Rattle.key_frames.proofs.NoteLaws.{is_found, is_only}
use Rattle.key_frames.proofs.note_reading.read_note.Goals as goal

pub returns-clause-found : goal.returns-clause-found
returns-clause-found c = is_found c.args.bytes.now c.note_of.result (λ i. omega (arith, c.type_inv.bytes i)) c.note_of.ensures

pub returns-clause-only : goal.returns-clause-only
returns-clause-only c = λ f of. is_only c.args.bytes.now c.note_of.result c.note_of.ensures f of
