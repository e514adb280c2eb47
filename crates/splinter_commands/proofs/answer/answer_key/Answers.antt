use Rattle.std.proofs.Common.{ℕ, List}
use Rattle.std.specs.Global.{Vec}
use Rattle.seed_expansion.specs.ChaChaExpansion.{chacha}
use Rattle.provider_core.specs.Answering.{answered}
use Rattle.splinter_commands.proofs.Stops.{provider_gives}
use Rattle.splinter_commands.proofs.answer.answer_key.Goals as goal

pub returns-in-Err-clause-gives : goal.returns-in-Err-clause-gives
returns-in-Err-clause-gives g c =
    let by = rw c.shape.ensures.shape at c.provider_stop.ensures.by in
    provider_gives {X = Vec ℕ} {Y = List ℕ} (λ v. v.items) c.args.words.now.provider c.args.words.now.key.now c.args.table.now.shape c.in-Err.fault
    (answered chacha c.args.words.now.provider c.args.key.now c.args.table.now) c.provider_stop.result c.in-Err.ensures.gives by c.provider_stop.ensures.memory
