use Rattle.seed_expansion.specs.ChaChaExpansion.{chacha}
use Rattle.splinter_commands.proofs.ByFiles.{session_is}
use Rattle.splinter_commands.proofs.laws.own_sessions_are_combined.Goals as goal

pub returns : goal.returns
returns c = λ s o m is words holds.
    let spelled = c.own_sessions_are_spelled.ensures chacha c.expanders_give_seeds.ensures.chacha s is words in
    session_is s o m (λ zero one first second. c.own_sessions_end.ensures.in_order chacha c.chacha_is_pure.ensures s zero one is spelled first second)
    (λ zero one first second. c.own_sessions_end.ensures.exchanged chacha c.chacha_is_pure.ensures s zero one is spelled first second) holds
