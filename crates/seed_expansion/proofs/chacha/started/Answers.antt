use Rattle.std.proofs.Common.{◌∙◌, ap, ◌++◌, replicate}
use Rattle.rand_chacha.specs.ChaCha.{of_seed}
use Rattle.seed_expansion.specs.ChaChaExpansion.{seed_bytes}
use Rattle.seed_expansion.proofs.chacha.started.Goals as goal

pub returns : goal.returns
unfolding seed_bytes
returns c =
    c.from_seed.ensures ∙ ap (λ b. of_seed (b ++ replicate 16 c.args.fill)) (c.copy_from_slice.ensures.after ∙ c.to_be_bytes.ensures)
