use Rattle.std.proofs.Common.{◌≡◌, ap, length, ◌∙◌}
use Rattle.std.specs.Prelude.{map}
use Rattle.spl_words.specs.declared.provider.Provider.TheVariants.{Zero, One}
use Rattle.spl_words.specs.Secrets.{secret_tree}
use Rattle.key_frames.specs.declared.frame.KeyFrame.{KeyFrame}
use Rattle.key_frames.specs.Trees.{key_list, key_tree}
use Rattle.key_frames.proofs.TreeLaws.{trees_same}
use Rattle.client_rounds.proofs.rounds.round_frames.Goals as goal

pub returns-clause-trees : goal.returns-clause-trees
returns-clause-trees g c =
    let e = g.E.Expander.meaning c.args.expander.now in
    let tree = c.args.head.now.first_tree in
    let secrets = c.as_slice.result.now in
    let roots = c.as_slice-2.result.now in
    let same : length roots ≡ length secrets = rw (c.as_slice.ensures, c.as_slice-2.ensures) c.requires.roots in
    let zeros : c.in_ok-zeros.zeros ≡ key_list e Zero tree secrets roots = c.in_ok-zeros.ensures.zero in
    let ones : c.in_ok-zeros.ones ≡ key_list e One tree secrets roots = c.in_ok-zeros.ensures.one in
    let back = ap (map secret_tree) c.as_slice.ensures in (
      ap (λ (f : KeyFrame). map key_tree f.keys) c.in_ok-zero.ensures ∙ (ap (map key_tree) zeros ∙ (trees_same e Zero tree secrets roots same ∙ back)),
      ap (λ (f : KeyFrame). map key_tree f.keys) c.in_ok-one.ensures ∙ (ap (map key_tree) ones ∙ (trees_same e One tree secrets roots same ∙ back)),
    )
