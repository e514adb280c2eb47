use Rattle.key_frames.proofs.TreeLaws.{trees_same}
use Rattle.key_frames.proofs.laws.keys_are_of_their_secrets_trees.Goals as goal

pub returns : goal.returns
returns c = trees_same
