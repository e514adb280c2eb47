-- How long the key frames of a round are: as their plan tells.
use Rattle.std.proofs.Common.{◌≡◌, ℕ, ◌+◌, List, [], ◌∷◌, length, drop, refl, ap, sym, ◌∙◌}
use Rattle.std.specs.Prelude.{map}
use Rattle.std.specs.List.{sum_by}
use Rattle.std.proofs.lemmas.List.Sums.{sum_by-cons}
use Rattle.spl_words.specs.declared.provider.Provider.{Provider}
use Rattle.spl_values.specs.Shapes.{ShapeParts}
use Rattle.spl_values.specs.ShapeTexts.{shape_text}
use Rattle.seed_expansion.specs.Expanders.{Meaning}
use Rattle.query_tokens.specs.Printing.{canonical_text}
use Rattle.query_reader.specs.declared.checked.Checked.{Checked}
use Rattle.private_plan.specs.Rounds.{first_round, secrets_in}
use Rattle.private_plan.proofs.Accepted.{secrets_laid}
use Rattle.key_frames.specs.declared.keys.Key.{Key}
use Rattle.key_frames.specs.Frames.{KeyFrameOf}
use Rattle.key_frames.proofs.FrameLaws.{frame_sized}
use Rattle.key_frames.specs.Trees.{key_tree, tree_length}
use Rattle.session_model.specs.Sessions.{key_frame, session_roots}
use Rattle.key_frames.proofs.TreeLaws.{trees_same}
use Rattle.client_rounds.specs.WellPut.{IsWellPut}
use Rattle.client_rounds.specs.Rounds.{round_length}
use Rattle.client_rounds.proofs.Ends.{length-roots_of}

over_trees : (ks : List Key) → sum_by (λ k. tree_length (key_tree k)) ks ≡ sum_by tree_length (map key_tree ks)
over_trees [] = refl
over_trees (k ∷ ks) = sum_by-cons (λ k. tree_length (key_tree k)) k ks ∙ (ap (λ n. tree_length (key_tree k) + n) (over_trees ks) ∙ sym (sum_by-cons tree_length (key_tree k) (map key_tree ks)))

-- a key frame of the first round has as many bytes as the plan tells
pub round_is : (e : Meaning) (p : Provider) (checked : Checked) (shape : ShapeParts) (params words bytes : List ℕ) → IsWellPut checked shape params
    → KeyFrameOf bytes (key_frame e p checked shape params words) → length bytes ≡ round_length checked shape
round_is e p checked shape params words bytes asked of =
    let secrets = secrets_in checked shape params first_round in
    let roots = session_roots secrets words in
    let trees = trees_same e p 0 secrets roots (length-roots_of (length secrets) (drop 2 words)) in
    let laid = secrets_laid checked shape params asked.accepted asked.form.form asked.known in
    let keys = over_trees (key_frame e p checked shape params words).keys ∙ ap (sum_by tree_length) (trees ∙ laid) in
    frame_sized bytes (key_frame e p checked shape params words) of ∙ ap (λ n. 61 + length (canonical_text checked.query) + length (shape_text shape) + n) keys
