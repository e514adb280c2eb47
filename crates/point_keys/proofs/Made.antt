-- What a loop along alpha ends with is the pair of keys.
use Rattle.std.proofs.Common.{◌≡◌, ℕ, List, ap, ◌∙◌}
use Rattle.spl_words.specs.Secrets.{Secret}
use Rattle.seed_expansion.specs.declared.nodes.Node.{Node}
use Rattle.seed_expansion.specs.declared.nodes.Correction.{Correction}
use Rattle.seed_expansion.specs.Expanders.{Meaning}
use Rattle.seed_expansion.specs.Walk.{corrections}
use Rattle.seed_expansion.proofs.Leaves.{Ends, last_made}
use Rattle.point_keys.specs.declared.keys.PointKey.{PointKey}
use Rattle.point_keys.specs.Points.{point_keys}

module _ (e : Meaning) (tree : ℕ) (s : Secret) (roots : ℕ × ℕ) {level w0 w1 last : ℕ} {zero one : Node} (ends : Ends e tree s roots level w0 w1 last zero one) where
  pub point_made : {rows copied : List Correction} → rows ≡ corrections e tree s roots level → copied ≡ rows → ◌≡◌ {A = PointKey × PointKey} (record { root = roots.0; levels = rows; last = last }, record { root = roots.1; levels = copied; last = last }) (point_keys e tree s roots)
  unfolding point_keys
  point_made {rows} {copied} q d =
      let b : rows ≡ corrections e tree s roots s.depth = q ∙ ap (corrections e tree s roots) ends.end in
      let all = corrections e tree s roots s.depth in
      let make : List Correction → List Correction → ℕ → PointKey × PointKey = λ m n k. (record { root = roots.0; levels = m; last = k }, record { root = roots.1; levels = n; last = k }) in
      ap (λ m. make m copied last) b ∙ ap (λ n. make all n last) (d ∙ b) ∙ ap (make all all) (last_made ends)
