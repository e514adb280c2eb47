-- What a loop along alpha ends with is the pair of keys.
use Rattle.std.proofs.Common.{◌≡◌, ℕ, List, ap, ◌∙◌}
use Rattle.spl_words.specs.Secrets.{Secret}
use Rattle.seed_expansion.specs.declared.nodes.Node.{Node}
use Rattle.seed_expansion.specs.Expanders.{Meaning}
use Rattle.seed_expansion.proofs.Leaves.{Ends, last_made}
use Rattle.interval_keys.specs.declared.keys.ThresholdKey.{ThresholdKey}
use Rattle.interval_keys.specs.declared.keys.ThresholdLevel.{ThresholdLevel}
use Rattle.interval_keys.specs.Thresholds.{levels, threshold_keys}

module _ (e : Meaning) (tree : ℕ) (s : Secret) (roots : ℕ × ℕ) {level w0 w1 last : ℕ} {zero one : Node} (ends : Ends e tree s roots level w0 w1 last zero one) where
  pub threshold_made : {rows copied : List ThresholdLevel} → rows ≡ levels e tree s roots level → copied ≡ rows → ◌≡◌ {A = ThresholdKey × ThresholdKey} (record { root = roots.0; levels = rows; last = last }, record { root = roots.1; levels = copied; last = last }) (threshold_keys e tree s roots)
  unfolding threshold_keys
  threshold_made {rows} {copied} q d =
      let b : rows ≡ levels e tree s roots s.depth = q ∙ ap (levels e tree s roots) ends.end in
      let all = levels e tree s roots s.depth in
      let make : List ThresholdLevel → List ThresholdLevel → ℕ → ThresholdKey × ThresholdKey = λ m n k. (record { root = roots.0; levels = m; last = k }, record { root = roots.1; levels = n; last = k }) in
      ap (λ m. make m copied last) b ∙ ap (λ n. make all n last) (d ∙ b) ∙ ap (make all all) (last_made ends)
