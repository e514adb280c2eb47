-- The keys of one tree are the same.
use Rattle.std.proofs.Common.{◌≡◌, ℕ, zero, suc, ◌+◌, ◌≤◌, ◌<◌, List, [], ◌∷◌, ◌++◌, Bool, true, false, refl, sym, ap, ap₂, ◌∙◌, arith, subst, add-one}
use Rattle.spl_words.specs.declared.provider.Provider.{Provider}
use Rattle.spl_words.specs.declared.secret.TreeKind.{TreeKind}
use Rattle.spl_words.specs.declared.secret.TreeKind.TheVariants.{Point, Threshold}
use Rattle.seed_expansion.specs.declared.nodes.Node.{Node}
use Rattle.seed_expansion.specs.declared.nodes.Correction.{Correction}
use Rattle.interval_keys.specs.declared.keys.ThresholdLevel.{ThresholdLevel}
use Rattle.point_keys.specs.declared.keys.PointKey.{PointKey}
use Rattle.interval_keys.specs.declared.keys.ThresholdKey.{ThresholdKey}
use Rattle.spl_words.specs.Secrets.{Secret}
use Rattle.seed_expansion.specs.Expanders.{Meaning, IsTape}
use Rattle.seed_expansion.specs.Leaves.{last_of}
use Rattle.seed_expansion.specs.Walk.{correction_of, corrections, path}
use Rattle.point_keys.specs.Points.{point_keys}
use Rattle.interval_keys.specs.Thresholds.{level_between, level_of, levels, level_word_at, threshold_keys}
use Rattle.tape_bijection.specs.Mapped.{mapped}
use Rattle.tape_bijection.specs.Moves.{kept_bit}
use Rattle.seed_expansion.proofs.Walk.{corrections-more}
use Rattle.interval_keys.proofs.ThresholdLaw.{levels-more}
use Rattle.tape_bijection.proofs.Related.{any_correction, no_nodes}
use Rattle.tape_bijection.proofs.MappedAt.{mapped_is_tape}
use Rattle.tape_bijection.proofs.SameKeys.{zero_bit, one_bit, zero_bit-is, one_bit-is, kept, related, level_word-bits, last-bits, first_word-is, first_last-is, mapped_word, mapped_last}

same_level : (a b : ThresholdLevel) → a.correction ≡ b.correction → a.word_l ≡ b.word_l → a.word_r ≡ b.word_r → a ≡ b
same_level a b p q r =
    let make : Correction → ℕ → ℕ → ThresholdLevel = λ c x y. record { correction = c; word_l = x; word_r = y } in
    ap (λ c. make c a.word_l a.word_r) p ∙ ap (λ x. make b.correction x a.word_r) q ∙ ap (make b.correction b.word_l) r

pub level_correction : (e : Meaning) (tree : ℕ) (s : Secret) (i : ℕ) (n : Node × Node) → (level_of e tree s i n).correction ≡ correction_of e tree s i n
unfolding level_of level_between correction_of
level_correction e tree s i n = refl

module _ (e : Meaning) (tape : IsTape e) (p : Provider) (tree : ℕ) (sort : TreeKind) (depth alpha beta alpha2 beta2 : ℕ) (roots : ℕ × ℕ) where
  abbrev pub one : Secret
  one = record { kind = sort; depth = depth; alpha = alpha; beta = beta }

  abbrev pub two : Secret
  two = record { kind = sort; depth = depth; alpha = alpha2; beta = beta2 }

  module _ (kind : TreeKind) where
    abbrev pub m : Meaning
    m = mapped kind e p tree one two

    abbrev pub m_tape : IsTape m
    m_tape = mapped_is_tape kind e p tree one two tape

    pub correction_same : (i : ℕ) (n k : Node × Node) → i < depth → correction_of m tree two i n ≡ correction_of e tree one i k
    correction_same i n k h =
        any_correction m m_tape tree two i n no_nodes
        ∙ sym ((related kind e tape p tree sort depth alpha beta alpha2 beta2).same_corrections i h)
        ∙ any_correction e tape tree one i no_nodes k

    pub corrections_same : (n : ℕ) → n ≤ depth → corrections m tree two roots n ≡ corrections e tree one roots n
    unfolding corrections
    corrections_same zero h = refl
    corrections_same (suc n) h =
        let next : corrections m tree two roots (n + 1) ≡ corrections e tree one roots (n + 1) =
        corrections-more m tree two roots n
        ∙ ap₂ (λ (rest : List Correction) (c : Correction). rest ++ c ∷ []) (corrections_same n (omega arith)) (correction_same n (path m tree two roots n) (path e tree one roots n) (omega arith))
        ∙ sym (corrections-more e tree one roots n) in
        subst (λ k. corrections m tree two roots k ≡ corrections e tree one roots k) (add-one n) next

    pub last_same : last_of m tree two two.depth (path m tree two roots depth) ≡ last_of e tree one one.depth (path e tree one roots depth)
    last_same =
        let t = kept_bit e p tree one two depth in
        last-bits m m_tape tree two (zero_bit p t) (one_bit p t) (path m tree two roots depth)
        (zero_bit-is m tree two roots p depth t (kept kind e tape p tree sort depth alpha beta alpha2 beta2 roots depth (omega arith)))
        (one_bit-is m tree two roots p depth t (kept kind e tape p tree sort depth alpha beta alpha2 beta2 roots depth (omega arith)))
        ∙ mapped_last e tape tree sort depth alpha beta alpha2 beta2 kind p
        ∙ sym (first_last-is e tape tree sort depth alpha beta alpha2 beta2 p roots)

  level_word_same : (i : ℕ) (d : Bool) → i < depth → level_word_at d (level_of (m Threshold) tree two i (path (m Threshold) tree two roots i)) ≡ level_word_at d (level_of e tree one i (path e tree one roots i))
  level_word_same i d h =
      let t = kept_bit e p tree one two i in
      level_word-bits (m Threshold) (m_tape Threshold) tree two roots i d (zero_bit p t) (one_bit p t) (path (m Threshold) tree two roots i)
      (zero_bit-is (m Threshold) tree two roots p i t (kept Threshold e tape p tree sort depth alpha beta alpha2 beta2 roots i (omega arith)))
      (one_bit-is (m Threshold) tree two roots p i t (kept Threshold e tape p tree sort depth alpha beta alpha2 beta2 roots i (omega arith)))
      ∙ mapped_word e tape tree sort depth alpha beta alpha2 beta2 p i d h
      ∙ sym (first_word-is e tape tree sort depth alpha beta alpha2 beta2 p roots i d (omega arith))

  pub level_same : (i : ℕ) → i < depth → level_of (m Threshold) tree two i (path (m Threshold) tree two roots i) ≡ level_of e tree one i (path e tree one roots i)
  level_same i h =
      let n = path (m Threshold) tree two roots i in
      let k = path e tree one roots i in
      same_level _ _
      (level_correction (m Threshold) tree two i n ∙ correction_same Threshold i n k h ∙ sym (level_correction e tree one i k))
      (level_word_same i false h) (level_word_same i true h)

  pub levels_same : (n : ℕ) → n ≤ depth → levels (m Threshold) tree two roots n ≡ levels e tree one roots n
  unfolding levels
  levels_same zero h = refl
  levels_same (suc n) h =
      let next : levels (m Threshold) tree two roots (n + 1) ≡ levels e tree one roots (n + 1) =
      levels-more (m Threshold) tree two roots n
      ∙ ap₂ (λ (rest : List ThresholdLevel) (c : ThresholdLevel). rest ++ c ∷ []) (levels_same n (omega arith)) (level_same n (omega arith))
      ∙ sym (levels-more e tree one roots n) in
      subst (λ k. levels (m Threshold) tree two roots k ≡ levels e tree one roots k) (add-one n) next

  pub point_keys_same : point_keys (m Point) tree two roots ≡ point_keys e tree one roots
  unfolding point_keys
  point_keys_same =
      let make : List Correction → ℕ → PointKey × PointKey = λ rows k. (record { root = roots.0; levels = rows; last = k }, record { root = roots.1; levels = rows; last = k }) in
      ap₂ make (corrections_same Point depth (omega arith)) (last_same Point)

  pub threshold_keys_same : threshold_keys (m Threshold) tree two roots ≡ threshold_keys e tree one roots
  unfolding threshold_keys
  threshold_keys_same =
      let make : List ThresholdLevel → ℕ → ThresholdKey × ThresholdKey = λ rows k. (record { root = roots.0; levels = rows; last = k }, record { root = roots.1; levels = rows; last = k }) in
      ap₂ make (levels_same depth (omega arith)) (last_same Threshold)
