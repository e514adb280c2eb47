-- The laws of the mapped tape, for lists of trees.
use Rattle.std.proofs.Common.{◌≡◌, ℕ, suc, ◌+◌, ◌-◌, ◌<◌, List, [], ◌∷◌, Bool, true, false, cond, get_or, length, ltb, refl, sym, ap, ap₂, ◌∙◌, arith, subst}
use Rattle.std.specs.Prelude.{drop}
use Rattle.std.proofs.Math.Path.{fun_ext}
use Rattle.std.proofs.lemmas.Bool.{cond-true}
use Rattle.std.proofs.lemmas.Bool.Decides.{nat_tests}
use Rattle.std.proofs.lemmas.List.{get_or-drop, length-drop}
use Rattle.spl_words.specs.declared.provider.Provider.{Provider}
use Rattle.spl_words.specs.declared.secret.TreeKind.{TreeKind}
use Rattle.spl_words.specs.declared.secret.TreeKind.TheVariants.{Point, Threshold}
use Rattle.spl_words.specs.Words.{own}
use Rattle.spl_words.specs.Secrets.{Secret, secret_tree}
use Rattle.seed_expansion.specs.declared.nodes.Place.{Place}
use Rattle.seed_expansion.specs.declared.nodes.Block.{Block}
use Rattle.seed_expansion.specs.Expanders.{Meaning, IsTape}
use Rattle.seed_expansion.specs.Tapes.{HasWords}
use Rattle.key_frames.specs.declared.keys.Key.{Key}
use Rattle.key_frames.specs.declared.keys.Key.TheVariants as key
use Rattle.key_frames.specs.Trees.{key_list, key_of}
use Rattle.tape_bijection.specs.Mapped.{mapped}
use Rattle.tape_bijection.specs.MappedLists.{SameTrees, mapped_list, mapped_tree, no_secret}
use Rattle.tape_bijection.proofs.Agree.{Agree, keys_agree, mapped_agree}
use Rattle.tape_bijection.proofs.MappedAt.{own_block, own_leaf}
use Rattle.tape_bijection.proofs.OneToOne.{blocks_back, leaves_back}
use Rattle.tape_bijection.proofs.SameTrees.{same_length, same_tree, second_of, second_is}
use Rattle.tape_bijection.proofs.TreeKeys.{point_keys_same, threshold_keys_same}

split : (b : Bool) {P : Type 0} → (b ≡ true → P) → (b ≡ false → P) → P
split true t f = t refl
split false t f = f refl

-- ---- the keys of the kept provider

-- of one tree, of either kind
key_same : (kind : TreeKind) (e : Meaning) (tape : IsTape e) (p : Provider) (tree : ℕ) (t u : Secret) (roots : ℕ × ℕ)
    → key_of kind (mapped kind e p tree t (second_of t u)) p tree (second_of t u) roots ≡ key_of kind e p tree t roots
key_same Point e tape p tree t u roots = ap (λ k. key.Point (own p k)) (point_keys_same e tape p tree t.kind t.depth t.alpha t.beta u.alpha u.beta roots)
key_same Threshold e tape p tree t u roots = ap (λ k. key.Threshold (own p k)) (threshold_keys_same e tape p tree t.kind t.depth t.alpha t.beta u.alpha u.beta roots)

tree_key_same : (e : Meaning) (tape : IsTape e) (p : Provider) (k : ℕ) (t u : Secret) (r : ℕ × ℕ) → secret_tree u ≡ secret_tree t
    → key_of u.kind (mapped_tree e p k t u) p k u r ≡ key_of t.kind e p k t r
tree_key_same e tape p k t u r same =
    ap (λ (s : Secret). key_of s.kind (mapped t.kind e p k t s) p k s r) (second_is t u same) ∙ key_same t.kind e tape p k t u r

-- of a list of trees, from the keys of each
lists_same : (e e2 : Meaning) (p : Provider) (ts us : List Secret) (roots : List (ℕ × ℕ)) (k : ℕ) → length us ≡ length ts
    → ((i : ℕ) → i < length ts → (r : ℕ × ℕ) → key_of (get_or us i no_secret).kind e2 p (k + i) (get_or us i no_secret) r ≡ key_of (get_or ts i no_secret).kind e p (k + i) (get_or ts i no_secret) r)
    → key_list e2 p k us roots ≡ key_list e p k ts roots
unfolding key_list
lists_same e e2 p [] [] roots k l h = refl
lists_same e e2 p [] (u ∷ us) roots k l h = absurd (omega (arith, l))
lists_same e e2 p (t ∷ ts) [] roots k l h = absurd (omega (arith, l))
lists_same e e2 p (t ∷ ts) (u ∷ us) [] k l h = refl
lists_same e e2 p (t ∷ ts) (u ∷ us) (r ∷ rs) k l h =
    let none : k + 0 ≡ k = omega arith in
    let step : (i : ℕ) → k + suc i ≡ (k + 1) + i = λ i. omega arith in
    ap₂ (λ (x : Key) (xs : List Key). x ∷ xs)
    (subst (λ j. key_of u.kind e2 p j u r ≡ key_of t.kind e p j t r) none (h 0 (omega arith) r))
    (lists_same e e2 p ts us rs (k + 1) (omega arith) (λ i lt x.
    subst (λ j. key_of (get_or us i no_secret).kind e2 p j (get_or us i no_secret) x ≡ key_of (get_or ts i no_secret).kind e p j (get_or ts i no_secret) x) (step i) (h (suc i) (omega arith) x)))

module _ (e : Meaning) (p : Provider) (from to : List Secret) where
  abbrev all : Meaning
  all = mapped_list e p from to

  abbrev tree_of : ℕ → Meaning
  tree_of k = mapped_tree e p k (get_or from k no_secret) (get_or to k no_secret)

  tree_agrees : (k : ℕ) → ltb k (length from) ≡ true → Agree all (tree_of k) k
  tree_agrees k h = record {
    blocks = λ r i pre sd. cond-true (ltb k (length from)) ((tree_of k).block (record { tree = k; provider = r; level = i; prefix = pre }) sd) (e.block (record { tree = k; provider = r; level = i; prefix = pre }) sd) h;
    leaves = λ r i pre sd. cond-true (ltb k (length from)) ((tree_of k).leaf (record { tree = k; provider = r; level = i; prefix = pre }) sd) (e.leaf (record { tree = k; provider = r; level = i; prefix = pre }) sd) h;
  }

  one_same : IsTape e → SameTrees from to → (k : ℕ) → k < length from → (r : ℕ × ℕ) → key_of (get_or to k no_secret).kind all p k (get_or to k no_secret) r ≡ key_of (get_or from k no_secret).kind e p k (get_or from k no_secret) r
  one_same tape same k lt r =
      let test : ltb k (length from) ≡ true = grind (arith, nat_tests) in
      let t = get_or from k no_secret in
      let u = get_or to k no_secret in
      keys_agree all (tree_of k) k (tree_agrees k test) u r u.kind p ∙ tree_key_same e tape p k t u r (same_tree from to same k)

  -- from the tree of any number on
  pub same_keys : IsTape e → SameTrees from to → (n : ℕ) (roots : List (ℕ × ℕ)) → key_list all p n (drop n to) roots ≡ key_list e p n (drop n from) roots
  same_keys tape same n roots =
      let lengths : length (drop n to) ≡ length (drop n from) = length-drop n to ∙ ap (λ k. k - n) (same_length from to same) ∙ sym (length-drop n from) in
      lists_same e all p (drop n from) (drop n to) roots n lengths (λ i lt r.
      let below : n + i < length from = omega (arith, lt, length-drop n from) in
      ap (λ (s : Secret). key_of s.kind all p (n + i) s r) (get_or-drop n to i no_secret)
      ∙ one_same tape same (n + i) below r
      ∙ sym (ap (λ (s : Secret). key_of s.kind e p (n + i) s r) (get_or-drop n from i no_secret)))

  -- ---- the entries of the kept provider

  pub own_blocks_stay : (q : Place) (seed : ℕ) → q.provider ≡ p → all.block q seed ≡ e.block q seed
  own_blocks_stay q seed h =
      let k = q.tree in
      let here : Provider → Place = λ r. record { tree = k; provider = r; level = q.level; prefix = q.prefix } in
      let t = get_or from k no_secret in
      subst (λ r. all.block (here r) seed ≡ e.block (here r) seed) (sym h)
      (split (ltb k (length from))
      (λ b. (tree_agrees k b).blocks p q.level q.prefix seed ∙ own_block t.kind e p k t (get_or to k no_secret) t.depth k q.level q.prefix seed)
      (λ b. ap (λ c. cond c ((tree_of k).block (here p) seed) (e.block (here p) seed)) b))

  pub own_leaves_stay : (q : Place) (seed : ℕ) → q.provider ≡ p → all.leaf q seed ≡ e.leaf q seed
  own_leaves_stay q seed h =
      let k = q.tree in
      let here : Provider → Place = λ r. record { tree = k; provider = r; level = q.level; prefix = q.prefix } in
      let t = get_or from k no_secret in
      subst (λ r. all.leaf (here r) seed ≡ e.leaf (here r) seed) (sym h)
      (split (ltb k (length from))
      (λ b. (tree_agrees k b).leaves p q.level q.prefix seed ∙ own_leaf t.kind e p k t (get_or to k no_secret) k q.level q.prefix seed)
      (λ b. ap (λ c. cond c ((tree_of k).leaf (here p) seed) (e.leaf (here p) seed)) b))

-- ---- the map there and the map back

module _ (e : Meaning) (tape : IsTape e) (words : HasWords e) (p : Provider) (from to : List Secret) (same : SameTrees from to) where
  abbrev there : Meaning
  there = mapped_list e p from to

  block_back : (q : Place) (seed : ℕ) → (mapped_list there p to from).block q seed ≡ e.block q seed
  block_back q seed =
      let k = q.tree in
      let t = get_or from k no_secret in
      let u = get_or to k no_secret in
      let x = (mapped_tree there p k u t).block q seed in
      ap (λ n. cond (ltb k n) x (there.block q seed)) (same_length from to same)
      ∙ split (ltb k (length from))
      (λ b. ap (λ c. cond c x (there.block q seed)) b
      ∙ (mapped_agree there (mapped_tree e p k t u) k (tree_agrees e p from to k b) u.kind p u t).blocks q.provider q.level q.prefix seed
      ∙ ap (λ (s : Secret). (mapped s.kind (mapped t.kind e p k t s) p k s t).block q seed) (second_is t u (same_tree from to same k))
      ∙ blocks_back e tape words k t.kind t.depth t.alpha t.beta u.alpha u.beta t.kind p q seed)
      (λ b. ap (λ c. cond c x (cond c ((mapped_tree e p k t u).block q seed) (e.block q seed))) b)

  leaf_back : (q : Place) (seed : ℕ) → (mapped_list there p to from).leaf q seed ≡ e.leaf q seed
  leaf_back q seed =
      let k = q.tree in
      let t = get_or from k no_secret in
      let u = get_or to k no_secret in
      let x = (mapped_tree there p k u t).leaf q seed in
      ap (λ n. cond (ltb k n) x (there.leaf q seed)) (same_length from to same)
      ∙ split (ltb k (length from))
      (λ b. ap (λ c. cond c x (there.leaf q seed)) b
      ∙ (mapped_agree there (mapped_tree e p k t u) k (tree_agrees e p from to k b) u.kind p u t).leaves q.provider q.level q.prefix seed
      ∙ ap (λ (s : Secret). (mapped s.kind (mapped t.kind e p k t s) p k s t).leaf q seed) (second_is t u (same_tree from to same k))
      ∙ leaves_back e tape words k t.kind t.depth t.alpha t.beta u.alpha u.beta t.kind p q seed)
      (λ b. ap (λ c. cond c x (cond c ((mapped_tree e p k t u).leaf q seed) (e.leaf q seed))) b)

  pub there_and_back : mapped_list there p to from ≡ e
  there_and_back =
      let make : (Place → ℕ → Block) → (Place → ℕ → ℕ) → Meaning = λ b w. record { block = b; leaf = w } in
      ap₂ make (fun_ext (λ q. fun_ext (λ seed. block_back q seed))) (fun_ext (λ q. fun_ext (λ seed. leaf_back q seed)))

-- tapes that are mapped to one tape are one
pub same_origin : (e e2 : Meaning) → IsTape e → HasWords e → IsTape e2 → HasWords e2 → (p : Provider) (from to : List Secret) → SameTrees from to
    → mapped_list e p from to ≡ mapped_list e2 p from to → e ≡ e2
same_origin e e2 tape words tape2 words2 p from to same h =
    sym (there_and_back e tape words p from to same) ∙ ap (λ m. mapped_list m p to from) h ∙ there_and_back e2 tape2 words2 p from to same
