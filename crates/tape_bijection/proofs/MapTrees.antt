-- One tree more is mapped.
use Rattle.std.proofs.Common.{◌≡◌, ℕ, ◌+◌, Bool, true, false, cond, ◌&&◌, ◌||◌, List, get_or, length, eqb, ltb, refl, sym, ap, ap₂, ◌∙◌, arith}
use Rattle.std.specs.Prelude.{is_some}
use Rattle.std.proofs.Math.Path.{fun_ext}
use Rattle.std.proofs.lemmas.Bool.{eqb-true}
use Rattle.std.proofs.lemmas.Bool.Decides.{nat_tests}
use Rattle.spl_words.specs.Words.{other}
use Rattle.spl_words.specs.Secrets.{Secret}
use Rattle.seed_expansion.specs.Expanders.{Meaning}
use Rattle.seed_expansion.specs.Tapes.{Entries, block_at, leaf_at, tape_meaning}
use Rattle.tape_bijection.specs.Entered.{has_block_after, has_leaf_after, has_block_in, has_leaf_in}
use Rattle.tape_bijection.specs.Mapped.{along, exchanged, is_block_place, is_leaf_place, mapped_blocks, mapped_leaves, on_path, same_provider}
use Rattle.tape_bijection.specs.MappedLists.{mapped_list, mapped_tree, mapped_trees, no_secret}
use Rattle.tape_bijection.specs.Moves.{moved_block, moved_leaf}
use Rattle.spl_words.specs.declared.provider.Provider.{Provider}
use Rattle.seed_expansion.specs.declared.nodes.Place.{Place}
use Rattle.seed_expansion.specs.declared.nodes.Block.{Block}
use Rattle.tape_bijection.proofs.Agree.{Agree, mapped_agree}
use Rattle.tape_bijection.proofs.MapStep.{split}

not_first : (a b c : Bool) → b ≡ false → a && (b && c) ≡ false
not_first false b c h = refl
not_first true b c h = ap (λ x. x && c) h

at_last : (k n : ℕ) → eqb k n ≡ true → ltb k (n + 1) ≡ true
at_last k n h = grind (arith, nat_tests)

past_last : (k n : ℕ) → eqb k n ≡ true → ltb k n ≡ false
past_last k n h = grind (arith, nat_tests)

not_last : (k n : ℕ) → eqb k n ≡ false → ltb k (n + 1) ≡ ltb k n
not_last k n h = grind (arith, nat_tests)

-- other trees stay
other_tree : (e : Meaning) (p : Provider) (k : ℕ) (s s2 : Secret) (q : Place) (seed : ℕ) → eqb q.tree k ≡ false → (mapped_tree e p k s s2).block q seed ≡ e.block q seed
unfolding mapped_blocks
other_tree e p k s s2 q seed h =
    ap (λ b. exchanged b (on_path s.depth s2.alpha q) (on_path s.depth s.alpha q) (moved_block s.kind e p k s s2 q.level) (e.block (along s.depth s2.alpha q) 0) (e.block q seed))
    (not_first (same_provider (other p) q.provider) (eqb q.tree k) (ltb q.level s.depth) h)

other_tree_leaf : (e : Meaning) (p : Provider) (k : ℕ) (s s2 : Secret) (q : Place) (seed : ℕ) → eqb q.tree k ≡ false → (mapped_tree e p k s s2).leaf q seed ≡ e.leaf q seed
unfolding mapped_leaves
other_tree_leaf e p k s s2 q seed h =
    ap (λ b. exchanged b (on_path s.depth s2.alpha q) (on_path s.depth s.alpha q) (moved_leaf e p k s s2) (e.leaf (along s.depth s2.alpha q) 0) (e.leaf q seed))
    (not_first (same_provider (other p) q.provider) (eqb q.tree k) (eqb q.level s.depth) h)

module _ (old t : Entries) (p : Provider) (from to : List Secret) (n : ℕ) where
  abbrev e : Meaning
  e = tape_meaning old

  abbrev now : Meaning
  now = tape_meaning t

  abbrev first : Secret
  first = get_or from n no_secret

  abbrev second : Secret
  second = get_or to n no_secret

  pub record Before : Type 0 where
    pub blocks : (q : Place) (seed : ℕ) → (tape_meaning t).block q seed ≡ (mapped_trees n (tape_meaning old) p from to).block q seed
    pub leaves : (q : Place) (seed : ℕ) → (tape_meaning t).leaf q seed ≡ (mapped_trees n (tape_meaning old) p from to).leaf q seed
    pub block_entries : (q : Place) → is_some (block_at t q) ≡ has_block_in n old p from to q
    pub leaf_entries : (q : Place) → is_some (leaf_at t q) ≡ has_leaf_in n old p from to q

  -- all trees are mapped
  pub all_mapped : n ≡ length from → Before → tape_meaning t ≡ mapped_list (tape_meaning old) p from to
  all_mapped end before =
      let make : (Place → ℕ → Block) → (Place → ℕ → ℕ) → Meaning = λ b w. record { block = b; leaf = w } in
      ap₂ make (fun_ext (λ q. fun_ext (λ seed. before.blocks q seed))) (fun_ext (λ q. fun_ext (λ seed. before.leaves q seed)))
      ∙ ap (λ k. mapped_trees k (tape_meaning old) p from to) end

  module _ (before : Before) where
    itself : ltb n n ≡ false
    itself = grind (arith, nat_tests)

    agree : Agree now e n
    agree = record {
      blocks = λ r i pre sd. before.blocks (record { tree = n; provider = r; level = i; prefix = pre }) sd
          ∙ ap (λ b. cond b ((mapped_tree e p n first second).block (record { tree = n; provider = r; level = i; prefix = pre }) sd) (e.block (record { tree = n; provider = r; level = i; prefix = pre }) sd)) itself;
      leaves = λ r i pre sd. before.leaves (record { tree = n; provider = r; level = i; prefix = pre }) sd
          ∙ ap (λ b. cond b ((mapped_tree e p n first second).leaf (record { tree = n; provider = r; level = i; prefix = pre }) sd) (e.leaf (record { tree = n; provider = r; level = i; prefix = pre }) sd)) itself;
    }

    pub tree_blocks : (q : Place) (seed : ℕ) → (mapped_tree now p n first second).block q seed ≡ (mapped_trees (n + 1) e p from to).block q seed
    tree_blocks q seed =
        let own = (mapped_tree e p q.tree (get_or from q.tree no_secret) (get_or to q.tree no_secret)).block q seed in
        let its = e.block q seed in
        split (eqb q.tree n)
        (λ h.
        let same : q.tree ≡ n = eqb-true q.tree n h in
        ap (λ k. (mapped_tree now p n first second).block (record { tree = k; provider = q.provider; level = q.level; prefix = q.prefix }) seed) same
        ∙ (mapped_agree now e n agree first.kind p first second).blocks q.provider q.level q.prefix seed
        ∙ ap (λ k. (mapped_tree e p k (get_or from k no_secret) (get_or to k no_secret)).block (record { tree = k; provider = q.provider; level = q.level; prefix = q.prefix }) seed) (sym same)
        ∙ sym (ap (λ b. cond b own its) (at_last q.tree n h)))
        (λ h. other_tree now p n first second q seed h ∙ before.blocks q seed ∙ sym (ap (λ b. cond b own its) (not_last q.tree n h)))

    pub tree_leaves : (q : Place) (seed : ℕ) → (mapped_tree now p n first second).leaf q seed ≡ (mapped_trees (n + 1) e p from to).leaf q seed
    tree_leaves q seed =
        let own = (mapped_tree e p q.tree (get_or from q.tree no_secret) (get_or to q.tree no_secret)).leaf q seed in
        let its = e.leaf q seed in
        split (eqb q.tree n)
        (λ h.
        let same : q.tree ≡ n = eqb-true q.tree n h in
        ap (λ k. (mapped_tree now p n first second).leaf (record { tree = k; provider = q.provider; level = q.level; prefix = q.prefix }) seed) same
        ∙ (mapped_agree now e n agree first.kind p first second).leaves q.provider q.level q.prefix seed
        ∙ ap (λ k. (mapped_tree e p k (get_or from k no_secret) (get_or to k no_secret)).leaf (record { tree = k; provider = q.provider; level = q.level; prefix = q.prefix }) seed) (sym same)
        ∙ sym (ap (λ b. cond b own its) (at_last q.tree n h)))
        (λ h. other_tree_leaf now p n first second q seed h ∙ before.leaves q seed ∙ sym (ap (λ b. cond b own its) (not_last q.tree n h)))

    outside : (a b c x y : Bool) → b ≡ false → ((a && (b && c)) && x || y) ≡ y
    outside a b c x y h = ap (λ z. z && x || y) (not_first a b c h)

    pub tree_block_entries : (q : Place) → has_block_after first.depth t p n first second q ≡ has_block_in (n + 1) old p from to q
    tree_block_entries q =
        let u = get_or from q.tree no_secret in
        let v = get_or to q.tree no_secret in
        let own = has_block_after u.depth old p q.tree u v q in
        let its = is_some (block_at old q) in
        let x = on_path first.depth second.alpha q || on_path first.depth first.alpha q in
        split (eqb q.tree n)
        (λ h.
        let same : q.tree ≡ n = eqb-true q.tree n h in
        ap (λ b. is_block_place n (other p) first.depth q && x || b) (before.block_entries q ∙ ap (λ b. cond b own its) (past_last q.tree n h))
        ∙ ap (λ k. has_block_after (get_or from k no_secret).depth old p k (get_or from k no_secret) (get_or to k no_secret) q) (sym same)
        ∙ sym (ap (λ b. cond b own its) (at_last q.tree n h)))
        (λ h. outside (same_provider (other p) q.provider) (eqb q.tree n) (ltb q.level first.depth) x (is_some (block_at t q)) h
        ∙ before.block_entries q ∙ sym (ap (λ b. cond b own its) (not_last q.tree n h)))

    pub tree_leaf_entries : (q : Place) → has_leaf_after t p n first second q ≡ has_leaf_in (n + 1) old p from to q
    tree_leaf_entries q =
        let u = get_or from q.tree no_secret in
        let v = get_or to q.tree no_secret in
        let own = has_leaf_after old p q.tree u v q in
        let its = is_some (leaf_at old q) in
        let x = on_path first.depth second.alpha q || on_path first.depth first.alpha q in
        split (eqb q.tree n)
        (λ h.
        let same : q.tree ≡ n = eqb-true q.tree n h in
        ap (λ b. is_leaf_place n (other p) first.depth q && x || b) (before.leaf_entries q ∙ ap (λ b. cond b own its) (past_last q.tree n h))
        ∙ ap (λ k. has_leaf_after old p k (get_or from k no_secret) (get_or to k no_secret) q) (sym same)
        ∙ sym (ap (λ b. cond b own its) (at_last q.tree n h)))
        (λ h. outside (same_provider (other p) q.provider) (eqb q.tree n) (eqb q.level first.depth) x (is_some (leaf_at t q)) h
        ∙ before.leaf_entries q ∙ sym (ap (λ b. cond b own its) (not_last q.tree n h)))
