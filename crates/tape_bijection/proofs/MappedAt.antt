-- What the mapped tape reads at each place.
use Rattle.std.proofs.Common.{◌≡◌, ℕ, ◌<◌, Bool, true, false, ◌&&◌, eqb, ltb, refl, ap, ◌∙◌, arith, eq-eqb}
use Rattle.std.proofs.lemmas.Bool.Decides.{nat_tests}
use Rattle.spl_words.specs.declared.provider.Provider.{Provider}
use Rattle.spl_words.specs.declared.provider.Provider.TheVariants.{Zero, One}
use Rattle.spl_words.specs.declared.secret.TreeKind.{TreeKind}
use Rattle.spl_words.specs.Secrets.{Secret}
use Rattle.spl_words.specs.Words.{other}
use Rattle.seed_expansion.specs.Expanders.{Meaning, IsTape}
use Rattle.seed_expansion.specs.Walk.{place, prefix}
use Rattle.tape_bijection.specs.Mapped.{mapped, mapped_blocks, mapped_leaves, on_path, exchanged, is_block_place, is_leaf_place, same_provider, along}
use Rattle.tape_bijection.specs.Moves.{moved_block, moved_leaf}

same_is : (o : Provider) → same_provider o o ≡ true
same_is Zero = refl
same_is One = refl

pub same_provider-true : (o r : Provider) → same_provider o r ≡ true → r ≡ o
same_provider-true Zero Zero h = refl
same_provider-true One One h = refl
same_provider-true Zero One h = cc
same_provider-true One Zero h = cc

all_three : (a b c : Bool) → a ≡ true → b ≡ true → c ≡ true → a && (b && c) ≡ true
all_three a b c p q r = ap (λ x. x && (b && c)) p ∙ ap (λ x. x && c) q ∙ r

pub each : (a b c : Bool) → a && (b && c) ≡ true → (a ≡ true) × (b ≡ true) × (c ≡ true)
each true true true h = (refl, refl, refl)
each true true false h = absurd (cc)
each true false c h = absurd (cc)
each false b c h = absurd (cc)

pub is_block_place-of : (tree : ℕ) (o : Provider) (n i pre : ℕ) → i < n → is_block_place tree o n (record { tree = tree; provider = o; level = i; prefix = pre }) ≡ true
is_block_place-of tree o n i pre h =
    let lt : ltb i n ≡ true = grind (arith, nat_tests) in
    all_three (same_provider o o) (eqb tree tree) (ltb i n) (same_is o) (eq-eqb tree tree refl) lt

pub is_leaf_place-of : (tree : ℕ) (o : Provider) (depth pre : ℕ) → is_leaf_place tree o depth (record { tree = tree; provider = o; level = depth; prefix = pre }) ≡ true
is_leaf_place-of tree o depth pre = all_three (same_provider o o) (eqb tree tree) (eqb depth depth) (same_is o) (eq-eqb tree tree refl) (eq-eqb depth depth refl)

module _ (kind : TreeKind) (e : Meaning) (p : Provider) (tree : ℕ) (s s2 : Secret) where
  pub own_block : (n tree2 i pre seed : ℕ) → mapped_blocks kind e p tree s s2 n (record { tree = tree2; provider = p; level = i; prefix = pre }) seed ≡ e.block (record { tree = tree2; provider = p; level = i; prefix = pre }) seed
  unfolding mapped_blocks
  own_block n tree2 i pre seed = for_each p
    where
      for_each : (r : Provider) → mapped_blocks kind e r tree s s2 n (record { tree = tree2; provider = r; level = i; prefix = pre }) seed ≡ e.block (record { tree = tree2; provider = r; level = i; prefix = pre }) seed
      for_each Zero = refl
      for_each One = refl

  pub own_leaf : (tree2 i pre seed : ℕ) → mapped_leaves e p tree s s2 (record { tree = tree2; provider = p; level = i; prefix = pre }) seed ≡ e.leaf (record { tree = tree2; provider = p; level = i; prefix = pre }) seed
  unfolding mapped_leaves
  own_leaf tree2 i pre seed = for_each p
    where
      for_each : (r : Provider) → mapped_leaves e r tree s s2 (record { tree = tree2; provider = r; level = i; prefix = pre }) seed ≡ e.leaf (record { tree = tree2; provider = r; level = i; prefix = pre }) seed
      for_each Zero = refl
      for_each One = refl

  pub moved_place : (n i seed : ℕ) → i < n → mapped_blocks kind e p tree s s2 n (place tree (other p) s.depth s2.alpha i) seed ≡ moved_block kind e p tree s s2 i
  unfolding mapped_blocks
  moved_place n i seed h =
      let q = place tree (other p) s.depth s2.alpha i in
      let first = on_path s.depth s.alpha q in
      let to = moved_block kind e p tree s s2 i in
      let theirs = e.block q 0 in
      let its = e.block q seed in
      ap (λ b. exchanged b (on_path s.depth s2.alpha q) first to theirs its) (is_block_place-of tree (other p) n i (prefix s.depth s2.alpha i) h)
      ∙ ap (λ b. exchanged true b first to theirs its) (eq-eqb (prefix s.depth s2.alpha i) (prefix s.depth s2.alpha i) refl)

  pub moved_leaf_place : (seed : ℕ) → mapped_leaves e p tree s s2 (place tree (other p) s.depth s2.alpha s.depth) seed ≡ moved_leaf e p tree s s2
  unfolding mapped_leaves
  moved_leaf_place seed =
      let q = place tree (other p) s.depth s2.alpha s.depth in
      let first = on_path s.depth s.alpha q in
      let to = moved_leaf e p tree s s2 in
      let theirs = e.leaf q 0 in
      let its = e.leaf q seed in
      ap (λ b. exchanged b (on_path s.depth s2.alpha q) first to theirs its) (is_leaf_place-of tree (other p) s.depth (prefix s.depth s2.alpha s.depth))
      ∙ ap (λ b. exchanged true b first to theirs its) (eq-eqb (prefix s.depth s2.alpha s.depth) (prefix s.depth s2.alpha s.depth) refl)

  pub mapped_is_tape : IsTape e → IsTape (mapped kind e p tree s s2)
  unfolding mapped_blocks mapped_leaves
  mapped_is_tape tape = record {
    blocks = λ q x y. ap (exchanged (is_block_place tree (other p) s.depth q) (on_path s.depth s2.alpha q) (on_path s.depth s.alpha q) (moved_block kind e p tree s s2 q.level) (e.block (along s.depth s2.alpha q) 0)) (tape.blocks q x y);
    leaves = λ q x y. ap (exchanged (is_leaf_place tree (other p) s.depth q) (on_path s.depth s2.alpha q) (on_path s.depth s.alpha q) (moved_leaf e p tree s s2) (e.leaf (along s.depth s2.alpha q) 0)) (tape.leaves q x y);
  }
