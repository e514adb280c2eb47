-- One level of the map: from a tape whose first n levels are mapped to one whose first n + 1 are.
use Rattle.std.proofs.Common.{◌≡◌, ◌≢◌, ℕ, ◌+◌, Bool, true, false, cond, ◌&&◌, ◌||◌, eqb, ltb, refl, sym, ap, ap₂, ◌∙◌, arith, eq-eqb}
use Rattle.std.proofs.lemmas.Bool.{eqb-true}
use Rattle.std.proofs.lemmas.Bool.Decides.{nat_tests}
use Rattle.spl_words.specs.declared.provider.Provider.{Provider}
use Rattle.spl_words.specs.declared.secret.TreeKind.{TreeKind}
use Rattle.seed_expansion.specs.declared.nodes.Place.{Place}
use Rattle.spl_words.specs.Secrets.{Secret}
use Rattle.spl_words.specs.Words.{other}
use Rattle.seed_expansion.specs.Expanders.{Meaning}
use Rattle.seed_expansion.specs.Walk.{place, prefix}
use Rattle.tape_bijection.specs.Mapped.{along, exchanged, is_block_place, is_leaf_place, mapped_blocks, on_path, same_provider}
use Rattle.tape_bijection.specs.Moves.{moved_block}
use Rattle.tape_bijection.proofs.MappedAt.{each, is_block_place-of, is_leaf_place-of, same_provider-true}

pub split : (b : Bool) {P : Type 0} → (b ≡ true → P) → (b ≡ false → P) → P
split true t f = t refl
split false t f = f refl

unlike : (b : Bool) → b ≡ true → b ≡ false → ⊥
unlike b t f = cc

none : {A : Type 0} (h : Bool) (to theirs its : A) → exchanged h false false to theirs its ≡ its
none false to theirs its = refl
none true to theirs its = refl

all_three : (a b c d : Bool) → c ≡ d → a && (b && c) ≡ a && (b && d)
all_three a b c d h = ap (λ x. a && (b && x)) h

shorter : (a b : Bool) (i n : ℕ) → a && (b && ltb i (n + 1)) ≡ false → a && (b && ltb i n) ≡ false
shorter false b i n h = refl
shorter true false i n h = refl
shorter true true i n h = grind (arith, nat_tests)

level_tests : (i n : ℕ) → eqb i n ≡ false → ltb i (n + 1) ≡ ltb i n
level_tests i n h = grind (arith, nat_tests)

module _ (p : Provider) (tree : ℕ) (s s2 : Secret) where
  path_place : (n x : ℕ) (q : Place) → is_block_place tree (other p) (n + 1) q ≡ true → eqb q.level n ≡ true → on_path s.depth x q ≡ true → q ≡ place tree (other p) s.depth x n
  path_place n x q h l k =
      let parts = each (same_provider (other p) q.provider) (eqb q.tree tree) (ltb q.level (n + 1)) h in
      ap (λ r. record { tree = q.tree; provider = r; level = q.level; prefix = q.prefix }) (same_provider-true (other p) q.provider parts.0)
      ∙ ap (λ t. record { tree = t; provider = other p; level = q.level; prefix = q.prefix }) (eqb-true q.tree tree parts.1)
      ∙ ap (λ z. record { tree = tree; provider = other p; level = q.level; prefix = z }) (eqb-true q.prefix (prefix s.depth x q.level) k)
      ∙ ap (λ i. place tree (other p) s.depth x i) (eqb-true q.level n l)

  not_there : (n x : ℕ) (q : Place) → on_path s.depth x q ≡ false → q ≢ place tree (other p) s.depth x n
  not_there n x q k h = unlike (on_path s.depth x q) (ap (on_path s.depth x) h ∙ eq-eqb (prefix s.depth x n) (prefix s.depth x n) refl) k

  not_level : (n x : ℕ) (q : Place) → eqb q.level n ≡ false → q ≢ place tree (other p) s.depth x n
  not_level n x q k h = unlike (eqb q.level n) (ap (λ z. eqb z.level n) h ∙ eq-eqb n n refl) k

  not_block : (n x : ℕ) (q : Place) → is_block_place tree (other p) (n + 1) q ≡ false → q ≢ place tree (other p) s.depth x n
  not_block n x q k h = unlike (is_block_place tree (other p) (n + 1) q) (ap (is_block_place tree (other p) (n + 1)) h ∙ is_block_place-of tree (other p) (n + 1) n (prefix s.depth x n) (omega arith)) k

  apart : (n : ℕ) (q : Place) → eqb q.level n ≡ true → on_path s.depth s2.alpha q ≡ false → on_path s.depth s.alpha q ≡ true → prefix s.depth s.alpha n ≢ prefix s.depth s2.alpha n
  apart n q l k j h =
      let level : q.level ≡ n = eqb-true q.level n l in
      let mine : q.prefix ≡ prefix s.depth s.alpha n = eqb-true q.prefix (prefix s.depth s.alpha q.level) j ∙ ap (prefix s.depth s.alpha) level in
      unlike (on_path s.depth s2.alpha q) (eq-eqb q.prefix (prefix s.depth s2.alpha q.level) (mine ∙ h ∙ ap (prefix s.depth s2.alpha) (sym level))) k

module _ (kind : TreeKind) (e : Meaning) (p : Provider) (tree : ℕ) (s s2 : Secret) where
  -- a level that isn't mapped yet
  pub ahead : (n pre seed : ℕ) (r : Provider) → mapped_blocks kind e p tree s s2 n (record { tree = tree; provider = r; level = n; prefix = pre }) seed ≡ e.block (record { tree = tree; provider = r; level = n; prefix = pre }) seed
  unfolding mapped_blocks
  ahead n pre seed r =
      let q : Place = record { tree = tree; provider = r; level = n; prefix = pre } in
      let test : ltb n n ≡ false = grind (arith, nat_tests) in
      ap (λ b. exchanged b (on_path s.depth s2.alpha q) (on_path s.depth s.alpha q) (moved_block kind e p tree s s2 n) (e.block (along s.depth s2.alpha q) 0) (e.block q seed))
      (all_three (same_provider (other p) r) (eqb tree tree) (ltb n n) false test ∙ ends (same_provider (other p) r) (eqb tree tree))
    where
      ends : (a b : Bool) → a && (b && false) ≡ false
      ends false b = refl
      ends true false = refl
      ends true true = refl

module _ {A : Type 0} (p : Provider) (tree : ℕ) (s s2 : Secret) (to : ℕ → A) (theirs its : Place → A) where
  -- what stands at q once the first n levels are exchanged
  unfoldable pub done : ℕ → Place → A
  done n q = exchanged (is_block_place tree (other p) n q) (on_path s.depth s2.alpha q) (on_path s.depth s.alpha q) (to q.level) (theirs (along s.depth s2.alpha q)) (its q)

  pub step : (n : ℕ) → (f g : Place → A) → ((q : Place) → f q ≡ done n q)
      → g (place tree (other p) s.depth s2.alpha n) ≡ to n
      → (prefix s.depth s.alpha n ≢ prefix s.depth s2.alpha n → g (place tree (other p) s.depth s.alpha n) ≡ theirs (place tree (other p) s.depth s2.alpha n))
      → ((q : Place) → q ≢ place tree (other p) s.depth s2.alpha n → q ≢ place tree (other p) s.depth s.alpha n → g q ≡ f q)
      → (q : Place) → g q ≡ done (n + 1) q
  unfolding done
  step n f g before second first elsewhere q =
      let on2 = on_path s.depth s2.alpha q in
      let on1 = on_path s.depth s.alpha q in
      let new = to q.level in
      let them = theirs (along s.depth s2.alpha q) in
      let own = its q in
      let here = is_block_place tree (other p) (n + 1) q in
      let was = is_block_place tree (other p) n q in
      split here
      (λ h. split (eqb q.level n)
      (λ l. split on2
      (λ k.
      ap g (path_place p tree s s2 n s2.alpha q h l k) ∙ second ∙ ap to (sym (eqb-true q.level n l))
      ∙ sym (ap (λ b. exchanged b on2 on1 new them own) h ∙ ap (λ b. exchanged true b on1 new them own) k))
      (λ k. split on1
      (λ j.
      let there = path_place p tree s s2 n s.alpha q h l j in
      ap g there ∙ first (apart p tree s s2 n q l k j) ∙ ap (λ z. theirs (along s.depth s2.alpha z)) (sym there)
      ∙ sym (ap (λ b. exchanged b on2 on1 new them own) h ∙ ap (λ b. exchanged true b on1 new them own) k ∙ ap (λ b. cond b them own) j))
      (λ j.
      elsewhere q (not_there p tree s s2 n s2.alpha q k) (not_there p tree s s2 n s.alpha q j) ∙ before q
      ∙ ap₂ (λ a b. exchanged was a b new them own) k j ∙ none was new them own
      ∙ sym (ap₂ (λ a b. exchanged here a b new them own) k j ∙ none here new them own))))
      (λ l. elsewhere q (not_level p tree s s2 n s2.alpha q l) (not_level p tree s s2 n s.alpha q l) ∙ before q
      ∙ ap (λ b. exchanged b on2 on1 new them own) (sym (all_three (same_provider (other p) q.provider) (eqb q.tree tree) (ltb q.level (n + 1)) (ltb q.level n) (level_tests q.level n l)))))
      (λ h. elsewhere q (not_block p tree s s2 n s2.alpha q h) (not_block p tree s s2 n s.alpha q h) ∙ before q
      ∙ ap (λ b. exchanged b on2 on1 new them own) (shorter (same_provider (other p) q.provider) (eqb q.tree tree) q.level n h)
      ∙ sym (ap (λ b. exchanged b on2 on1 new them own) h))

pub entered : (h a b x : Bool) → exchanged h a b true true x ≡ (h && (a || b) || x)
entered false a b x = refl
entered true true b x = refl
entered true false true x = refl
entered true false false x = refl

-- the leaves are exchanged at once
module _ {A : Type 0} (p : Provider) (tree : ℕ) (s s2 : Secret) (to : A) (theirs its : Place → A) where
  leaf_path : (x : ℕ) (q : Place) → is_leaf_place tree (other p) s.depth q ≡ true → on_path s.depth x q ≡ true → q ≡ place tree (other p) s.depth x s.depth
  leaf_path x q h k =
      let parts = each (same_provider (other p) q.provider) (eqb q.tree tree) (eqb q.level s.depth) h in
      ap (λ r. record { tree = q.tree; provider = r; level = q.level; prefix = q.prefix }) (same_provider-true (other p) q.provider parts.0)
      ∙ ap (λ t. record { tree = t; provider = other p; level = q.level; prefix = q.prefix }) (eqb-true q.tree tree parts.1)
      ∙ ap (λ z. record { tree = tree; provider = other p; level = q.level; prefix = z }) (eqb-true q.prefix (prefix s.depth x q.level) k)
      ∙ ap (λ i. place tree (other p) s.depth x i) (eqb-true q.level s.depth parts.2)

  not_leaf : (x : ℕ) (q : Place) → is_leaf_place tree (other p) s.depth q ≡ false → q ≢ place tree (other p) s.depth x s.depth
  not_leaf x q k h = unlike (is_leaf_place tree (other p) s.depth q) (ap (is_leaf_place tree (other p) s.depth) h ∙ is_leaf_place-of tree (other p) s.depth (prefix s.depth x s.depth)) k

  pub leaf_step : (f g : Place → A) → ((q : Place) → f q ≡ its q)
      → g (place tree (other p) s.depth s2.alpha s.depth) ≡ to
      → (prefix s.depth s.alpha s.depth ≢ prefix s.depth s2.alpha s.depth → g (place tree (other p) s.depth s.alpha s.depth) ≡ theirs (place tree (other p) s.depth s2.alpha s.depth))
      → ((q : Place) → q ≢ place tree (other p) s.depth s2.alpha s.depth → q ≢ place tree (other p) s.depth s.alpha s.depth → g q ≡ f q)
      → (q : Place) → g q ≡ exchanged (is_leaf_place tree (other p) s.depth q) (on_path s.depth s2.alpha q) (on_path s.depth s.alpha q) to (theirs (along s.depth s2.alpha q)) (its q)
  leaf_step f g before second first elsewhere q =
      let on2 = on_path s.depth s2.alpha q in
      let on1 = on_path s.depth s.alpha q in
      let them = theirs (along s.depth s2.alpha q) in
      let own = its q in
      let here = is_leaf_place tree (other p) s.depth q in
      split here
      (λ h. split on2
      (λ k.
      ap g (leaf_path s2.alpha q h k) ∙ second
      ∙ sym (ap (λ b. exchanged b on2 on1 to them own) h ∙ ap (λ b. exchanged true b on1 to them own) k))
      (λ k. split on1
      (λ j.
      let there = leaf_path s.alpha q h j in
      let parts = each (same_provider (other p) q.provider) (eqb q.tree tree) (eqb q.level s.depth) h in
      ap g there ∙ first (apart p tree s s2 s.depth q parts.2 k j) ∙ ap (λ z. theirs (along s.depth s2.alpha z)) (sym there)
      ∙ sym (ap (λ b. exchanged b on2 on1 to them own) h ∙ ap (λ b. exchanged true b on1 to them own) k ∙ ap (λ b. cond b them own) j))
      (λ j.
      elsewhere q (not_there p tree s s2 s.depth s2.alpha q k) (not_there p tree s s2 s.depth s.alpha q j) ∙ before q
      ∙ sym (ap₂ (λ a b. exchanged here a b to them own) k j ∙ none here to them own))))
      (λ h. elsewhere q (not_leaf s2.alpha q h) (not_leaf s.alpha q h) ∙ before q
      ∙ sym (ap (λ b. exchanged b on2 on1 to them own) h))

never : (a b : Bool) (i : ℕ) → a && (b && ltb i 0) ≡ false
never false b i = refl
never true false i = refl
never true true i = grind (arith, nat_tests)

-- before the first level
pub unmapped : (kind : TreeKind) (e : Meaning) (p : Provider) (tree : ℕ) (s s2 : Secret) (q : Place) (seed : ℕ) → mapped_blocks kind e p tree s s2 0 q seed ≡ e.block q seed
unfolding mapped_blocks
unmapped kind e p tree s s2 q seed =
    ap (λ b. exchanged b (on_path s.depth s2.alpha q) (on_path s.depth s.alpha q) (moved_block kind e p tree s s2 q.level) (e.block (along s.depth s2.alpha q) 0) (e.block q seed))
    (never (same_provider (other p) q.provider) (eqb q.tree tree) q.level)
