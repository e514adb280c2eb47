-- The words of an answer with some for each key are those of the keys, one after another.
use Rattle.std.proofs.Common.{◌≡◌, ◌<◌, ◌+◌, ◌-◌, ℕ, Bool, true, false, cond, eqb, Some, slice_get, ◌≤◌, List, [], ◌∷◌, ◌++◌, map, take, drop, refl, sym, ap, ap₂, ◌∙◌, arith}
use Rattle.std.specs.List.{AllByRecursion, flat_map}
use Rattle.std.proofs.lemmas.Bool.{eqb-true, eqb-false}
use Rattle.std.proofs.lemmas.List.{drop-drop}
use Rattle.std.proofs.Math.Nat.{add-zero}
use Rattle.spl_words.specs.Folds.{AreEntries, fold_words}
use Rattle.spl_words.specs.declared.provider.Provider.{Provider}
use Rattle.spl_words.specs.declared.secret.KeySpec.{KeySpec}
use Rattle.spl_values.specs.Tables.{TableParts}
use Rattle.cell_merge.specs.Cells.{cell_width}
use Rattle.seed_expansion.specs.Expanders.{Meaning}
use Rattle.key_frames.specs.declared.keys.Key.{Key}
use Rattle.key_frames.specs.Keys.{depth}
use Rattle.key_frames.specs.Trees.{key_share, key_shares, key_tree}
use Rattle.query_reader.specs.declared.checked.Checked.{Checked}
use Rattle.private_plan.specs.declared.plans.PlanKind.{PlanKind}
use Rattle.private_plan.specs.declared.plans.PlanKind.TheVariants as kind
use Rattle.private_plan.specs.Plans.{plan_of}
use Rattle.private_plan.specs.Lengths.{trees_in}
use Rattle.private_plan.specs.Rounds.{Entries, each_tree, first_depth, first_tree, folds_for}
use Rattle.session_model.specs.Answers.{answer_words, entries_of, entry_width, words_of_fold}
use Rattle.session_model.proofs.Plans.{folds_are}
use Rattle.provider_core.specs.Cells.{by_number, words_at}
use Rattle.provider_core.proofs.Places.{numbered}

-- ---- the words of folds with a key each

module _ (e : Meaning) (p : Provider) (tree : ℕ) (checked : Checked) (t : TableParts) (entries : KeySpec → Entries) where
  -- the words of key i: its shares over the entries of its tree
  abbrev pub words_of_key : ℕ → Key → List ℕ
  words_of_key i k = fold_words (key_share e p (tree + i) k) (entries_of checked t (entries (key_tree k))) (entry_width checked (entries (key_tree k)))

  one_share : (i : ℕ) (k : Key) (x : ℕ) → key_shares e p (tree + i) (k ∷ []) x ≡ key_share e p (tree + i) k x
  unfolding key_shares
  one_share i k x = add-zero (key_share e p (tree + i) k x)

  one_key : (keys : List Key) (i : ℕ) (k : Key) (ks : List Key) → drop i keys ≡ k ∷ ks
      → words_of_fold e p tree keys checked t (record { first = i; count = 1; entries = entries (key_tree k) }) ≡ words_of_key i k
  one_key keys i k ks here =
      let words = λ (share : ℕ → ℕ). fold_words share (entries_of checked t (entries (key_tree k))) (entry_width checked (entries (key_tree k))) in
      ap (λ (l : List Key). words (key_shares e p (tree + i) (take 1 l))) here ∙ ap words (λ j x. one_share i k x j)

  each_words : (keys : List Key) (i : ℕ) (ks : List Key) → drop i keys ≡ ks
      → flat_map (words_of_fold e p tree keys checked t) (each_tree entries i (map key_tree ks)) ≡ numbered words_of_key i ks
  unfolding each_tree
  each_words keys i [] here = refl
  each_words keys i (k ∷ ks) here = ap₂ (λ a b. a ++ b) (one_key keys i k ks here) (each_words keys (i + 1) ks (sym (drop-drop 1 i keys) ∙ ap (drop 1) here))

-- the words of an answer whose folds have a key each
pub keys_answer : (e : Meaning) (p : Provider) (checked : Checked) (t : TableParts) (round : ℕ) (keys : List Key) (entries : KeySpec → Entries)
    → trees_in (plan_of checked t.shape) round ≡ map key_tree keys → folds_for (plan_of checked t.shape).kind round (map key_tree keys) ≡ each_tree entries 0 (map key_tree keys)
    → answer_words e p round keys checked t ≡ numbered (words_of_key e p (first_tree (plan_of checked t.shape) round) checked t entries) 0 keys
unfolding answer_words
keys_answer e p checked t round keys entries trees folds =
    let plan = plan_of checked t.shape in
    ap (λ (ts : List KeySpec). flat_map (words_of_fold e p (first_tree plan round) keys checked t) (folds_for plan.kind round ts)) trees
    ∙ ap (flat_map (words_of_fold e p (first_tree plan round) keys checked t)) folds
    ∙ each_words e p (first_tree plan round) checked t entries keys 0 keys refl

-- the folds of trees that bring a cell each: over the cells of the round without the bits by which the tree is less deep than the first
pub level_folds : (k : PlanKind) (round : ℕ) (trees : List KeySpec) → (k ≡ kind.Sum → ⊥) → ((k ≡ kind.Position → ⊥) → round ≡ 1) → (k ≡ kind.Position → round ≡ 2)
    → (k ≡ kind.Point → AllByRecursion (λ (t : KeySpec). t.depth ≡ first_depth trees) trees) → folds_for k round trees ≡ each_tree (λ t. by_number round (first_depth trees - t.depth)) 0 trees
level_folds kind.Sum round trees sum one two deep = absurd (sum refl)
level_folds kind.Point round trees sum one two deep = (let first : round ≡ 1 = one (λ is. cc) in rw first (folds_are (first_depth trees) kind.Point trees refl refl deep))
level_folds kind.Aligned round trees sum one two deep = (let first : round ≡ 1 = one (λ is. cc) in rw first refl)
level_folds kind.Position round trees sum one two deep = (let second : round ≡ 2 = two refl in rw second refl)

-- ---- one level more

module _ (e : Meaning) (p : Provider) (tree : ℕ) (checked : Checked) (t : TableParts) (round bits : ℕ) where
  -- the words of key i: its shares over the cells of its level
  abbrev pub level_words : ℕ → Key → List ℕ
  level_words i k = fold_words (key_share e p (tree + i) k) (entries_of checked t (by_number round (bits - depth k))) (cell_width checked.spec)

  level_here : (level n d : ℕ) (f : ℕ → List ℕ) (old new : List ℕ) → level ≤ bits → n ≡ bits - level → bits < d + (level + 1)
      → new ≡ cond (eqb d n) (f level) old → (bits < d + level → old ≡ f (bits - d)) → new ≡ f (bits - d)
  level_here level n d f old new inside is reached told before = by_test (eqb d n) refl told
    where
      by_test : (b : Bool) → eqb d n ≡ b → new ≡ cond b (f level) old → new ≡ f (bits - d)
      by_test true e here = (let same = eqb-true d n e in let at : level ≡ bits - d = omega (arith, same, is, inside) in here ∙ ap f at)
      by_test false e here = (let other = eqb-false d n e in here ∙ before (omega (arith, other, is, inside, reached)))

  -- the keys of one level more have their words
  pub level_more : (keys : List Key) (level n width : ℕ) (numbers cells old new : List ℕ) → level ≤ bits → n ≡ bits - level → width ≡ cell_width checked.spec
      → AreEntries (cell_width checked.spec) (entries_of checked t (by_number round level)) numbers cells
      → ((entries : List (ℕ × List ℕ)) → AreEntries width entries numbers cells → (i : ℕ) (key : Key) → slice_get keys i ≡ Some key
      → words_at width i new ≡ cond (eqb (depth key) n) (fold_words (key_share e p (tree + i) key) entries width) (words_at width i old))
      → ((i : ℕ) (key : Key) → slice_get keys i ≡ Some key → bits < depth key + level → words_at (cell_width checked.spec) i old ≡ level_words i key)
      → (i : ℕ) (key : Key) → slice_get keys i ≡ Some key → bits < depth key + (level + 1) → words_at (cell_width checked.spec) i new ≡ level_words i key
  level_more keys level n width numbers cells old new inside is wide are told before i key h reached =
      let w = cell_width checked.spec in
      level_here level n (depth key) (λ l. fold_words (key_share e p (tree + i) key) (entries_of checked t (by_number round l)) w) (words_at w i old) (words_at w i new) inside is reached
      ((rw wide at told) (entries_of checked t (by_number round level)) are i key h) (before i key h)
