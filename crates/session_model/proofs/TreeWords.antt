-- The words of an answer tree by tree, and what those of both providers add to.
use Rattle.std.proofs.Common.{◌≡◌, ℕ, suc, ◌+◌, ◌-◌, ◌/◌, ◌^◌, ◌<◌, List, [], ◌∷◌, ◌++◌, length, take, drop, refl, sym, ap, ap₂, ◌∙◌, arith, length-append}
use Rattle.std.specs.Prelude.{map, slice_index}
use Rattle.std.specs.List.{AllByRecursion, flat_map, range_with_len}
use Rattle.std.proofs.Math.Nat.{mod-eq_of_lt}
use Rattle.std.proofs.lemmas.List.{drop-drop, length-map}
use Rattle.std.proofs.lemmas.List.FromFn.{length-range_with_len}
use Rattle.spl_words.specs.Words.{plus}
use Rattle.spl_words.specs.Folds.{fold_word, fold_words}
use Rattle.spl_words.specs.declared.secret.KeySpec.{KeySpec}
use Rattle.spl_words.specs.Secrets.{Secret, IsSecret, secret_tree, secret_value, secrets_value}
use Rattle.spl_words.specs.declared.provider.Provider.{Provider}
use Rattle.spl_words.specs.declared.provider.Provider.TheVariants.{Zero, One}
use Rattle.spl_values.specs.Tables.{TableParts}
use Rattle.cell_merge.specs.Rows.{Row}
use Rattle.cell_merge.specs.Cells.{cell}
use Rattle.cell_merge.specs.TableRows.{adds_in}
use Rattle.cell_merge.proofs.Lists.{each_weaker}
use Rattle.seed_expansion.specs.Expanders.{Meaning, IsPure}
use Rattle.query_reader.specs.declared.checked.Checked.{Checked}
use Rattle.query_reader.specs.Matching.{kept_rows}
use Rattle.key_frames.specs.declared.keys.Key.{Key}
use Rattle.key_frames.specs.Trees.{key_list, key_shares}
use Rattle.key_frames.proofs.TreeLaws.{folds_add}
use Rattle.private_plan.specs.Rounds.{Entries, each_tree}
use Rattle.private_plan.specs.Slots.{IsPointOf}
use Rattle.session_model.specs.Answers.{cells_at, entries_of, entry_width, words_of_fold}
use Rattle.session_model.specs.Cells.{told_by}
use Rattle.session_model.proofs.CellSums.{wordwise}
use Rattle.session_model.proofs.CellWords.{AreWords, word_small}
use Rattle.session_model.proofs.Told.{alone, each_number, fewer_bits, fold_told, same_fold}

-- ---- lists of words

added-map : (f g : ℕ → ℕ) (ks : List ℕ) → wordwise (map f ks) (map g ks) ≡ map (λ k. plus (f k) (g k)) ks
added-map f g [] = refl
added-map f g (k ∷ ks) = ap (λ (l : List ℕ). plus (f k) (g k) ∷ l) (added-map f g ks)

-- a list is what a function gives of its places, where that is the word at each
listed : (f : ℕ → ℕ) (a : ℕ) (words : List ℕ) → ((k : ℕ) → k < length words → f (a + k) ≡ slice_index words k) → map f (range_with_len a (length words)) ≡ words
listed f a [] each = refl
listed f a (w ∷ ws) each =
    let start : a ≡ a + 0 = omega arith in
    let here : f a ≡ w = ap f start ∙ each 0 (omega arith) in
    let more : map f (range_with_len (a + 1) (length ws)) ≡ ws = listed f (a + 1) ws (λ k h. let next : a + 1 + k ≡ a + suc k = omega arith in ap f next ∙ each (suc k) (omega (arith, h))) in
    rw (here, more) refl

-- the words at both places add to the list whose words they add to
pub both_words : (f g : ℕ → ℕ) (words : List ℕ) (n : ℕ) → length words ≡ n → ((k : ℕ) → k < length words → plus (f k) (g k) ≡ slice_index words k)
    → wordwise (map f (range_with_len 0 n)) (map g (range_with_len 0 n)) ≡ words
both_words f g words n whole each =
    added-map f g (range_with_len 0 n)
    ∙ (ap (λ m. map (λ k. plus (f k) (g k)) (range_with_len 0 m)) (sym whole)
    ∙ listed (λ k. plus (f k) (g k)) 0 words (λ k here. let start : 0 + k ≡ k = omega arith in ap (λ (j : ℕ). plus (f j) (g j)) start ∙ each k here))

wordwise_behind : (a b c d : List ℕ) → length a ≡ length b → wordwise (a ++ c) (b ++ d) ≡ wordwise a b ++ wordwise c d
wordwise_behind [] [] c d same = refl
wordwise_behind [] (y ∷ b) c d same = absurd (omega (arith, same))
wordwise_behind (x ∷ a) [] c d same = absurd (omega (arith, same))
wordwise_behind (x ∷ a) (y ∷ b) c d same = ap (λ l. plus x y ∷ l) (wordwise_behind a b c d (omega (arith, same)))

pub length-words : (f : ℕ → ℕ) (n : ℕ) → length (map f (range_with_len 0 n)) ≡ n
length-words f n = length-map (range_with_len 0 n) f ∙ length-range_with_len 0 n

-- ---- tree by tree

-- what the key of a tree with this secret is folded over, and the words that it brings
pub record Tells (s : Secret) (entries : List (ℕ × List ℕ)) (told : List ℕ) : Type 0 where
  pub secret : IsSecret s
  pub fits : AllByRecursion (λ (q : ℕ × List ℕ). AllByRecursion (λ (u : Secret). q.0 < 2 ^ u.depth) (s ∷ [])) entries
  pub words : (k : ℕ) → k < length told → fold_word (secrets_value (s ∷ [])) entries k ≡ slice_index told k

module _ (checked : Checked) (t : TableParts) (entries_for : KeySpec → Entries) where
  -- what a tree's key is folded over
  abbrev pub entries : Secret → List (ℕ × List ℕ)
  entries s = entries_of checked t (entries_for (secret_tree s))

  abbrev pub width : Secret → ℕ
  width s = entry_width checked (entries_for (secret_tree s))

  module _ (e : Meaning) (p : Provider) where
    -- the words that one tree's key brings
    abbrev tree_word : ℕ → Secret → ℕ × ℕ → ℕ → ℕ
    tree_word i s r = fold_word (key_shares e p i (key_list e p i (s ∷ []) (r ∷ []))) (entries s)

    -- those of several trees, numbered from i on
    abbrev pub tree_words : ℕ → List Secret → List (ℕ × ℕ) → List ℕ
    tree_words i (s ∷ ss) (r ∷ rs) = map (tree_word i s r) (range_with_len 0 (width s)) ++ tree_words (i + 1) ss rs
    tree_words i _ _ = []

    -- a fold for each key brings them, where the first tree of the round has the number `start`
    pub by_tree : (start : ℕ) (keys : List Key) (i n : ℕ) (ss : List Secret) (rs : List (ℕ × ℕ)) → start + i ≡ n → length rs ≡ length ss → drop i keys ≡ key_list e p n ss rs
        → flat_map (words_of_fold e p start keys checked t) (each_tree entries_for i (map secret_tree ss)) ≡ tree_words n ss rs
    unfolding each_tree key_list
    by_tree start keys i n [] rs is same here = refl
    by_tree start keys i n (s ∷ ss) [] is same here = absurd (omega (arith, same))
    by_tree start keys i n (s ∷ ss) (r ∷ rs) is same here =
        let first : take 1 (drop i keys) ≡ key_list e p n (s ∷ []) (r ∷ []) = ap (λ ks. take 1 ks) here in
        let rest : drop (i + 1) keys ≡ key_list e p (n + 1) ss rs = sym (drop-drop 1 i keys) ∙ ap (λ ks. drop 1 ks) here in
        ap₂ (λ a b. a ++ b) (ap₂ (λ (m : ℕ) (ks : List Key). fold_words (key_shares e p m ks) (entries s) (width s)) is first) (by_tree start keys (i + 1) (n + 1) ss rs (omega (arith, is)) (omega (arith, same)) rest)

  module _ (told : Secret → List ℕ) (long : (s : Secret) → length (told s) ≡ width s) where
    pub length-tree_words : (e : Meaning) (p : Provider) (i : ℕ) (ss : List Secret) (rs : List (ℕ × ℕ)) → length rs ≡ length ss → length (tree_words e p i ss rs) ≡ length (flat_map told ss)
    length-tree_words e p i [] rs same = refl
    length-tree_words e p i (s ∷ ss) [] same = absurd (omega (arith, same))
    length-tree_words e p i (s ∷ ss) (r ∷ rs) same =
        let here = length-words (tree_word e p i s r) (width s) in
        let more = length-tree_words e p (i + 1) ss rs (omega (arith, same)) in
        length-append (map (tree_word e p i s r) (range_with_len 0 (width s))) (tree_words e p (i + 1) ss rs)
        ∙ (ap₂ (λ a b. a + b) (here ∙ sym (long s)) more ∙ sym (length-append (told s) (flat_map told ss)))

    -- ---- both providers

    module _ (e : Meaning) (pure : IsPure e) where
      word_adds : (i : ℕ) (s : Secret) (r : ℕ × ℕ) (k : ℕ) → Tells s (entries s) (told s) → k < length (told s) → plus (tree_word e Zero i s r k) (tree_word e One i s r k) ≡ slice_index (told s) k
      word_adds i s r k tells here = folds_add e pure i (s ∷ []) (r ∷ []) (entries s) k refl (tells.secret, tt) tells.fits ∙ tells.words k here

      tree_adds : (i : ℕ) (s : Secret) (r : ℕ × ℕ) → Tells s (entries s) (told s)
          → wordwise (map (tree_word e Zero i s r) (range_with_len 0 (width s))) (map (tree_word e One i s r) (range_with_len 0 (width s))) ≡ told s
      tree_adds i s r tells = both_words (tree_word e Zero i s r) (tree_word e One i s r) (told s) (width s) (long s) (λ k here. word_adds i s r k tells here)

      pub trees_add : (i : ℕ) (ss : List Secret) (rs : List (ℕ × ℕ)) → length rs ≡ length ss → AllByRecursion (λ s. Tells s (entries s) (told s)) ss
          → wordwise (tree_words e Zero i ss rs) (tree_words e One i ss rs) ≡ flat_map told ss
      trees_add i [] rs same each = refl
      trees_add i (s ∷ ss) [] same each = absurd (omega (arith, same))
      trees_add i (s ∷ ss) (r ∷ rs) same each =
          let one = length-words (tree_word e Zero i s r) (width s) in
          let other = length-words (tree_word e One i s r) (width s) in
          wordwise_behind (map (tree_word e Zero i s r) (range_with_len 0 (width s))) (map (tree_word e One i s r) (range_with_len 0 (width s))) (tree_words e Zero (i + 1) ss rs) (tree_words e One (i + 1) ss rs) (one ∙ sym other)
          ∙ ap₂ (λ a b. a ++ b) (tree_adds i s r each.0) (trees_add (i + 1) ss rs (omega (arith, same)) each.1)

-- ---- trees that bring a cell each

module _ (checked : Checked) (t : TableParts) (number : Row → ℕ) (bits : ℕ) (below : AllByRecursion (λ r. number r < 2 ^ bits) (kept_rows checked t)) where
  -- the cell of the rows that a secret tells by a number
  abbrev pub told_cell : Secret → List ℕ
  told_cell s = cell (adds_in t.shape.schema.columns) checked.spec (told_by checked t number bits s)

  short : Secret → Row → ℕ
  short s r = number r / 2 ^ (bits - s.depth)

  numbers_fit : (s : Secret) → IsPointOf bits s → AllByRecursion (λ (q : ℕ × List ℕ). AllByRecursion (λ (u : Secret). q.0 < 2 ^ u.depth) (s ∷ [])) (cells_at checked t number (bits - s.depth))
  unfolding short
  numbers_fit s is =
      let P : ℕ → Type 0 = λ n. AllByRecursion (λ (u : Secret). n < 2 ^ u.depth) (s ∷ []) in
      each_number P (adds_in t.shape.schema.columns) checked.spec (short s) (kept_rows checked t)
      (each_weaker (λ r. number r < 2 ^ bits) (λ r. P (short s r)) (λ r h. (fewer_bits bits s.depth (number r) is.inside h, tt)) (kept_rows checked t) below)

  -- a point brings the cell of the rows that it tells
  point_tells : (s : Secret) → AreWords (told_cell s) → IsPointOf bits s → Tells s (cells_at checked t number (bits - s.depth)) (told_cell s)
  unfolding short
  point_tells s small is = record {
    secret = record { number = is.number; word = omega (arith, is.once) };
    fits = numbers_fit s is;
    words = λ k here.
        same_fold (secrets_value (s ∷ [])) (secret_value s) (λ x. alone s x is.is_point is.once) (cells_at checked t number (bits - s.depth)) k
        ∙ (fold_told (adds_in t.shape.schema.columns) checked.spec (short s) (kept_rows checked t) s is.is_point is.once k ∙ mod-eq_of_lt (word_small (told_cell s) k small here));
  }

  pub points_tell : ((s : Secret) → AreWords (told_cell s)) → (ss : List Secret) → AllByRecursion (IsPointOf bits) ss → AllByRecursion (λ s. Tells s (cells_at checked t number (bits - s.depth)) (told_cell s)) ss
  points_tell small ss = each_weaker (IsPointOf bits) (λ s. Tells s (cells_at checked t number (bits - s.depth)) (told_cell s)) (λ s is. point_tells s (small s) is) ss
