-- Good words, word by word and block by block.
use Rattle.std.proofs.Common.{◌≡◌, ℕ, suc, ◌+◌, ◌*◌, ◌<◌, Bool, true, false, cond, List, [], ◌∷◌, ◌++◌, length, take, drop, get_or, Ok, Err, refl, sym, ap, ◌∙◌, arith}
use Rattle.std.specs.List.{AllZip}
use Rattle.std.proofs.lemmas.List.{drop_all}
use Rattle.std.proofs.lemmas.Nat.{mod-mul-add}
use Rattle.std.proofs.Math.Seq.{drop-cons, drop-length}
use Rattle.spl_values.specs.Shapes.{ColumnParts}
use Rattle.cell_merge.specs.declared.spec.CellItem.{CellItem}
use Rattle.cell_merge.specs.Cells.{block_width}
use Rattle.combiner.specs.declared.checking.WordKind.{WordKind}
use Rattle.combiner.specs.declared.checking.WordKind.TheVariants as kind
use Rattle.combiner.specs.declared.finals.FinalFault.TheVariants.{BadWord}
use Rattle.combiner.specs.GoodWords.{block_kinds, good_words, is_good, kind_at}
use Rattle.combiner.proofs.WordKinds.{length-block_kinds}

module _ (columns : List ColumnParts) (rows : ℕ) where
  -- each word is good, for the kind of the word at its place
  abbrev pub EachGood : List WordKind → List ℕ → Type 0
  EachGood ks ws = AllZip (λ k w. is_good columns rows k w ≡ true) ks ws

  pub parts_good : (ks ls : List WordKind) (ws : List ℕ) → EachGood (ks ++ ls) ws → EachGood ks (take (length ks) ws) × EachGood ls (drop (length ks) ws)
  parts_good [] ls ws h = (tt, h)
  parts_good (k ∷ ks) ls [] h = absurd h
  parts_good (k ∷ ks) ls (w ∷ ws) h = let more = parts_good ks ls ws h.1 in ((h.0, more.0), more.1)

  pub good_parts : (ks ls : List WordKind) (us ws : List ℕ) → EachGood ks us → EachGood ls ws → EachGood (ks ++ ls) (us ++ ws)
  good_parts [] ls [] ws h g = g
  good_parts [] ls (u ∷ us) ws h g = absurd h
  good_parts (k ∷ ks) ls [] ws h g = absurd h
  good_parts (k ∷ ks) ls (u ∷ us) ws h g = (h.0, good_parts ks ls us ws h.1 g)

-- ---- at their places

module _ (columns : List ColumnParts) (items : List CellItem) (rows : ℕ) where
  -- ---- word by word

  pub good_here : (place : ℕ) (words : List ℕ) → place < length words → is_good columns rows (kind_at items place) (get_or words place 0) ≡ true
      → good_words columns items rows place (drop place words) ≡ good_words columns items rows (place + 1) (drop (place + 1) words)
  unfolding good_words
  good_here place words at good =
      let next : suc place ≡ place + 1 = omega arith in
      rw (drop-cons words place 0 at, good) (ap (λ (i : ℕ). good_words columns items rows (place + 1) (drop i words)) next)

  pub bad_here : (place : ℕ) (words : List ℕ) → place < length words → is_good columns rows (kind_at items place) (get_or words place 0) ≡ false
      → good_words columns items rows place (drop place words) ≡ Err (BadWord place (get_or words place 0))
  unfolding good_words
  bad_here place words at bad = rw (drop-cons words place 0 at, bad) refl

  pub good_end : (place : ℕ) (words : List ℕ) → length words ≡ place → good_words columns items rows place (drop place words) ≡ Ok tt
  unfolding good_words
  good_end place words end = rw (sym end, drop-length words) refl

  -- ---- words and others behind them

  -- what the first word tells of all
  passed : (b : Bool) (place w : ℕ) (ws : List ℕ) → cond b (good_words columns items rows (place + 1) ws) (Err (BadWord place w)) ≡ Ok tt → (b ≡ true) × (good_words columns items rows (place + 1) ws ≡ Ok tt)
  passed true place w ws e = (refl, e)
  passed false place w ws e = absurd cc

  pub good_before : (place : ℕ) (a b : List ℕ) → good_words columns items rows place a ≡ Ok tt → good_words columns items rows place (a ++ b) ≡ good_words columns items rows (place + length a) b
  unfolding good_words
  good_before place [] b good = ap (λ (p : ℕ). good_words columns items rows p b) (omega arith)
  good_before place (w ∷ ws) b good =
      let both = passed (is_good columns rows (kind_at items place) w) place w ws good in
      let here : is_good columns rows (kind_at items place) w ≡ true = both.0 in
      rw here (good_before (place + 1) ws b both.1 ∙ ap (λ (p : ℕ). good_words columns items rows p b) (omega arith))

  pub good_first : (place : ℕ) (a b : List ℕ) → good_words columns items rows place (a ++ b) ≡ Ok tt → good_words columns items rows place a ≡ Ok tt
  unfolding good_words
  good_first place [] b good = refl
  good_first place (w ∷ ws) b good =
      let both = passed (is_good columns rows (kind_at items place) w) place w (ws ++ b) good in
      let here : is_good columns rows (kind_at items place) w ≡ true = both.0 in
      rw here (good_first (place + 1) ws b both.1)

  pub good_behind : (place : ℕ) (a b : List ℕ) → good_words columns items rows place (a ++ b) ≡ Ok tt → good_words columns items rows (place + length a) b ≡ Ok tt
  good_behind place a b good = sym (good_before place a b (good_first place a b good)) ∙ good

  -- ---- the words of a block

  kind_inside : (i j : ℕ) → j < block_width items → kind_at items (i * block_width items + j) ≡ get_or (block_kinds items) j kind.Sum
  kind_inside i j inside = ap (λ (p : ℕ). get_or (block_kinds items) p kind.Sum) (mod-mul-add i (block_width items) j inside)

  pub good_inside : (i j : ℕ) (words : List ℕ) → j + length words ≡ block_width items → good_words columns items rows (i * block_width items + j) words ≡ Ok tt → EachGood columns rows (drop j (block_kinds items)) words
  unfolding good_words
  good_inside i j [] end good = let long = length-block_kinds items in rw (drop_all j (block_kinds items) (omega arith)) tt
  good_inside i j (w ∷ ws) end good =
      let long = length-block_kinds items in
      let at : j < length (block_kinds items) = omega arith in
      let both = passed (is_good columns rows (kind_at items (i * block_width items + j)) w) (i * block_width items + j) w ws good in
      let here : is_good columns rows (get_or (block_kinds items) j kind.Sum) w ≡ true = ap (λ (k : WordKind). is_good columns rows k w) (sym (kind_inside i j (omega arith))) ∙ both.0 in
      let next : i * block_width items + j + 1 ≡ i * block_width items + suc j = omega arith in
      let more : good_words columns items rows (i * block_width items + suc j) ws ≡ Ok tt = ap (λ (p : ℕ). good_words columns items rows p ws) (sym next) ∙ both.1 in
      rw (drop-cons (block_kinds items) j kind.Sum at) (here, good_inside i (suc j) ws (omega arith) more)

  pub inside_good : (i j : ℕ) (words : List ℕ) → j + length words ≡ block_width items → EachGood columns rows (drop j (block_kinds items)) words → good_words columns items rows (i * block_width items + j) words ≡ Ok tt
  unfolding good_words
  inside_good i j [] end good = refl
  inside_good i j (w ∷ ws) end good =
      let long = length-block_kinds items in
      let at : j < length (block_kinds items) = omega arith in
      let each = rw (drop-cons (block_kinds items) j kind.Sum at) at good in
      let here : is_good columns rows (kind_at items (i * block_width items + j)) w ≡ true = ap (λ (k : WordKind). is_good columns rows k w) (kind_inside i j (omega arith)) ∙ each.0 in
      let next : i * block_width items + j + 1 ≡ i * block_width items + suc j = omega arith in
      rw here (ap (λ (p : ℕ). good_words columns items rows p ws) next ∙ inside_good i (suc j) ws (omega arith) each.1)

  pub good_block : (i : ℕ) (words : List ℕ) → length words ≡ block_width items → good_words columns items rows (i * block_width items) words ≡ Ok tt → EachGood columns rows (block_kinds items) words
  good_block i words long good =
      let first : i * block_width items ≡ i * block_width items + 0 = omega arith in
      good_inside i 0 words (omega (arith, long)) (ap (λ (p : ℕ). good_words columns items rows p words) (sym first) ∙ good)

  pub block_good : (i : ℕ) (words : List ℕ) → length words ≡ block_width items → EachGood columns rows (block_kinds items) words → good_words columns items rows (i * block_width items) words ≡ Ok tt
  block_good i words long good =
      let first : i * block_width items ≡ i * block_width items + 0 = omega arith in
      ap (λ (p : ℕ). good_words columns items rows p words) first ∙ inside_good i 0 words (omega (arith, long)) good
