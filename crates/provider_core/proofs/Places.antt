-- The words of an answer by places: each key's words stand in its own.
use Rattle.std.proofs.Common.{◌≡◌, ◌<◌, ◌≤◌, ◌+◌, ◌-◌, ◌*◌, ℕ, suc, Bool, true, false, cond, List, [], ◌∷◌, ◌++◌, length, take, drop, Some, refl, sym, ap, ap₂, ◌∙◌, arith, slice_get, length-drop, inl, inr}
use Rattle.std.proofs.lemmas.Bool.{cases_order}
use Rattle.std.proofs.lemmas.List.{drop-drop, drop-take, take-append-drop, take-append-le, take-take, take_at, drop-append-le, drop_at, length-take-le}
use Rattle.std.proofs.lemmas.List.FromFn.{fill_by_all}
use Rattle.std.proofs.lemmas.Option.{same_Some, slice_get_within}
use Rattle.std.proofs.lemmas.Slice.{drop-put_mid}
use Rattle.std.proofs.Math.Nat.{add-mul, zero-mul, mul-le-mul_right}
use borrow.Rule.Slice.PartMut.{put_mid}
use Rattle.spl_words.specs.Folds.{IsFold, fold_word, fold_words}
use Rattle.key_frames.specs.declared.keys.Key.{Key}
use Rattle.provider_core.specs.Cells.{words_at}

-- ---- a part that is written over

-- the places before a part
place_below : (width i at k : ℕ) (words out : List ℕ) → i * width + width ≤ at → at ≤ length words → words_at width i (put_mid at k words out) ≡ words_at width i words
place_below width i at k words out h inside =
    let rest = out ++ drop k (drop at words) in
    let start = i * width in
    let front : length (take at words) ≡ at = length-take-le at words inside in
    let apart : start + (at - start) ≡ at = omega (arith, h) in
    let long : length (take (at - start) (drop start words)) ≡ at - start = length-take-le (at - start) (drop start words) (omega (arith, length-drop start words, inside, h)) in
    ap (take width) (drop-append-le start (take at words) rest (omega (arith, front, h)) ∙ ap (λ n. drop start (take n words) ++ rest) (sym apart) ∙ ap (λ l. l ++ rest) (drop-take start (at - start) words))
    ∙ take-append-le width (take (at - start) (drop start words)) rest (omega (arith, long, h))
    ∙ take-take width (at - start) (drop start words) (omega (arith, h))

-- the part itself
place_there : (width i at k : ℕ) (words out : List ℕ) → at ≡ i * width → at ≤ length words → length out ≡ width → words_at width i (put_mid at k words out) ≡ out
place_there width i at k words out is inside long =
    ap (λ n. take width (drop n (put_mid at k words out))) (sym is)
    ∙ ap (take width) (drop_at (take at words) _ at (length-take-le at words inside))
    ∙ take_at out _ width long

-- the places behind it
place_above : (width i at k : ℕ) (words out : List ℕ) → at + k ≤ i * width → at ≤ length words → length out ≡ k → words_at width i (put_mid at k words out) ≡ words_at width i words
place_above width i at k words out h inside long = ap (take width) (drop-put_mid at k words out (i * width) h inside long)

pub next_place : (width i j : ℕ) → i < j → i * width + width ≤ j * width
next_place width i j h =
    let up : (i + 1) * width ≤ j * width = mul-le-mul_right width (omega (arith, h)) in
    let split : (i + 1) * width ≡ i * width + 1 * width = add-mul i 1 width in
    omega (arith, up, split)

-- a key's words are set in its place
pub place_set : (width t n : ℕ) (words out : List ℕ) (k : ℕ) → k ≡ width → t < n → length words ≡ n * width → length out ≡ width → words_at width t (put_mid (t * width) k words out) ≡ out
place_set width t n words out k is inside whole long =
    let room = next_place width t n inside in
    place_there width t (t * width) k words out refl (omega (arith, room, whole)) long

-- and those of the other keys stay
pub place_kept : (width t n i : ℕ) (words out : List ℕ) (k : ℕ) → k ≡ width → t < n → length words ≡ n * width → length out ≡ width → (i ≡ t → ⊥) → words_at width i (put_mid (t * width) k words out) ≡ words_at width i words
place_kept width t n i words out k is inside whole long other =
    let room = next_place width t n inside in
    let within : t * width ≤ length words = omega (arith, room, whole) in
    elim (cases_order i t) [
      | inl same ↦ absurd (other same)
      | inr apart ↦ elim apart [
        | inl below ↦ place_below width i (t * width) k words out (next_place width i t below) within
        | inr above ↦ (let next = next_place width t i above in place_above width i (t * width) k words out (omega (arith, next, is)) within (long ∙ sym is))
      ]
    ]

-- ---- one key after another

-- the keys before t that pass have what f says in their places, and the others what stood there
pub record AreSet (width t : ℕ) (keys : List Key) (passes : Key → Bool) (f : ℕ → Key → List ℕ) (old new : List ℕ) : Type 0 where
  pub set : (i : ℕ) (key : Key) → slice_get keys i ≡ Some key → i < t → words_at width i new ≡ cond (passes key) (f i key) (words_at width i old)
  pub kept : (i : ℕ) (key : Key) → slice_get keys i ≡ Some key → t ≤ i → words_at width i new ≡ words_at width i old

module _ (width : ℕ) (keys : List Key) (passes : Key → Bool) (f : ℕ → Key → List ℕ) (old : List ℕ) where
  pub none_set : AreSet width 0 keys passes f old old
  none_set = record { set = λ i key h below. absurd (omega (arith, below)); kept = λ i key h above. refl }

  module _ (t : ℕ) (k : Key) (words : List ℕ) (here : slice_get keys t ≡ Some k) (are : AreSet width t keys passes f old words) where
    -- a key that doesn't pass
    pub one_kept : passes k ≡ false → AreSet width (t + 1) keys passes f old words
    one_kept fails = record {
      set = λ i key h below. elim (cases_order i t) [
        | inl same ↦ (let is : key ≡ k = same_Some key k (sym h ∙ ap (slice_get keys) same ∙ here) in are.kept i key h (omega (arith, same)) ∙ ap (λ b. cond b (f i key) (words_at width i old)) (sym (ap passes is ∙ fails)))
        | inr apart ↦ elim apart [ inl less ↦ are.set i key h less | inr more ↦ absurd (omega (arith, below, more)) ]
      ];
      kept = λ i key h above. are.kept i key h (omega (arith, above));
    }

    -- a key that passes
    pub one_set : (out : List ℕ) (size : ℕ) → size ≡ width → passes k ≡ true → out ≡ f t k → length out ≡ width → length words ≡ length keys * width → AreSet width (t + 1) keys passes f old (put_mid (t * width) size words out)
    one_set out size is holds out-is long whole =
        let inside = slice_get_within keys t k here in
        let stays : (i : ℕ) → (i ≡ t → ⊥) → words_at width i (put_mid (t * width) size words out) ≡ words_at width i words = λ i other. place_kept width t (length keys) i words out size is inside whole long other in
        record {
          set = λ i key h below. elim (cases_order i t) [
            | inl same ↦ (let at : key ≡ k = same_Some key k (sym h ∙ ap (slice_get keys) same ∙ here) in
                ap (λ n. words_at width n (put_mid (t * width) size words out)) same ∙ place_set width t (length keys) words out size is inside whole long ∙ out-is ∙ ap₂ f (sym same) (sym at)
                ∙ ap (λ b. cond b (f i key) (words_at width i old)) (sym (ap passes at ∙ holds)))
            | inr apart ↦ elim apart [ inl less ↦ stays i (λ same. omega (arith, same, less)) ∙ are.set i key h less | inr more ↦ absurd (omega (arith, below, more)) ]
          ];
          kept = λ i key h above. stays i (λ same. omega (arith, same, above)) ∙ are.kept i key h (omega (arith, above));
        }

  -- all keys
  pub all_set : (t : ℕ) (words : List ℕ) → length keys ≤ t → AreSet width t keys passes f old words → (i : ℕ) (key : Key) → slice_get keys i ≡ Some key → words_at width i words ≡ cond (passes key) (f i key) (words_at width i old)
  all_set t words end are i key h = (let inside = slice_get_within keys i key h in are.set i key h (omega (arith, inside, end)))

-- words that are those of a fold
pub fold_is : (share : ℕ → ℕ) (entries : List (ℕ × List ℕ)) (width : ℕ) (words : List ℕ) → IsFold share entries width words → length words ≡ width → words ≡ fold_words share entries width
fold_is share entries width words is long = fill_by_all (fold_word share entries) words width 0 long is.each

-- ---- all places

-- what each of some keys, counted from i, has, one after another
abbrev pub numbered : (ℕ → Key → List ℕ) → ℕ → List Key → List ℕ
numbered f i [] = []
numbered f i (k ∷ ks) = f i k ++ numbered f (i + 1) ks

no_words : (words : List ℕ) → length words ≡ 0 → words ≡ []
no_words [] h = refl
no_words (x ∷ xs) h = absurd (omega (arith, h))

-- words of which each key's are in its place
pub all_places : (width : ℕ) (f : ℕ → Key → List ℕ) (i : ℕ) (ks : List Key) (words : List ℕ) → length words ≡ length ks * width
    → ((j : ℕ) (k : Key) → slice_get ks j ≡ Some k → words_at width j words ≡ f (i + j) k) → words ≡ numbered f i ks
all_places width f i [] words whole each = no_words words (omega (arith, whole, zero-mul width))
all_places width f i (k ∷ ks) words whole each =
    let split : (length ks + 1) * width ≡ length ks * width + 1 * width = add-mul (length ks) 1 width in
    let rest : length (drop width words) ≡ length ks * width = omega (arith, length-drop width words, whole, split) in
    let none : 0 * width ≡ 0 = zero-mul width in
    let here : take width words ≡ f i k = ap (λ n. take width (drop n words)) (sym none) ∙ each 0 k refl ∙ ap (λ n. f n k) (let e : i + 0 ≡ i = omega arith in e) in
    let later = all_places width f (i + 1) ks (drop width words) rest (λ j key h. ap (take width) (drop-drop (j * width) width words ∙ ap (λ n. drop n words) (next j)) ∙ each (suc j) key h ∙ ap (λ n. f n key) (let e : i + suc j ≡ i + 1 + j = omega arith in e)) in
    sym (take-append-drop width words) ∙ ap₂ (λ a b. a ++ b) here later
  where
    next : (j : ℕ) → width + j * width ≡ suc j * width
    next j =
        let split : (1 + j) * width ≡ 1 * width + j * width = add-mul 1 j width in
        let same : suc j ≡ 1 + j = omega arith in
        let whole : (1 + j) * width ≡ width + j * width = omega (arith, split) in
        sym (ap (λ n. n * width) same ∙ whole)
