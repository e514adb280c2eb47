-- The sums key by key are those of the entries that keys and cells are of.
use Rattle.std.proofs.Common.{◌≡◌, ◌<◌, ◌+◌, ◌*◌, ◌%◌, ◌^◌, ℕ, zero, suc, List, [], ◌∷◌, ◌++◌, length, map, refl, sym, ap, ◌∙◌, arith, slice_index, zero-add}
use Rattle.std.specs.List.{AllByRecursion, flat_map, sum_by}
use Rattle.std.proofs.lemmas.List.{get_or-append-add, get_or_append_left}
use Rattle.std.proofs.lemmas.List.Sums.{sum_by-cons}
use Rattle.std.proofs.Math.Nat.{add-mul, zero-mul}
use Rattle.spl_words.specs.Words.{plus}
use Rattle.spl_words.specs.Folds.{AreEntries, IsFold, fold_word}
use Rattle.share_eval.specs.Sums.{GainsEach, sum_below, share_times_word}

-- functions with the same values have the same sums
same_sums : (f g : ℕ → ℕ) (n : ℕ) → ((i : ℕ) → f i ≡ g i) → sum_below f n ≡ sum_below g n
unfolding sum_below
same_sums f g zero h = refl
same_sums f g (suc n) h = rw (same_sums f g n h, h n) refl

-- the first term apart
first_apart : (f : ℕ → ℕ) (n : ℕ) → sum_below f (suc n) ≡ f 0 + sum_below (λ i. f (suc i)) n
unfolding sum_below
first_apart f zero = omega arith
first_apart f (suc n) = let less = first_apart f n in omega (arith, less)

over_entries : (share : ℕ → ℕ) (width k : ℕ) (entries : List (ℕ × List ℕ)) → k < width → AllByRecursion (λ (e : ℕ × List ℕ). length e.1 ≡ width) entries
    → sum_below (share_times_word share (map (λ (e : ℕ × List ℕ). e.0) entries) (flat_map (λ (e : ℕ × List ℕ). e.1) entries) width k) (length (map (λ (e : ℕ × List ℕ). e.0) entries))
    ≡ sum_by (λ (e : ℕ × List ℕ). share e.0 * slice_index e.1 k) entries
unfolding sum_below
over_entries share width k [] h each = refl
over_entries share width k (e ∷ es) h each =
    let keys = map (λ (q : ℕ × List ℕ). q.0) es in
    let cells = flat_map (λ (q : ℕ × List ℕ). q.1) es in
    let f : ℕ → ℕ = share_times_word share (e.0 ∷ keys) (e.1 ++ cells) width k in
    let first : slice_index (e.1 ++ cells) (0 * width + k) ≡ slice_index e.1 k =
    ap (slice_index (e.1 ++ cells)) (ap (λ n. n + k) (zero-mul width) ∙ zero-add k) ∙ get_or_append_left e.1 cells 0 k (omega (arith, each.0)) in
    let later = λ (i : ℕ).
    (let at : suc i * width + k ≡ length e.1 + (i * width + k) = (let split = add-mul i 1 width in omega (arith, split, each.0)) in
    ap (λ s. share (slice_index keys i) * s) (ap (slice_index (e.1 ++ cells)) at ∙ get_or-append-add e.1 cells (i * width + k) 0)) in
    first_apart f (length keys)
    ∙ ap (λ n. n + sum_below (λ i. f (suc i)) (length keys)) (ap (λ s. share e.0 * s) first)
    ∙ ap (λ n. share e.0 * slice_index e.1 k + n) (same_sums (λ i. f (suc i)) (share_times_word share keys cells width k) (length keys) later ∙ over_entries share width k es h each.1)
    ∙ sym (sum_by-cons (λ (q : ℕ × List ℕ). share q.0 * slice_index q.1 k) e es)

-- words that gained the sums key by key, from zeros on, are those of a fold
pub from_zeros : (share : ℕ → ℕ) (keys cells : List ℕ) (width : ℕ) (zeros words : List ℕ) → ((k : ℕ) → k < width → slice_index zeros k ≡ 0) → GainsEach share keys cells width zeros words
    → (entries : List (ℕ × List ℕ)) → AreEntries width entries keys cells → IsFold share entries width words
from_zeros share keys cells width zeros words none gains entries are = record {
  each = λ k h.
      let sum = sum_below (share_times_word share keys cells width k) (length keys) in
      let told : sum ≡ sum_by (λ (e : ℕ × List ℕ). share e.0 * slice_index e.1 k) entries = rw (are.each_number, are.each_cell) (over_entries share width k entries (omega (arith, h)) are.wide) in
      gains.each k h ∙ ap (λ n. plus n sum) (none k h) ∙ ap (λ n. n % 2 ^ 64) (zero-add sum ∙ told);
}
