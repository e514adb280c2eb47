-- Folds: the sums, over entries of a number and a cell, of what a function says of the number times the cell, modulo 2^64.
use Rattle.std.specs.Prelude.{◌≡◌, ℕ, ◌*◌, ◌%◌, ◌^◌, ◌<◌, List, length, map, sum_by, slice_index}
use Rattle.std.specs.List.{AllByRecursion, flat_map, range_with_len}
use Rattle.spl_words.specs.Words.{plus}

-- numbers and cells, one cell of `width` words behind the other, are those of some entries
pub record AreEntries (width : ℕ) (entries : List (ℕ × List ℕ)) (numbers cells : List ℕ) : Type 0 where
  pub each_number : numbers ≡ map (λ e. e.0) entries
  pub each_cell : cells ≡ flat_map (λ e. e.1) entries
  pub wide : AllByRecursion (λ e. length e.1 ≡ width) entries

-- word k of a fold: the sum of share times word k of the cell
abbrev pub fold_word : (ℕ → ℕ) → List (ℕ × List ℕ) → ℕ → ℕ
fold_word share entries k = sum_by (λ e. share e.0 * slice_index e.1 k) entries % 2 ^ 64

-- all its words
abbrev pub fold_words : (ℕ → ℕ) → List (ℕ × List ℕ) → ℕ → List ℕ
fold_words share entries width = map (fold_word share entries) (range_with_len 0 width)

-- the first `width` of some words are those of a fold
pub record IsFold (share : ℕ → ℕ) (entries : List (ℕ × List ℕ)) (width : ℕ) (words : List ℕ) : Type 0 where
  pub each : (k : ℕ) → k < width → slice_index words k ≡ fold_word share entries k

-- or they were added to what stood there
pub record Gains (share : ℕ → ℕ) (entries : List (ℕ × List ℕ)) (width : ℕ) (old new : List ℕ) : Type 0 where
  pub each : (k : ℕ) → k < width → slice_index new k ≡ plus (slice_index old k) (fold_word share entries k)
