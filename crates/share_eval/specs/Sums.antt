-- The sums of shares times cells, key by key.
use Rattle.std.specs.Prelude.{◌≡◌, ℕ, ◌+◌, ◌*◌, ◌<◌, zero, suc, List, length, slice_index}
use Rattle.spl_words.specs.Words.{plus}

-- f 0 + f 1 + .. + f (n - 1)
unfoldable pub sum_below : (ℕ → ℕ) → ℕ → ℕ
sum_below f zero = 0
sum_below f (suc n) = sum_below f n + f n

-- the share at key i times word k of cell i; cell i is the i-th run of `width` words
abbrev pub share_times_word : (ℕ → ℕ) → List ℕ → List ℕ → ℕ → ℕ → ℕ → ℕ
share_times_word share keys cells width k i = share (slice_index keys i) * slice_index cells (i * width + k)

-- the sum of these over all keys was added to each word
pub record GainsEach (share : ℕ → ℕ) (keys cells : List ℕ) (width : ℕ) (old new : List ℕ) : Type 0 where
  pub each : (k : ℕ) → k < width → slice_index new k ≡ plus (slice_index old k) (sum_below (share_times_word share keys cells width k) (length keys))
