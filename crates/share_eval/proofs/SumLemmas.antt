-- Sums that grow by a term at a time.
use Rattle.std.proofs.Common.{◌≡◌, ℕ, ◌+◌, ◌%◌, ◌^◌, ◌<◌, refl, ap, sym, ◌∙◌, add_assoc, add-one}
use Rattle.std.proofs.Math.Nat.{add-zero, mod-add-mod, mod-eq_of_lt}
use Rattle.spl_words.specs.Words.{plus}
use Rattle.share_eval.specs.Sums.{sum_below}

-- nothing is added yet
pub none_added : (f : ℕ → ℕ) (x : ℕ) → x < 2 ^ 64 → x ≡ plus x (sum_below f 0)
unfolding sum_below
none_added f x h = rw add-zero (sym (mod-eq_of_lt h))

-- the sum with one more term
pub sum_below-add-one : (f : ℕ → ℕ) (n : ℕ) → sum_below f (n + 1) ≡ sum_below f n + f n
unfolding sum_below
sum_below-add-one f n = rw add-one refl

-- two additions are one
pub one_added : (x s y t z : ℕ) → y ≡ plus x s → z ≡ plus y t → z ≡ plus x (s + t)
one_added x s y t z p q = q ∙ (ap (λ w. (w + t) % 2 ^ 64) p ∙ (mod-add-mod (x + s) (2 ^ 64) t ∙ ap (λ w. w % 2 ^ 64) (add_assoc x s t)))
