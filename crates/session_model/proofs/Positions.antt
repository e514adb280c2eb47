-- Which positions the kept rows of an interval of joined keys have.
use Rattle.std.proofs.Common.{◌≡◌, ℕ, ◌<◌, ◌≤◌, Bool, true, false, ◌&&◌, ◌||◌, not, cond, eqb, length, inl, inr, refl, sym, ap, ap₂, ◌∙◌, arith}
use Rattle.std.specs.Prelude.{nat_le, nat_lt}
use Rattle.std.specs.List.{AllByRecursion}
use Rattle.std.proofs.lemmas.Bool.{cases_Bool, cases_lt, false≢true}
use Rattle.std.proofs.lemmas.Bool.Decides.{nat_tests}
use Rattle.spl_values.specs.Tables.{TableParts}
use Rattle.cell_merge.specs.Rows.{Row}
use Rattle.query_reader.specs.declared.checked.Checked.{Checked}
use Rattle.query_reader.specs.Matching.{kept_rows}
use Rattle.count_sum.specs.SumPairs.{joined_key}
use Rattle.count_sum.specs.Positions.{comes_before, position}
use Rattle.session_model.specs.Counts.{count_keys, keys_below, keys_upto}
use Rattle.session_model.proofs.RowSums.{IsIn, count_fewer, count_weaker, each_in, sum_most}

-- ---- tests of two numbers

lower : (x y : ℕ) (m n : ℕ) → (nat_lt x y || (eqb x y && nat_lt m n)) ≡ true → x ≤ y
lower x y m n h = grind (arith, nat_tests)

not_itself : (x m : ℕ) → (nat_lt x x || (eqb x x && nat_lt m m)) ≡ false
not_itself x m = grind (arith, nat_tests)

strictly : (x y m n : ℕ) → x < y → (nat_lt x y || (eqb x y && nat_lt m n)) ≡ true
strictly x y m n h = grind (arith, nat_tests)

is_less : (x y : ℕ) → x < y → nat_lt x y ≡ true
is_less x y h = grind (arith, nat_tests)

not_less : (x y : ℕ) → y ≤ x → nat_lt x y ≡ false
not_less x y h = grind (arith, nat_tests)

turned : (x y : ℕ) → nat_le x y ≡ not (nat_lt y x)
turned x y = grind (arith, nat_tests)

module _ (checked : Checked) (t : TableParts) where
  abbrev key : Row → ℕ
  key = joined_key checked t

  -- a test that holds of each number below one of which it holds is passed by the joined keys of the first rows in order
  module _ (low : ℕ → Bool) (down : (x y : ℕ) → x ≤ y → low y ≡ true → low x ≡ true) where
    passes : (r : Row) → IsIn r (kept_rows checked t) → low (key r) ≡ true → position checked t r < count_keys checked t low
    passes r is h =
        count_fewer (λ s. comes_before checked t s r) (λ s. low (key s)) (λ s before. down (key s) (key r) (lower (key s) (key r) s.number r.number before) h)
        (kept_rows checked t) r is (not_itself (key r) r.number) h

    above : (r : Row) → low (key r) ≡ false → (s : Row) → low (key s) ≡ true → key s < key r
    above r fails s h = elim (cases_lt (key s) (key r)) [
      | inl less ↦ less
      | inr most ↦ absurd (false≢true (sym fails ∙ down (key r) (key s) most h))
    ]

    fails : (r : Row) → low (key r) ≡ false → count_keys checked t low ≤ position checked t r
    fails r h =
        count_weaker (λ s. low (key s)) (λ s. comes_before checked t s r) (λ s passed. strictly (key s) (key r) s.number r.number (above r h s passed)) (kept_rows checked t)

    -- a kept row has one of the first positions, as many as rows pass, exactly where its joined key passes
    pub ranked : (r : Row) → IsIn r (kept_rows checked t) → nat_lt (position checked t r) (count_keys checked t low) ≡ low (key r)
    ranked r is = elim (cases_Bool (low (key r))) [
      | inl passed ↦ is_less (position checked t r) (count_keys checked t low) (passes r is passed) ∙ sym passed
      | inr failed ↦ not_less (position checked t r) (count_keys checked t low) (fails r failed) ∙ sym failed
    ]

  below_down : (n x y : ℕ) → x ≤ y → nat_lt y n ≡ true → nat_lt x n ≡ true
  below_down n x y less h = grind (arith, nat_tests)

  upto_down : (n x y : ℕ) → x ≤ y → nat_le y n ≡ true → nat_le x n ≡ true
  upto_down n x y less h = grind (arith, nat_tests)

  -- the rows of an interval are those with positions from how many are below it on to how many are below it or in it
  pub between : (a b : ℕ) (r : Row) → IsIn r (kept_rows checked t)
      → (nat_le a (key r) && nat_le (key r) b) ≡ (nat_le (keys_below checked t a) (position checked t r) && nat_lt (position checked t r) (keys_upto checked t b))
  between a b r is =
      let place = position checked t r in
      let first : nat_le (keys_below checked t a) place ≡ nat_le a (key r) =
      turned (keys_below checked t a) place ∙ (ap not (ranked (λ x. nat_lt x a) (below_down a) r is) ∙ sym (turned a (key r))) in
      let last = ranked (λ x. nat_le x b) (upto_down b) r is in
      sym (ap₂ (λ p q. p && q) first last)

  pub each_between : (a b : ℕ) → AllByRecursion (λ r. (nat_le a (key r) && nat_le (key r) b) ≡ (nat_le (keys_below checked t a) (position checked t r) && nat_lt (position checked t r) (keys_upto checked t b))) (kept_rows checked t)
  each_between a b = each_in _ (kept_rows checked t) (between a b)

  -- a count of keys is at most how many rows are kept
  pub few_keys : (test : ℕ → Bool) → count_keys checked t test ≤ length (kept_rows checked t)
  few_keys test = sum_most (λ r. cond (test (key r)) 1 0) (λ r. bit (test (key r))) (kept_rows checked t)
    where
      bit : (b : Bool) → cond b 1 0 ≤ 1
      bit true = omega arith
      bit false = omega arith

  -- a position is less than how many rows are kept
  pub placed : (r : Row) → IsIn r (kept_rows checked t) → position checked t r < length (kept_rows checked t)
  placed r is =
      let first = passes (λ x. true) (λ x y less h. refl) r is refl in
      let few = few_keys (λ x. true) in
      omega (arith, first, few)

  pub below_upto : (a b : ℕ) → a ≤ b → keys_below checked t a ≤ keys_upto checked t b
  below_upto a b h = count_weaker (λ r. nat_lt (key r) a) (λ r. nat_le (key r) b) (λ r low. grind (arith, nat_tests)) (kept_rows checked t)
