-- The secrets of counts, and what their keys' words add to.
use Rattle.std.proofs.Common.{◌≡◌, ℕ, zero, suc, ◌+◌, ◌*◌, ◌%◌, ◌^◌, ◌<◌, ◌≤◌, Bool, true, false, cond, List, [], ◌∷◌, ◌++◌, length, Option, Some, None, refl, sym, ap, ap₂, ◌∙◌, arith, IfSome}
use Rattle.std.specs.Prelude.{map, nat_le, nat_lt, slice_index, sum_by}
use Rattle.std.specs.List.{AllByRecursion, flat_map}
use Rattle.std.proofs.Math.Nat.{mod-eq_of_lt}
use Rattle.std.proofs.lemmas.Bool.Decides.{nat_tests}
use Rattle.std.proofs.lemmas.Grind.{flat_map-append}
use Rattle.std.proofs.lemmas.List.Concat.{flat_map_single}
use Rattle.std.proofs.lemmas.List.Elements.{All-head, All-tail}
use Rattle.std.proofs.lemmas.List.Sums.{sum_by-cons}
use Rattle.std.proofs.lemmas.Nat.{pow_pos}
use Rattle.spl_words.specs.Folds.{fold_word}
use Rattle.spl_words.specs.Secrets.{Secret, secret_value, secrets_value}
use Rattle.spl_values.specs.Tables.{TableParts}
use Rattle.interval_keys.specs.Intervals.{Span, threshold}
use Rattle.interval_keys.specs.Slots.{EachSpan}
use Rattle.cell_merge.specs.Rows.{Row}
use Rattle.cell_merge.proofs.Lists.{each-map, each_weaker}
use Rattle.query_reader.specs.declared.checked.Checked.{Checked}
use Rattle.query_reader.specs.Matching.{kept_rows}
use Rattle.count_sum.specs.SumPairs.{joined_key}
use Rattle.private_plan.specs.Rounds.{ones}
use Rattle.private_plan.specs.Slots.{IsSlot, count_below, count_secrets}
use Rattle.private_plan.proofs.FirstTrees.{each-append}
use Rattle.session_model.specs.Answers.{entries_of}
use Rattle.session_model.specs.Counts.{keys_below, keys_upto, slot_counts}
use Rattle.session_model.proofs.RowSums.{agreeing_sums, over_rows, sum_most, sum_none}
use Rattle.session_model.proofs.SumSecrets.{IsOf, numbers, threshold_is}
use Rattle.session_model.proofs.TreeWords.{Tells}

-- ---- the secrets

-- a secret that says 0 or 1 of each number
pub record IsCount (bits : ℕ) (s : Secret) : Type 0 where
  pub of : IsOf bits s
  pub bit : (x : ℕ) → secret_value s x ≤ 1

module _ (bits : ℕ) where
  chosen : (b : Bool) (n : ℕ) → n ≤ 1 → cond b n 0 ≤ 1
  chosen true n once = once
  chosen false n once = omega arith

  count_is : (alpha beta : ℕ) → alpha < 2 ^ bits → beta ≤ 1 → IsCount bits (threshold bits alpha beta)
  count_is alpha beta low once = record { of = threshold_is bits alpha beta low (omega (arith, once)); bit = λ x. chosen (nat_le x alpha) beta once }

  below_is : (n : ℕ) → n < 2 ^ bits → IsCount bits (count_below bits n)
  below_is zero low = count_is 0 0 (pow_pos bits) (omega arith)
  below_is (suc n) low = count_is n 1 (omega (arith, low)) (omega arith)

  slot_is : (w : ℕ) (slot : Option Span) → IfSome slot (IsSlot bits w) → AllByRecursion (IsCount bits) (count_secrets bits slot)
  slot_is w None is = (count_is 0 0 (pow_pos bits) (omega arith), (count_is 0 0 (pow_pos bits) (omega arith), tt))
  slot_is w (Some s) is = let order = is.order in let low = is.below in (below_is s.lo (omega (arith, order, low)), (count_is s.hi 1 is.below (omega arith), tt))

  pub counts_are : (w : ℕ) (l : List (Option Span)) → EachSpan (IsSlot bits w) l → AllByRecursion (IsCount bits) (flat_map (count_secrets bits) l)
  counts_are w [] each = tt
  counts_are w (s ∷ l) each =
      each-append (IsCount bits) (count_secrets bits s) (flat_map (count_secrets bits) l) (slot_is w s (All-head (λ b. IfSome b (IsSlot bits w)) s l each))
      (counts_are w l (All-tail (λ b. IfSome b (IsSlot bits w)) s l each))

-- ---- what they count

module _ (checked : Checked) (t : TableParts) where
  abbrev key : Row → ℕ
  key = joined_key checked t

  -- how many kept rows a secret counts
  abbrev pub counted : Secret → ℕ
  counted s = sum_by (λ r. secret_value s (key r)) (kept_rows checked t)

  nothing : (alpha : ℕ) → counted (threshold checked.bits alpha 0) ≡ 0
  nothing alpha = agreeing_sums (λ r. cond (nat_le (key r) alpha) 0 0) (λ r. 0) (λ r. none (nat_le (key r) alpha)) (kept_rows checked t) ∙ sum_none (kept_rows checked t)
    where
      none : (b : Bool) → cond {A = ℕ} b 0 0 ≡ 0
      none true = refl
      none false = refl

  below_counted : (n : ℕ) → counted (count_below checked.bits n) ≡ keys_below checked t n
  below_counted zero = nothing 0 ∙ sym (agreeing_sums (λ r. cond (nat_lt (key r) 0) 1 0) (λ r. 0) (λ r. ap (λ b. cond b 1 0) (never (key r))) (kept_rows checked t) ∙ sum_none (kept_rows checked t))
    where
      never : (x : ℕ) → nat_lt x 0 ≡ false
      never x = grind (arith, nat_tests)
  below_counted (suc n) = agreeing_sums (λ r. cond (nat_le (key r) n) 1 0) (λ r. cond (nat_lt (key r) (suc n)) 1 0) (λ r. ap (λ b. cond b 1 0) (same (key r) n)) (kept_rows checked t)
    where
      same : (x n : ℕ) → nat_le x n ≡ nat_lt x (suc n)
      same x n = grind (arith, nat_tests)

  slot_counted : (slot : Option Span) → map counted (count_secrets checked.bits slot) ≡ slot_counts checked t slot
  slot_counted None = ap₂ (λ a b. a ∷ b ∷ []) (nothing 0) (nothing 0)
  slot_counted (Some s) = ap (λ n. n ∷ keys_upto checked t s.hi ∷ []) (below_counted s.lo)

  pub all_counted : (l : List (Option Span)) → flat_map (λ s. counted s ∷ []) (flat_map (count_secrets checked.bits) l) ≡ flat_map (slot_counts checked t) l
  all_counted [] = refl
  all_counted (slot ∷ l) =
      flat_map-append (λ s. counted s ∷ []) (count_secrets checked.bits slot) (flat_map (count_secrets checked.bits) l)
      ∙ ap₂ (λ a b. a ++ b) (flat_map_single counted (count_secrets checked.bits slot) ∙ slot_counted slot) (all_counted l)

  -- ---- their words

  abbrev one_word : Row → ℕ × List ℕ
  one_word r = (key r, 1 ∷ [])

  count_word : (s : Secret) (k : ℕ) → ((x : ℕ) → secret_value s x ≤ 1) → length (kept_rows checked t) < 2 ^ 64 → k < 1 → fold_word (secrets_value (s ∷ [])) (entries_of checked t ones) k ≡ slice_index (counted s ∷ []) k
  count_word s zero bit few here =
      let kept = kept_rows checked t in
      let most = sum_most (λ r. secret_value s (key r)) (λ r. bit (key r)) kept in
      ap (λ n. n % 2 ^ 64) (over_rows (λ p. secrets_value (s ∷ []) p.0 * slice_index p.1 0) one_word kept
      ∙ agreeing_sums (λ r. secrets_value (s ∷ []) (key r) * 1) (λ r. secret_value s (key r)) (λ r. single (key r)) kept)
      ∙ mod-eq_of_lt (omega (arith, most, few))
    where
      single : (x : ℕ) → secrets_value (s ∷ []) x * 1 ≡ secret_value s x
      single x =
          let e : sum_by (λ u. secret_value u x) (s ∷ []) ≡ secret_value s x + 0 = sum_by-cons (λ u. secret_value u x) s [] in
          let once = bit x in
          omega (arith, e, once)
  count_word s (suc k) bit few here = absurd (omega (arith, here))

  pub counts_tell : AllByRecursion (λ r. key r < 2 ^ checked.bits) (kept_rows checked t) → length (kept_rows checked t) < 2 ^ 64
      → (ss : List Secret) → AllByRecursion (IsCount checked.bits) ss → AllByRecursion (λ s. Tells s (entries_of checked t ones) (counted s ∷ [])) ss
  counts_tell below few ss =
      each_weaker (IsCount checked.bits) (λ s. Tells s (entries_of checked t ones) (counted s ∷ []))
      (λ s is. record {
        secret = is.of.secret;
        fits = each-map (λ (q : ℕ × List ℕ). AllByRecursion (λ (u : Secret). q.0 < 2 ^ u.depth) (s ∷ [])) one_word (kept_rows checked t)
            (each_weaker (λ r. key r < 2 ^ checked.bits) (λ r. AllByRecursion (λ (u : Secret). key r < 2 ^ u.depth) (s ∷ [])) (λ r h. numbers checked.bits (key r) (s ∷ []) (is.of, tt) h) (kept_rows checked t) below);
        words = λ k here. count_word s k is.bit few here;
      }) ss
