-- The words of both answers in the first round of a plan of two add to the counts.
use Rattle.std.proofs.Common.{◌≡◌, ℕ, ◌*◌, ◌^◌, ◌<◌, List, [], ◌∷◌, length, Option, Some, None, refl, sym, ap, ap₂, subst, ◌∙◌, arith}
use Rattle.std.specs.Prelude.{map, nat_le, nat_lt, slice_index}
use Rattle.std.specs.List.{AllByRecursion, flat_map}
use Rattle.std.proofs.lemmas.List.{length-map}
use Rattle.spl_words.specs.Words.{plus}
use Rattle.spl_words.specs.declared.secret.KeySpec.{KeySpec}
use Rattle.spl_words.specs.Secrets.{Secret, secret_tree}
use Rattle.spl_words.specs.declared.provider.Provider.{Provider}
use Rattle.spl_words.specs.declared.provider.Provider.TheVariants.{Zero, One}
use Rattle.spl_values.specs.Tables.{TableParts, IsTable}
use Rattle.seed_expansion.specs.Expanders.{Meaning, IsPure}
use Rattle.interval_keys.specs.Intervals.{Span}
use Rattle.query_grammar.specs.Canonical.{IsQuery}
use Rattle.query_reader.specs.declared.checked.Checked.{Checked}
use Rattle.query_reader.specs.Accepted.{IsCheckedFor}
use Rattle.query_reader.specs.Matching.{kept_rows}
use Rattle.query_reader.specs.Params.{AreParamsFor}
use Rattle.key_frames.specs.Trees.{key_list}
use Rattle.private_plan.specs.declared.plans.PlanKind.TheVariants as kind
use Rattle.private_plan.specs.Plans.{last_bits, plan_of, words_back}
use Rattle.private_plan.specs.Rounds.{Entries, ones, each_tree, first_round, first_secrets, folds_for, secrets_in}
use Rattle.private_plan.specs.Slots.{count_secrets, slots_of}
use Rattle.private_plan.proofs.Accepted.{secrets_laid, slots_are}
use Rattle.cell_merge.specs.Cells.{cell_width}
use Rattle.session_model.specs.Answers.{answer_words, words_of_fold}
use Rattle.session_model.specs.Cells.{first_answer}
use Rattle.session_model.specs.Counts.{counts_of, slot_counts}
use Rattle.session_model.proofs.CellSums.{added_at, same_lengths, wordwise}
use Rattle.session_model.proofs.CellWords.{AreWords}
use Rattle.session_model.proofs.CountSecrets.{IsCount, all_counted, counted, counts_are, counts_tell}
use Rattle.session_model.proofs.KeptRows.{few_kept, kept_below}
use Rattle.session_model.proofs.Positions.{few_keys}
use Rattle.session_model.proofs.TreeWords.{by_tree, length-tree_words, tree_words, trees_add}

-- ---- counts are words

module _ (checked : Checked) (t : TableParts) (few : length (kept_rows checked t) < 2 ^ 64) where
  slots_small : (l : List (Option Span)) → AreWords (flat_map (slot_counts checked t) l)
  slots_small [] = tt
  slots_small (None ∷ l) = (omega arith, (omega arith, slots_small l))
  slots_small (Some s ∷ l) =
      let below = few_keys checked t (λ x. nat_lt x s.lo) in
      let upto = few_keys checked t (λ x. nat_le x s.hi) in
      (omega (arith, few, below), (omega (arith, few, upto), slots_small l))

pub counts_small : (checked : Checked) (t : TableParts) (params : List ℕ) → IsTable t → AreWords (counts_of checked t params)
unfolding counts_of
counts_small checked t params valid = slots_small checked t (few_kept checked t valid) (slots_of checked t.shape.schema.columns params)

-- ---- the first round

one_word : KeySpec → Entries
one_word tree = ones

module _ (checked : Checked) (t : TableParts) (params : List ℕ) (accepted : IsCheckedFor checked t.shape.schema) (form : IsQuery checked.query) (known : AreParamsFor checked t.shape.schema params)
    (position : (plan_of checked t.shape).kind ≡ kind.Position) where
  abbrev asked : List Secret
  asked = secrets_in checked t.shape params first_round

  abbrev told : Secret → List ℕ
  told s = counted checked t s ∷ []

  abbrev slots : List (Option Span)
  slots = slots_of checked t.shape.schema.columns params

  asked_is : asked ≡ flat_map (count_secrets checked.bits) slots
  asked_is = ap (λ k. flat_map (first_secrets k checked.range checked.bits (last_bits t.shape.schema.columns checked.columns)) slots) position

  each_count : AllByRecursion (IsCount checked.bits) asked
  each_count = subst (λ ss. AllByRecursion (IsCount checked.bits) ss) (sym asked_is) (counts_are checked.bits (last_bits t.shape.schema.columns checked.columns) slots (slots_are checked t.shape.schema params accepted form known))

  -- the secrets count what the slots' counts are
  counts_told : flat_map told asked ≡ counts_of checked t params
  unfolding counts_of
  counts_told = ap (λ ss. flat_map told ss) asked_is ∙ all_counted checked t slots

  laid : map secret_tree asked ≡ (plan_of checked t.shape).first
  laid = secrets_laid checked t.shape params accepted form known

  -- as many counts as the plan tells
  pub counts_planned : length (counts_of checked t params) ≡ (plan_of checked t.shape).first_words
  counts_planned =
      let trees = length (plan_of checked t.shape).first in
      let secrets : length asked ≡ trees = sym (length-map asked secret_tree) ∙ ap length laid in
      let words : length (flat_map told asked) ≡ length asked * 1 = same_lengths told 1 (λ s. refl) asked in
      let planned : words_back (plan_of checked t.shape).kind trees (cell_width checked.spec) ≡ trees = ap (λ k. words_back k trees (cell_width checked.spec)) position in
      ap length (sym counts_told) ∙ omega (arith, secrets, words, planned)

  module _ (valid : IsTable t) (roots : List (ℕ × ℕ)) (same : length roots ≡ length asked) where
    -- the answer has a word for each tree
    counts_answer : (e : Meaning) (p : Provider) → first_answer e p checked t params roots ≡ tree_words checked t one_word e p 0 asked roots
    unfolding answer_words one_word
    counts_answer e p =
        let keys = key_list e p 0 asked roots in
        ap (λ k. flat_map (words_of_fold e p 0 keys checked t) (folds_for k 1 (plan_of checked t.shape).first)) position
        ∙ (ap (λ ts. flat_map (words_of_fold e p 0 keys checked t) (each_tree one_word 0 ts)) (sym laid) ∙ by_tree checked t one_word e p 0 keys 0 0 asked roots refl same refl)

    pub count_length : (e : Meaning) (p : Provider) → length (first_answer e p checked t params roots) ≡ length (counts_of checked t params)
    unfolding one_word
    count_length e p = ap length (counts_answer e p) ∙ (length-tree_words checked t one_word told (λ s. refl) e p 0 asked roots same ∙ ap length counts_told)

    module _ (e : Meaning) (pure : IsPure e) where
      counts_add : wordwise (first_answer e Zero checked t params roots) (first_answer e One checked t params roots) ≡ counts_of checked t params
      unfolding one_word
      counts_add =
          ap₂ wordwise (counts_answer e Zero) (counts_answer e One)
          ∙ (trees_add checked t one_word told (λ s. refl) e pure 0 asked roots same (counts_tell checked t (kept_below checked t valid accepted) (few_kept checked t valid) asked each_count) ∙ counts_told)

      pub count_added : (k : ℕ) → k < length (counts_of checked t params)
          → plus (slice_index (first_answer e Zero checked t params roots) k) (slice_index (first_answer e One checked t params roots) k) ≡ slice_index (counts_of checked t params) k
      count_added k = added_at (first_answer e Zero checked t params roots) (first_answer e One checked t params roots) (counts_of checked t params) k (count_length e Zero) (count_length e One) counts_add
