-- What is known of the intervals, the slots and the secrets of an accepted query.
use Rattle.std.proofs.Common.{◌≡◌, ℕ, zero, suc, ◌+◌, ◌-◌, ◌^◌, ◌<◌, ◌≤◌, Bool, true, false, List, [], ◌∷◌, ◌++◌, length, map, replicate, get_or, drop, Option, Some, None, refl, sym, ap, ap₂, subst, ◌∙◌, IfSome}
use Rattle.std.specs.Prelude.{All, slice_get}
use Rattle.std.specs.List.{flat_map, range_with_len}
use Rattle.spl_words.specs.declared.secret.TreeKind.TheVariants.{Point, Threshold}
use Rattle.spl_words.specs.Secrets.{Secret, secret_tree}
use Rattle.spl_values.specs.Shapes.{ColumnParts, SchemaParts, ShapeParts}
use Rattle.spl_values.specs.Tables.{key_bits}
use Rattle.interval_keys.specs.Intervals.{Span, minus_below}
use Rattle.interval_keys.specs.Slots.{EachSpan, IsSpan, slots}
use Rattle.interval_keys.proofs.SlotLaws.{each_slot, length-slots, single_slots, slots_below, valid_slots}
use Rattle.aligned_ranges.specs.declared.ranges.Range.{Range}
use Rattle.query_grammar.specs.Canonical.{IsQuery}
use Rattle.query_reader.specs.declared.checked.Checked.{Checked}
use Rattle.query_reader.specs.Accepted.{IsCheckedFor}
use Rattle.query_reader.specs.Matching.{branch_params}
use Rattle.query_reader.specs.Params.{AreParamsFor}
use Rattle.query_reader.proofs.Known.{checked_bits, checked_some}
use Rattle.query_reader.proofs.Lists.{all_at}
use Rattle.spl_words.specs.declared.secret.KeySpec.{KeySpec}
use Rattle.private_plan.specs.declared.plans.PlanKind.{PlanKind}
use Rattle.private_plan.specs.declared.plans.PlanKind.TheVariants as kind
use Rattle.private_plan.specs.Branches.{branch_spans}
use Rattle.private_plan.specs.Plans.{kind_of, last_bits, plan_of, slot_trees, tree}
use Rattle.private_plan.specs.Slots.{IsSlot, count_below, level_secrets, range_secret, slot_level, slot_secrets, slots_of}
use Rattle.private_plan.specs.Rounds.{first_round, first_secrets, secrets_in}
use Rattle.private_plan.proofs.OneValue.{Agrees, joins_agree, spans_agree}
use Rattle.private_plan.proofs.SlotSecrets.{first, second, single_spans}
use Rattle.private_plan.proofs.Spans.{spans_fit}

-- ---- the trees of secrets

module _ (bits : ℕ) where
  below_tree : (n : ℕ) → secret_tree (minus_below bits n) ≡ tree Threshold bits
  below_tree zero = refl
  below_tree (suc n) = refl

  both_laid : (xs ys : List Secret) (ts us : List KeySpec) → map secret_tree xs ≡ ts → map secret_tree ys ≡ us → map secret_tree (xs ++ ys) ≡ ts ++ us
  both_laid [] ys ts us e f = ap (λ l. l ++ map secret_tree ys) e ∙ ap (λ l. ts ++ l) f
  both_laid (x ∷ xs) ys ts us e f = ap (λ l. secret_tree x ∷ l) (both_laid xs ys (map secret_tree xs) us refl f) ∙ ap (λ l. l ++ us) e

  range_tree : (r : Option Range) → secret_tree (range_secret bits r) ≡ tree Point bits
  range_tree None = refl
  range_tree (Some r) = refl

  level_laid : (rs : List Range) → map secret_tree (level_secrets bits rs) ≡ replicate 2 (tree Point bits)
  level_laid rs = ap₂ (λ t u. t ∷ u ∷ []) (range_tree (slice_get rs 0)) (range_tree (slice_get rs 1))

module _ (n : ℕ) where
  levels_laid : (level : ℕ → List Range) (js : List ℕ) → map secret_tree (flat_map (λ j. level_secrets (n - j) (level j)) js) ≡ flat_map (λ j. replicate 2 (tree Point (n - j))) js
  levels_laid level [] = refl
  levels_laid level (j ∷ js) = both_laid n (level_secrets (n - j) (level j)) (flat_map (λ i. level_secrets (n - i) (level i)) js) _ _ (level_laid (n - j) (level j)) (levels_laid level js)

  count_tree : (x : ℕ) → secret_tree (count_below n x) ≡ tree Threshold n
  count_tree zero = refl
  count_tree (suc x) = refl

  slot_laid : (k : PlanKind) (range : Bool) (w : ℕ) (slot : Option Span) → map secret_tree (first_secrets k range n w slot) ≡ slot_trees k range n w
  slot_laid kind.Sum false w None = refl
  slot_laid kind.Sum false w (Some s) = refl
  slot_laid kind.Sum true w None = refl
  slot_laid kind.Sum true w (Some s) = ap (λ t. tree Threshold n ∷ t ∷ []) (below_tree n s.lo)
  slot_laid kind.Point range w None = refl
  slot_laid kind.Point range w (Some s) = refl
  slot_laid kind.Aligned range w slot = levels_laid (slot_level w slot) (range_with_len 0 w)
  slot_laid kind.Position range w None = refl
  slot_laid kind.Position range w (Some s) = ap (λ t. t ∷ tree Threshold n ∷ []) (count_tree s.lo)

  -- the trees of the secrets of slots are those of as many slots of the plan
  pub slots_laid : (k : PlanKind) (range : Bool) (w from : ℕ) (l : List (Option Span)) → map secret_tree (flat_map (first_secrets k range n w) l) ≡ flat_map (λ i. slot_trees k range n w) (range_with_len from (length l))
  slots_laid k range w from [] = refl
  slots_laid k range w from (s ∷ l) = both_laid n (first_secrets k range n w s) (flat_map (first_secrets k range n w) l) _ _ (slot_laid k range w s) (slots_laid k range w (from + 1) l)

-- ---- an accepted query

slot_is : (n w : ℕ) (slot : Option Span) → IfSome slot IsSpan → IfSome slot (λ s. s.hi < 2 ^ n) → IfSome slot (Agrees w) → IfSome slot (IsSlot n w)
slot_is n w None valid below agree = tt
slot_is n w (Some s) valid below agree = record { order = valid; below = below; agree = agree }

length-spans : (columns : List ColumnParts) (n : ℕ) (places : List ℕ) (range : Bool) (params : List ℕ) → length (branch_spans columns n places range params) ≡ n
unfolding branch_spans
length-spans columns zero places range params = refl
length-spans columns (suc n) places range params = ap (λ k. suc k) (length-spans columns n places range (drop (branch_params places range) params))

module _ (checked : Checked) (schema : SchemaParts) (params : List ℕ) (h : IsCheckedFor checked schema) (q : IsQuery checked.query) (are : AreParamsFor checked schema params) where
  abbrev spans : List (Option Span)
  spans = branch_spans schema.columns checked.branches checked.columns checked.range params

  fits : (k : ℕ) (d : Option Span) (i : k < length spans) → IfSome (get_or spans k d) (λ t. (t.lo ≤ t.hi) × (t.hi < 2 ^ key_bits schema.columns checked.columns))
  fits =
      all_at (λ (s : Option Span). IfSome s (λ t. (t.lo ≤ t.hi) × (t.hi < 2 ^ key_bits schema.columns checked.columns))) spans
      (spans_fit schema.columns checked.columns checked.range (checked_some checked schema h q) checked.branches params are.below)

  pub valid_spans : EachSpan IsSpan spans
  valid_spans = λ k d i. first (λ t. t.lo ≤ t.hi) (λ t. t.hi < 2 ^ key_bits schema.columns checked.columns) (get_or spans k d) (fits k d i)

  pub low_spans : EachSpan (λ t. t.hi < 2 ^ checked.bits) spans
  low_spans =
      let bits = checked_bits checked schema h in
      subst (λ n. EachSpan (λ t. t.hi < 2 ^ n) spans) (sym bits)
      (λ k d i. second (λ t. t.lo ≤ t.hi) (λ t. t.hi < 2 ^ key_bits schema.columns checked.columns) (get_or spans k d) (fits k d i))

  pub slots_agree : EachSpan (Agrees (last_bits schema.columns checked.columns)) (slots_of checked schema.columns params)
  slots_agree =
      let w = last_bits schema.columns checked.columns in
      each_slot (Agrees w) (joins_agree w) spans valid_spans
      (all_at (λ (s : Option Span). IfSome s (Agrees w)) spans (spans_agree schema.columns checked.columns checked.range (checked_some checked schema h q) checked.branches params are.below))

  -- what is known of its slots
  pub slots_are : All (λ (slot : Option Span). IfSome slot (IsSlot checked.bits (last_bits schema.columns checked.columns))) (slots_of checked schema.columns params)
  slots_are =
      let valid = valid_slots spans valid_spans in
      let below = slots_below spans (2 ^ checked.bits) valid_spans low_spans in
      λ k d i. slot_is checked.bits (last_bits schema.columns checked.columns) (get_or (slots spans) k d) (valid k d i) (below k d i) (slots_agree k d i)

  pub slots_single : checked.range ≡ false → EachSpan (λ s. s.lo ≡ s.hi) (slots_of checked schema.columns params)
  slots_single e =
      single_slots spans valid_spans
      (subst (λ b. EachSpan (λ t. t.lo ≡ t.hi) (branch_spans schema.columns checked.branches checked.columns b params)) (sym e)
      (all_at (λ (s : Option Span). IfSome s (λ t. t.lo ≡ t.hi)) (branch_spans schema.columns checked.branches checked.columns false params) (single_spans schema.columns checked.branches checked.columns params)))

  pub length-slots_of : length (slots_of checked schema.columns params) ≡ checked.branches
  length-slots_of = length-slots spans valid_spans ∙ length-spans schema.columns checked.branches checked.columns checked.range params

-- the trees of a first round's secrets are those of the plan
pub secrets_laid : (checked : Checked) (shape : ShapeParts) (params : List ℕ) → IsCheckedFor checked shape.schema → IsQuery checked.query → AreParamsFor checked shape.schema params
    → map secret_tree (secrets_in checked shape params first_round) ≡ (plan_of checked shape).first
secrets_laid checked shape params h q are =
    let columns = shape.schema.columns in
    let w = last_bits columns checked.columns in
    let k = kind_of checked columns in
    slots_laid checked.bits k checked.range w 0 (slots_of checked columns params)
    ∙ ap (λ n. flat_map (λ i. slot_trees k checked.range checked.bits w) (range_with_len 0 n)) (length-slots_of checked shape.schema params h q are)

-- the secrets of a sum
pub secrets_of_sum : (checked : Checked) (shape : ShapeParts) (params : List ℕ) → (plan_of checked shape).kind ≡ kind.Sum
    → secrets_in checked shape params first_round ≡ flat_map (slot_secrets checked.range checked.bits) (slots_of checked shape.schema.columns params)
secrets_of_sum checked shape params sum =
    ap (λ k. flat_map (first_secrets k checked.range checked.bits (last_bits shape.schema.columns checked.columns)) (slots_of checked shape.schema.columns params)) sum
