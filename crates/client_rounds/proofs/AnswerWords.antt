-- How many words an answer to a first round has, and what both providers' add to.
use Rattle.std.proofs.Common.{◌≡◌, ℕ, suc, ◌*◌, ◌<◌, ◌≤◌, true, List, [], ◌∷◌, length, refl, sym, ap, ap₂, subst, ◌∙◌, arith}
use Rattle.std.specs.Prelude.{slice_index}
use Rattle.std.proofs.Math.Nat.{mul-le-mul}
use Rattle.std.proofs.lemmas.List.{length-map}
use Rattle.spl_words.specs.Words.{plus}
use Rattle.spl_words.specs.Secrets.{secret_tree}
use Rattle.spl_values.specs.Shapes.{ShapeParts, IsSchema}
use Rattle.cell_merge.specs.Cells.{cell_width}
use Rattle.query_grammar.specs.Canonical.{IsQuery}
use Rattle.query_reader.specs.declared.checked.Checked.{Checked}
use Rattle.query_reader.specs.Accepted.{IsCheckedFor}
use Rattle.query_reader.specs.Params.{AreParamsFor}
use Rattle.query_reader.proofs.Known.{checked_fits, checked_width}
use Rattle.private_plan.specs.declared.plans.PlanKind.{PlanKind}
use Rattle.private_plan.specs.declared.plans.PlanKind.TheVariants as kind
use Rattle.private_plan.specs.Plans.{IsBuilt, is_built, kind_of, last_bits, plan_for, plan_of, words_back}
use Rattle.private_plan.specs.Rounds.{first_round, secrets_in}
use Rattle.private_plan.proofs.Accepted.{secrets_laid}
use Rattle.private_plan.proofs.FirstTrees.{secret_count}
use Rattle.combiner.specs.Combining.{added}
use Rattle.combiner.specs.Finals.{last_words}
use Rattle.combiner.proofs.Plans.{cell_some}

-- two lists add to a third, word by word
pub added_is : (xs ys zs : List ℕ) → length xs ≡ length zs → length ys ≡ length zs → ((k : ℕ) → k < length zs → plus (slice_index xs k) (slice_index ys k) ≡ slice_index zs k) → added xs ys ≡ zs
unfolding added
added_is [] ys [] m n each = refl
added_is [] ys (z ∷ zs) m n each = absurd (omega (arith, m))
added_is (x ∷ xs) ys [] m n each = absurd (omega (arith, m))
added_is (x ∷ xs) [] (z ∷ zs) m n each = absurd (omega (arith, n))
added_is (x ∷ xs) (y ∷ ys) (z ∷ zs) m n each = ap₂ (λ w ws. w ∷ ws) (each 0 (omega arith)) (added_is xs ys zs (omega (arith, m)) (omega (arith, n)) (λ k here. each (suc k) (omega (arith, here))))

-- a built plan has one round
only_round : (k : PlanKind) (checked : Checked) (shape : ShapeParts) → is_built k ≡ true → kind_of checked shape.schema.columns ≡ k → last_words (plan_of checked shape) ≡ (plan_of checked shape).first_words
only_round k checked shape built is =
    ap (λ j. last_words (plan_for j checked.range checked.branches checked.bits (last_bits shape.schema.columns checked.columns) (cell_width checked.spec) shape.rows)) is
    ∙ (by_kind k built ∙ sym (ap (λ j. (plan_for j checked.range checked.branches checked.bits (last_bits shape.schema.columns checked.columns) (cell_width checked.spec) shape.rows).first_words) is))
  where
    by_kind : (k : PlanKind) → is_built k ≡ true → last_words (plan_for k checked.range checked.branches checked.bits (last_bits shape.schema.columns checked.columns) (cell_width checked.spec) shape.rows)
        ≡ (plan_for k checked.range checked.branches checked.bits (last_bits shape.schema.columns checked.columns) (cell_width checked.spec) shape.rows).first_words
    by_kind kind.Sum built = refl
    by_kind kind.Point built = refl
    by_kind kind.Aligned built = refl
    by_kind kind.Position built = absurd cc

pub last_is_first : (checked : Checked) (shape : ShapeParts) → IsBuilt checked shape.schema.columns → last_words (plan_of checked shape) ≡ (plan_of checked shape).first_words
last_is_first checked shape built = only_round (kind_of checked shape.schema.columns) checked shape built refl

fit_for : (k : PlanKind) (trees width : ℕ) → is_built k ≡ true → 1 ≤ trees → trees ≤ 256 → 1 ≤ width → width ≤ 128 → (1 ≤ words_back k trees width) × (words_back k trees width ≤ 65536)
fit_for kind.Sum trees width built a b c d = (c, omega (arith, d))
fit_for kind.Point trees width built a b c d =
    let low : 1 * 1 ≤ trees * width = mul-le-mul a c in
    let high : trees * width ≤ 256 * 128 = mul-le-mul b d in
    (omega (arith, low), omega (arith, high))
fit_for kind.Aligned trees width built a b c d =
    let low : 1 * 1 ≤ trees * width = mul-le-mul a c in
    let high : trees * width ≤ 256 * 128 = mul-le-mul b d in
    (omega (arith, low), omega (arith, high))
fit_for kind.Position trees width built a b c d = absurd cc

-- the words of a first round are no more than an answer may have, and some
pub words_fit : (checked : Checked) (shape : ShapeParts) (params : List ℕ) → IsSchema shape.schema → IsCheckedFor checked shape.schema → IsQuery checked.query → AreParamsFor checked shape.schema params → IsBuilt checked shape.schema.columns
    → (1 ≤ (plan_of checked shape).first_words) × ((plan_of checked shape).first_words ≤ 65536)
words_fit checked shape params schema accepted form known built =
    let trees = subst (λ n. (1 ≤ n) × (n ≤ 256)) (sym (length-map (secrets_in checked shape params first_round) secret_tree) ∙ ap length (secrets_laid checked shape params accepted form known)) (secret_count checked shape params accepted form known schema) in
    fit_for (kind_of checked shape.schema.columns) (length (plan_of checked shape).first) (cell_width checked.spec) built trees.0 trees.1
    (cell_some checked.spec shape.schema.columns schema.columns (checked_fits checked shape.schema accepted)) (checked_width checked shape.schema accepted)
