-- What the slots of a query keep, and what the functions of their secrets add to.
use Rattle.std.proofs.Common.{◌≡◌, ℕ, zero, suc, ◌+◌, ◌*◌, ◌%◌, ◌^◌, ◌<◌, ◌≤◌, Bool, true, false, cond, nat_le, nat_eq, List, [], ◌∷◌, length, get_or, take, drop, Option, Some, None, option_map, refl, sym, ap, subst, ◌∙◌, arith, IfSome, if◌then◌else◌}
use Rattle.std.specs.Prelude.{All, sum_by}
use Rattle.std.specs.List.{AllByRecursion, AllZip, flat_map}
use Rattle.std.proofs.lemmas.Bool.Decides.{nat_tests}
use Rattle.spl_words.specs.Words.{plus}
use Rattle.spl_words.specs.Secrets.{secret_value, secrets_value}
use Rattle.spl_values.specs.Shapes.{ColumnParts}
use Rattle.spl_values.specs.Tables.{key_bits}
use Rattle.interval_keys.specs.Intervals.{Span, interval_secrets, slot_value}
use Rattle.interval_keys.specs.Slots.{EachSpan, IsSpan, allowed, held, slots}
use Rattle.interval_keys.proofs.SlotLaws.{value_slots, single_slots, valid_slots, slots_below}
use Rattle.query_reader.proofs.Lists.{all_at}
use Rattle.interval_keys.proofs.IntervalLaw.{interval_adds, empty_adds}
use Rattle.std.proofs.Math.Nat.{mod-add-mod, add-mod-mod}
use Rattle.std.proofs.lemmas.List.Sums.{sum_by-append, sum_by-cons}
use Rattle.std.proofs.lemmas.List.Concat.{flat_map-cons}
use Rattle.std.proofs.lemmas.List.Elements.{All-head, All-tail}
use Rattle.query_reader.specs.Matching.{branch_params, some_branch_holds}
use Rattle.query_reader.specs.Params.{HasBits, branch_columns, times}
use Rattle.cell_merge.specs.Rows.{Row}
use Rattle.private_plan.proofs.Spans.{held_where, spans_fit}
use Rattle.private_plan.specs.Branches.{RowHasBits, row_key, raised, branch_span, branch_spans}
use Rattle.private_plan.specs.Slots.{point_secret, slot_secrets}

pair : (P Q : Span → Type 0) (s : Option Span) → IfSome s P → IfSome s Q → IfSome s (λ t. P t × Q t)
pair P Q None a b = tt
pair P Q (Some t) a b = (a, b)

pub first : (P Q : Span → Type 0) (s : Option Span) → IfSome s (λ t. P t × Q t) → IfSome s P
first P Q None a = tt
first P Q (Some t) a = a.0

pub second : (P Q : Span → Type 0) (s : Option Span) → IfSome s (λ t. P t × Q t) → IfSome s Q
second P Q None a = tt
second P Q (Some t) a = a.1

-- what is known of the slots of intervals that end below n
pub slots_fit : (branches : List (Option Span)) (n : ℕ) → AllByRecursion (λ s. IfSome s (λ t. (t.lo ≤ t.hi) × (t.hi < n))) branches
    → All (λ s. IfSome s (λ t. (t.lo ≤ t.hi) × (t.hi < n))) (slots branches)
slots_fit branches n h =
    let all = all_at (λ (s : Option Span). IfSome s (λ t. (t.lo ≤ t.hi) × (t.hi < n))) branches h in
    let valid : EachSpan IsSpan branches = λ k d i. first (λ t. t.lo ≤ t.hi) (λ t. t.hi < n) (get_or branches k d) (all k d i) in
    let below : EachSpan (λ t. t.hi < n) branches = λ k d i. second (λ t. t.lo ≤ t.hi) (λ t. t.hi < n) (get_or branches k d) (all k d i) in
    let p = valid_slots branches valid in
    let q = slots_below branches n valid below in
    λ k d i. pair (λ t. t.lo ≤ t.hi) (λ t. t.hi < n) (get_or (slots branches) k d) (p k d i) (q k d i)

-- ---- what the functions of secrets add to

-- the interval of a branch without a range is a single number
single_span : (columns : List ColumnParts) (places : List ℕ) (params : List ℕ) → IfSome (branch_span columns places false params) (λ t. t.lo ≡ t.hi)
unfolding branch_span
single_span columns [] params = refl
single_span columns (c ∷ []) [] = tt
single_span columns (c ∷ []) (p ∷ ps) = same_ends p p (nat_le p p) refl where
  same_ends : (p q : ℕ) (b : Bool) → p ≡ q → IfSome {T = Span} (if b then Some (record { lo = p; hi = q }) else None) (λ t. t.lo ≡ t.hi)
  same_ends p q true e = e
  same_ends p q false e = tt
single_span columns (c ∷ d ∷ cs) [] = tt
single_span columns (c ∷ d ∷ cs) (p ∷ ps) = raised_single (p * 2 ^ key_bits columns (d ∷ cs)) (branch_span columns (d ∷ cs) false ps) (single_span columns (d ∷ cs) ps) where
  raised_single : (n : ℕ) (s : Option Span) → IfSome s (λ t. t.lo ≡ t.hi) → IfSome (option_map (raised n) s) (λ t. t.lo ≡ t.hi)
  raised_single n None e = tt
  raised_single n (Some t) e = ap (λ x. n + x) e

pub single_spans : (columns : List ColumnParts) (n : ℕ) (places params : List ℕ) → AllByRecursion (λ s. IfSome s (λ t. t.lo ≡ t.hi)) (branch_spans columns n places false params)
unfolding branch_spans
single_spans columns zero places params = tt
single_spans columns (suc n) places params = (single_span columns places (take (branch_params places false) params), single_spans columns n places (drop (branch_params places false) params))

-- the secrets of one slot add to its value, modulo 2 ^ 64
pub point_adds : (bits x : ℕ) (s : Option Span) → IfSome s (λ t. t.lo ≡ t.hi) → secret_value (point_secret bits s) x ≡ slot_value s x
point_adds bits x None e = zero_is (nat_eq x 0) where
  zero_is : (b : Bool) → cond {A = ℕ} b 0 0 ≡ 0
  zero_is true = refl
  zero_is false = refl
point_adds bits x (Some t) e = ap (λ b. cond b 1 0) (rw (← e) (grind (arith, nat_tests)))

-- sums of parts that agree modulo 2 ^ 64
parts : (a r b t : ℕ) → a % 2 ^ 64 ≡ b % 2 ^ 64 → r % 2 ^ 64 ≡ t % 2 ^ 64 → (a + r) % 2 ^ 64 ≡ (b + t) % 2 ^ 64
parts a r b t e f =
    sym (mod-add-mod a (2 ^ 64) r) ∙ (ap (λ n. (n + r) % 2 ^ 64) e ∙ (mod-add-mod b (2 ^ 64) r ∙ (sym (add-mod-mod b r (2 ^ 64)) ∙ (ap (λ n. (b + n) % 2 ^ 64) f ∙ add-mod-mod b t (2 ^ 64)))))

sum_of_two : (a b s : ℕ) → plus a b ≡ s → (0 + a + b) % 2 ^ 64 ≡ s % 2 ^ 64
sum_of_two a b s e = omega (arith, e)

slot_adds : (range : Bool) (bits x : ℕ) (s : Option Span) → IfSome s (λ t. t.lo ≤ t.hi) → (range ≡ false → IfSome s (λ t. t.lo ≡ t.hi))
    → sum_by (λ c. secret_value c x) (slot_secrets range bits s) % 2 ^ 64 ≡ slot_value s x % 2 ^ 64
slot_adds false bits x s valid single = ap (λ n. n % 2 ^ 64) (let e = point_adds bits x s (single refl) in omega (arith, e))
slot_adds true bits x None valid single =
    sum_of_two (secret_value (interval_secrets bits None).0 x) (secret_value (interval_secrets bits None).1 x) 0 (empty_adds bits x)
slot_adds true bits x (Some t) valid single =
    sum_of_two (secret_value (interval_secrets bits (Some t)).0 x) (secret_value (interval_secrets bits (Some t)).1 x) (slot_value (Some t) x) (interval_adds bits t valid x)

secrets_add : (range : Bool) (bits x : ℕ) (l : List (Option Span)) → EachSpan IsSpan l → (range ≡ false → EachSpan (λ t. t.lo ≡ t.hi) l)
    → sum_by (λ c. secret_value c x) (flat_map (slot_secrets range bits) l) % 2 ^ 64 ≡ sum_by (λ s. slot_value s x) l % 2 ^ 64
secrets_add range bits x [] valid single = refl
secrets_add range bits x (s ∷ l) valid single =
    let here = slot_adds range bits x s (All-head (λ b. IfSome b IsSpan) s l valid) (λ e. All-head (λ b. IfSome b (λ t. t.lo ≡ t.hi)) s l (single e)) in
    let more = secrets_add range bits x l (All-tail (λ b. IfSome b IsSpan) s l valid) (λ e. All-tail (λ b. IfSome b (λ t. t.lo ≡ t.hi)) s l (single e)) in
    let both = ap (sum_by (λ c. secret_value c x)) (flat_map-cons (slot_secrets range bits) s l) ∙ sum_by-append (λ c. secret_value c x) (slot_secrets range bits s) (flat_map (slot_secrets range bits) l) in
    ap (λ n. n % 2 ^ 64) both ∙ parts (sum_by (λ c. secret_value c x) (slot_secrets range bits s)) (sum_by (λ c. secret_value c x) (flat_map (slot_secrets range bits) l)) (slot_value s x) (sum_by (λ t. slot_value t x) l) here more
    ∙ sym (ap (λ n. n % 2 ^ 64) (sum_by-cons (λ t. slot_value t x) s l))

low_bit : (b : Bool) → cond {A = ℕ} b 1 0 % 2 ^ 64 ≡ cond b 1 0
low_bit true = refl
low_bit false = refl

-- the secrets of the slots of branches add to 1 where some branch's interval holds x, and to 0 elsewhere
pub slots_add : (range : Bool) (bits x : ℕ) (branches : List (Option Span)) → EachSpan IsSpan branches → (range ≡ false → EachSpan (λ t. t.lo ≡ t.hi) branches)
    → secrets_value (flat_map (slot_secrets range bits) (slots branches)) x ≡ cond (held (allowed branches) x) 1 0
slots_add range bits x branches valid single =
    secrets_add range bits x (slots branches) (valid_slots branches valid) (λ e. single_slots branches valid (single e))
    ∙ (ap (λ n. n % 2 ^ 64) (value_slots branches x valid) ∙ low_bit (held (allowed branches) x))

module _ (columns : List ColumnParts) (places : List ℕ) (range : Bool) (some : 1 ≤ length places) where
  -- and so, at a row's joined key, to 1 where some branch holds of the row, and to 0 elsewhere
  pub secrets_tell : (bits n : ℕ) (params : List ℕ) (r : Row) → RowHasBits columns places r → AllZip (HasBits columns) (times n (branch_columns places range)) params
      → secrets_value (flat_map (slot_secrets range bits) (slots (branch_spans columns n places range params))) (row_key columns places r) ≡ cond (some_branch_holds n places range params r) 1 0
  secrets_tell bits n params r h z =
      let spans = branch_spans columns n places range params in
      let fit = all_at (λ (s : Option Span). IfSome s (λ t. (t.lo ≤ t.hi) × (t.hi < 2 ^ key_bits columns places))) spans (spans_fit columns places range some n params z) in
      let valid : EachSpan IsSpan spans = λ k d i. first (λ t. t.lo ≤ t.hi) (λ t. t.hi < 2 ^ key_bits columns places) (get_or spans k d) (fit k d i) in
      let single : range ≡ false → EachSpan (λ t. t.lo ≡ t.hi) spans = λ e. subst (λ b. EachSpan (λ t. t.lo ≡ t.hi) (branch_spans columns n places b params)) (sym e) (all_at (λ (s : Option Span). IfSome s (λ t. t.lo ≡ t.hi)) (branch_spans columns n places false params) (single_spans columns n places params)) in
      slots_add range bits (row_key columns places r) spans valid single ∙ ap (λ b. cond b 1 0) (sym (held_where columns places range some n params r h z))
