-- Which rows a branch holds of.
use Rattle.std.proofs.Common.{◌≡◌, ℕ, zero, suc, ◌+◌, ◌-◌, ◌*◌, ◌<◌, ◌≤◌, Bool, true, false, ◌&&◌, ◌||◌, nat_le, eqb, List, [], ◌∷◌, length, take, drop, slice_index, refl, sym, ap, ◌∙◌, arith}
use Rattle.std.proofs.lemmas.Bool.{eq-eqb, ne_eqb}
use Rattle.std.proofs.lemmas.Bool.Decides.{nat_tests}
use Rattle.std.proofs.Math.Nat.{add-mul}
use Rattle.std.proofs.lemmas.List.{drop-drop, take_all}
use Rattle.cell_merge.specs.Rows.{Row, code}
use Rattle.query_reader.specs.Matching.{branch_params, branch_holds, some_branch_holds}

yes_le : (a b : ℕ) → a ≤ b → nat_le a b ≡ true
yes_le a b h = grind (arith, nat_tests)

no_le : (a b : ℕ) → b < a → nat_le a b ≡ false
no_le a b h = grind (arith, nat_tests)

-- both tests are the one that is left
pub low_enough : (lo hi x : ℕ) → lo ≤ x → (nat_le lo x && nat_le x hi) ≡ nat_le x hi
low_enough lo hi x h = ap (λ t. t && nat_le x hi) (yes_le lo x h)

pub too_low : (lo hi x : ℕ) → x < lo → (nat_le lo x && nat_le x hi) ≡ nat_le lo x
too_low lo hi x h = ap (λ t. t && nat_le x hi) (no_le lo x h) ∙ sym (no_le lo x h)

pub range_some : (c x : ℕ) (ps : List ℕ) (r : Row) → 2 ≤ length ps → code c r ≡ x → branch_holds (c ∷ []) true ps r ≡ (nat_le (slice_index ps 0) x && nat_le x (slice_index ps 1))
unfolding branch_holds
range_some c x [] r n e = absurd (omega arith)
range_some c x (p ∷ []) r n e = absurd (omega arith)
range_some c x (p ∷ q ∷ more) r n e = ap (λ x. nat_le p x && nat_le x q) e

pub range_none : (c : ℕ) (ps : List ℕ) (r : Row) → length ps < 2 → branch_holds (c ∷ []) true ps r ≡ false
unfolding branch_holds
range_none c [] r n = refl
range_none c (p ∷ []) r n = refl
range_none c (p ∷ q ∷ more) r n = absurd (omega arith)

pub branch_nil : (range : Bool) (ps : List ℕ) (r : Row) → branch_holds [] range ps r ≡ true
unfolding branch_holds
branch_nil range ps r = refl

and_true : (t : Bool) → (t && true) ≡ t
and_true true = refl
and_true false = refl

-- a column that is compared with one parameter
pub branch_equal : (c : ℕ) (cs : List ℕ) (range : Bool) (p : ℕ) (ps : List ℕ) (r : Row) → (range ≡ true → 1 ≤ length cs) → branch_holds (c ∷ cs) range (p ∷ ps) r ≡ (eqb (code c r) p && branch_holds cs range ps r)
unfolding branch_holds
branch_equal c [] true p ps r h = let n : 1 ≤ length {A = ℕ} [] = h refl in absurd (omega arith)
branch_equal c [] false p ps r h = sym (and_true (eqb (code c r) p))
branch_equal c (d ∷ cs) range p ps r h = refl

pub branch_none : (c : ℕ) (cs : List ℕ) (range : Bool) (r : Row) → branch_holds (c ∷ cs) range [] r ≡ false
unfolding branch_holds
branch_none c [] true r = refl
branch_none c [] false r = refl
branch_none c (d ∷ cs) range r = refl

pub branches_none : (columns : List ℕ) (range : Bool) (ps : List ℕ) (r : Row) → some_branch_holds 0 columns range ps r ≡ false
unfolding some_branch_holds
branches_none columns range ps r = refl

pub branches_more : (n : ℕ) (columns : List ℕ) (range : Bool) (ps : List ℕ) (r : Row)
    → some_branch_holds (suc n) columns range ps r ≡ (branch_holds columns range (take (branch_params columns range) ps) r || some_branch_holds n columns range (drop (branch_params columns range) ps) r)
unfolding some_branch_holds
branches_more n columns range ps r = refl

-- the same of lists by their first items
pub at_none : (columns : List ℕ) (range : Bool) (ps : List ℕ) (r : Row) → length columns < 1 → branch_holds columns range ps r ≡ true
at_none [] range ps r n = branch_nil range ps r
at_none (c ∷ cs) range ps r n = absurd (omega arith)

pub at_end : (columns : List ℕ) (range : Bool) (ps : List ℕ) (r : Row) → 1 ≤ length columns → length ps < 1 → branch_holds columns range ps r ≡ false
at_end [] range ps r n m = absurd (omega arith)
at_end (c ∷ cs) range [] r n m = branch_none c cs range r
at_end (c ∷ cs) range (p ∷ ps) r n m = absurd (omega arith)

-- what stands behind the first item
abbrev pub tail_of : List ℕ → List ℕ
tail_of xs = take (length xs - 1) (drop 1 xs)

tail_is : (x : ℕ) (xs : List ℕ) → tail_of (x ∷ xs) ≡ xs
tail_is x xs = take_all (suc (length xs) - 1) xs (omega arith)

pub some_behind : (n : ℕ) → false ≡ eqb n 0 → 1 ≤ n
some_behind zero h = absurd cc
some_behind (suc n) h = omega arith

at_first : (columns : List ℕ) (range : Bool) (ps : List ℕ) (r : Row) (x : ℕ) → 1 ≤ length columns → 1 ≤ length ps → (range ≡ true → 1 ≤ length (tail_of columns)) → x ≡ code (slice_index columns 0) r
    → branch_holds columns range ps r ≡ (eqb x (slice_index ps 0) && branch_holds (tail_of columns) range (tail_of ps) r)
at_first [] range ps r x n m h e = absurd (omega arith)
at_first (c ∷ cs) range [] r x n m h e = absurd (omega arith)
at_first (c ∷ cs) range (p ∷ ps) r x n m h e =
    rw (tail_is c cs, tail_is p ps) (branch_equal c cs range p ps r (λ t. rw (tail_is c cs) at h t) ∙ ap (λ x. eqb x p && branch_holds cs range ps r) (sym e))

-- where the first column has its parameter, the others tell
pub at_same : (columns : List ℕ) (range : Bool) (ps : List ℕ) (r : Row) (x : ℕ) → 1 ≤ length columns → 1 ≤ length ps → (range ≡ true → 1 ≤ length (tail_of columns)) → x ≡ code (slice_index columns 0) r
    → x ≡ slice_index ps 0 → branch_holds (tail_of columns) range (tail_of ps) r ≡ branch_holds columns range ps r
at_same columns range ps r x n m h e same =
    sym (at_first columns range ps r x n m h e ∙ ap (λ t. t && branch_holds (tail_of columns) range (tail_of ps) r) (eq-eqb x (slice_index ps 0) same))

pub at_other : (columns : List ℕ) (range : Bool) (ps : List ℕ) (r : Row) (x : ℕ) → 1 ≤ length columns → 1 ≤ length ps → (range ≡ true → 1 ≤ length (tail_of columns)) → x ≡ code (slice_index columns 0) r
    → (x ≡ slice_index ps 0 → ⊥) → eqb x (slice_index ps 0) ≡ branch_holds columns range ps r
at_other columns range ps r x n m h e other =
    let no : eqb x (slice_index ps 0) ≡ false = ne_eqb x (slice_index ps 0) other in
    no ∙ sym (at_first columns range ps r x n m h e ∙ ap (λ t. t && branch_holds (tail_of columns) range (tail_of ps) r) no)

-- one of several branches, by the i-th
pub branches_step : (n i w m : ℕ) (columns : List ℕ) (range : Bool) (ps : List ℕ) (r : Row) → i < n → m ≡ i + 1 → w ≡ branch_params columns range
    → some_branch_holds (n - i) columns range (drop (i * w) ps) r ≡ (branch_holds columns range (take (i * w + w - i * w) (drop (i * w) ps)) r || some_branch_holds (n - m) columns range (drop (m * w) ps) r)
branches_step n i w m columns range ps r h step width =
    let one : n - i ≡ suc (n - m) = omega (arith, step) in
    let part : i * w + w - i * w ≡ branch_params columns range = omega (arith, width) in
    let next : drop (branch_params columns range) (drop (i * w) ps) ≡ drop (m * w) ps =
    let split : (i + 1) * w ≡ i * w + 1 * w = add-mul i 1 w in
    let sum : i * w + branch_params columns range ≡ m * w = rw step (omega (arith, split, width)) in
    drop-drop (branch_params columns range) (i * w) ps ∙ ap (λ k. drop k ps) sum in
    ap (λ k. some_branch_holds k columns range (drop (i * w) ps) r) one
    ∙ (branches_more (n - m) columns range (drop (i * w) ps) r
    ∙ (ap (λ k. branch_holds columns range (take k (drop (i * w) ps)) r || some_branch_holds (n - m) columns range (drop (branch_params columns range) (drop (i * w) ps)) r) (sym part)
    ∙ ap (λ l. branch_holds columns range (take (i * w + w - i * w) (drop (i * w) ps)) r || some_branch_holds (n - m) columns range l r) next))

or_true : (a b : Bool) → a ≡ true → (a || b) ≡ true
or_true true b h = refl
or_true false b h = absurd cc

or_false : (a b : Bool) → a ≡ false → (a || b) ≡ b
or_false true b h = absurd cc
or_false false b h = refl

pub branches_found : (n i w : ℕ) (columns : List ℕ) (range : Bool) (ps : List ℕ) (r : Row) → i < n → w ≡ branch_params columns range → branch_holds columns range (take (i * w + w - i * w) (drop (i * w) ps)) r ≡ true
    → some_branch_holds (n - i) columns range (drop (i * w) ps) r ≡ true
branches_found n i w columns range ps r h width t =
    branches_step n i w (i + 1) columns range ps r h refl width ∙ or_true (branch_holds columns range (take (i * w + w - i * w) (drop (i * w) ps)) r) _ t

pub branches_past : (n i w : ℕ) (columns : List ℕ) (range : Bool) (ps : List ℕ) (r : Row) → i < n → w ≡ branch_params columns range → branch_holds columns range (take (i * w + w - i * w) (drop (i * w) ps)) r ≡ false
    → some_branch_holds (n - (i + 1)) columns range (drop ((i + 1) * w) ps) r ≡ some_branch_holds (n - i) columns range (drop (i * w) ps) r
branches_past n i w columns range ps r h width t =
    sym (branches_step n i w (i + 1) columns range ps r h refl width ∙ or_false (branch_holds columns range (take (i * w + w - i * w) (drop (i * w) ps)) r) _ t)

pub branches_end : (n i w : ℕ) (columns : List ℕ) (range : Bool) (ps : List ℕ) (r : Row) → n ≤ i → some_branch_holds (n - i) columns range (drop (i * w) ps) r ≡ false
branches_end n i w columns range ps r h =
    let none : n - i ≡ 0 = omega arith in
    ap (λ k. some_branch_holds k columns range (drop (i * w) ps) r) none ∙ branches_none columns range (drop (i * w) ps) r
