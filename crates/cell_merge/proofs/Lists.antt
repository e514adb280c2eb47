-- What holds of each item of a list, by recursion, and interleaved lists.
use Rattle.std.proofs.Common.{◌≡◌, ℕ, zero, suc, ◌+◌, ◌≤◌, Bool, true, false, ◌||◌, cond, List, [], ◌∷◌, ◌++◌, length, map, take, refl, sym, arith}
use Rattle.std.specs.List.{filter, AllByRecursion}
use Rattle.std.proofs.lemmas.Bool.{cases_Bool, false≢true}
use Rattle.cell_merge.specs.Rows.{Interleaves}
use Rattle.cell_merge.specs.Rows.Interleaves.{none, left, right}

pub each_weaker : {A : Type 0} (P Q : A → Type 0) → ((x : A) → P x → Q x) → (xs : List A) → AllByRecursion P xs → AllByRecursion Q xs
each_weaker P Q f [] h = tt
each_weaker P Q f (x ∷ xs) h = (f x h.0, each_weaker P Q f xs h.1)

pub each-take : {A : Type 0} (P : A → Type 0) (k : ℕ) (xs : List A) → AllByRecursion P xs → AllByRecursion P (take k xs)
each-take P zero xs h = tt
each-take P (suc k) [] h = tt
each-take P (suc k) (x ∷ xs) h = (h.0, each-take P k xs h.1)

pub each-map : {A B : Type 0} (P : B → Type 0) (f : A → B) (xs : List A) → AllByRecursion (λ x. P (f x)) xs → AllByRecursion P (map f xs)
each-map P f [] h = tt
each-map P f (x ∷ xs) h = (h.0, each-map P f xs h.1)

pub each_left : {A : Type 0} (P : A → Type 0) (a b c : List A) → Interleaves a b c → AllByRecursion P c → AllByRecursion P a
each_left P _ _ _ none h = tt
each_left P _ _ _ (left x a b c i) h = (h.0, each_left P a b c i h.1)
each_left P _ _ _ (right x a b c i) h = each_left P a b c i h.1

pub each_right : {A : Type 0} (P : A → Type 0) (a b c : List A) → Interleaves a b c → AllByRecursion P c → AllByRecursion P b
each_right P _ _ _ none h = tt
each_right P _ _ _ (left x a b c i) h = each_right P a b c i h.1
each_right P _ _ _ (right x a b c i) h = (h.0, each_right P a b c i h.1)

pub Interleaves-map : {A B : Type 0} (f : A → B) (a b c : List A) → Interleaves a b c → Interleaves (map f a) (map f b) (map f c)
Interleaves-map f _ _ _ none = none
Interleaves-map f _ _ _ (left x a b c i) = left (f x) (map f a) (map f b) (map f c) (Interleaves-map f a b c i)
Interleaves-map f _ _ _ (right x a b c i) = right (f x) (map f a) (map f b) (map f c) (Interleaves-map f a b c i)

filter_step : {A : Type 0} (t : Bool) (x : A) (a b c : List A) → Interleaves a b c
    → Interleaves (cond t (x ∷ a) a) b (cond t (x ∷ c) c) × Interleaves a (cond t (x ∷ b) b) (cond t (x ∷ c) c)
filter_step true x a b c i = (left x a b c i, right x a b c i)
filter_step false x a b c i = (i, i)

pub Interleaves-filter : {A : Type 0} (p : A → Bool) (a b c : List A) → Interleaves a b c → Interleaves (filter p a) (filter p b) (filter p c)
Interleaves-filter p _ _ _ none = none
Interleaves-filter p _ _ _ (left x a b c i) = (filter_step (p x) x (filter p a) (filter p b) (filter p c) (Interleaves-filter p a b c i)).0
Interleaves-filter p _ _ _ (right x a b c i) = (filter_step (p x) x (filter p a) (filter p b) (filter p c) (Interleaves-filter p a b c i)).1

pub length-interleaved : {A : Type 0} (a b c : List A) → Interleaves a b c → length c ≡ length a + length b
length-interleaved _ _ _ none = omega arith
length-interleaved _ _ _ (left x a b c i) = let e = length-interleaved a b c i in omega arith
length-interleaved _ _ _ (right x a b c i) = let e = length-interleaved a b c i in omega arith

parts_step : {A : Type 0} (s t : Bool) (x : A) (a b c : List A) → (s ≡ true → t ≡ false) → Interleaves a b c
    → Interleaves (cond s (x ∷ a) a) (cond t (x ∷ b) b) (cond (s || t) (x ∷ c) c)
parts_step true true x a b c h i = absurd (false≢true (sym (h refl)))
parts_step true false x a b c h i = left x a b c i
parts_step false true x a b c h i = right x a b c i
parts_step false false x a b c h i = i

-- what passes one of two tests that exclude each other
pub Interleaves-parts : {A : Type 0} (p q : A → Bool) → ((x : A) → p x ≡ true → q x ≡ false) → (l : List A)
    → Interleaves (filter p l) (filter q l) (filter (λ x. p x || q x) l)
Interleaves-parts p q h [] = none
Interleaves-parts p q h (x ∷ l) = parts_step (p x) (q x) x (filter p l) (filter q l) (filter (λ x. p x || q x) l) (h x) (Interleaves-parts p q h l)

pub Interleaves-append : {A : Type 0} (a b : List A) → Interleaves a b (a ++ b)
Interleaves-append [] [] = none
Interleaves-append [] (y ∷ b) = right y [] b b (Interleaves-append [] b)
Interleaves-append (x ∷ a) b = left x a b (a ++ b) (Interleaves-append a b)

each_step : {A : Type 0} (P : A → Type 0) (t : Bool) (x : A) (l : List A) → P x → AllByRecursion P l → AllByRecursion P (cond t (x ∷ l) l)
each_step P true x l p h = (p, h)
each_step P false x l p h = h

pub each-filter : {A : Type 0} (P : A → Type 0) (p : A → Bool) (l : List A) → AllByRecursion P l → AllByRecursion P (filter p l)
each-filter P p [] h = tt
each-filter P p (x ∷ l) h = each_step P (p x) x (filter p l) h.0 (each-filter P p l h.1)

length_step : {A : Type 0} (t : Bool) (x : A) (a b : List A) → length a ≤ length b → length (cond t (x ∷ a) a) ≤ suc (length b)
length_step true x a b h = omega arith
length_step false x a b h = omega arith

pub length-filter-le : {A : Type 0} (p : A → Bool) (l : List A) → length (filter p l) ≤ length l
length-filter-le p [] = omega arith
length-filter-le p (x ∷ l) = length_step (p x) x (filter p l) l (length-filter-le p l)
