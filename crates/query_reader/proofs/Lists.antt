-- Lists of which each item passes, or none does.
use Rattle.std.proofs.Common.{◌≡◌, ℕ, suc, ◌+◌, ◌≤◌, Bool, true, false, not, ◌&&◌, cond, nat_lt, List, [], ◌∷◌, ◌++◌, length, map, Option, Some, None, refl, arith}
use Rattle.std.specs.List.{AllByRecursion, AllZip, All, find, position, position_or_len, flat_map, list_all}
use Rattle.std.specs.Option.{option_map}
use Rattle.std.proofs.lemmas.List.Elements.{All-nil, All-cons}
use Rattle.std.proofs.lemmas.Bool.Decides.{nat_tests}

pub both_true : (a b : Bool) → (a && b) ≡ true → (a ≡ true) × (b ≡ true)
both_true true b h = (refl, h)
both_true false b h = absurd cc

pub no_image : {A B : Type 0} (f : A → B) (o : Option A) → option_map f o ≡ None → o ≡ None
no_image f None h = refl
no_image f (Some x) h = absurd cc

no_first : {A : Type 0} (t : Bool) (x : A) (o : Option A) → cond t (Some x) o ≡ None → (t ≡ false) × (o ≡ None)
no_first true x o h = absurd cc
no_first false x o h = (refl, h)

-- where nothing is found, nothing passes
pub none_found : {A : Type 0} (p : A → Bool) (xs : List A) → find p xs ≡ None → AllByRecursion (λ x. p x ≡ false) xs
none_found p [] h = tt
none_found p (x ∷ xs) h = let both = no_first (p x) x (find p xs) h in (both.0, none_found p xs both.1)

pub each_left : {A : Type 0} (P : A → Type 0) (xs ys : List A) → AllByRecursion P (xs ++ ys) → AllByRecursion P xs
each_left P [] ys h = tt
each_left P (x ∷ xs) ys h = (h.0, each_left P xs ys h.1)

pub each_right : {A : Type 0} (P : A → Type 0) (xs ys : List A) → AllByRecursion P (xs ++ ys) → AllByRecursion P ys
each_right P [] ys h = h
each_right P (x ∷ xs) ys h = each_right P xs ys h.1

pub each_both : {A : Type 0} (P Q : A → Type 0) (xs : List A) → AllByRecursion P xs → AllByRecursion Q xs → AllByRecursion (λ x. P x × Q x) xs
each_both P Q [] h k = tt
each_both P Q (x ∷ xs) h k = ((h.0, k.0), each_both P Q xs h.1 k.1)

-- what each item of the lists of some items passes, the items pass by their lists
pub all_lists : {A B : Type 0} (P : B → Type 0) (Q : A → Type 0) (f : A → List B) → ((x : A) → AllByRecursion P (f x) → Q x) → (xs : List A) → AllByRecursion P (flat_map f xs) → AllByRecursion Q xs
all_lists P Q f step [] h = tt
all_lists P Q f step (x ∷ xs) h = (step x (each_left P (f x) (flat_map f xs) h), all_lists P Q f step xs (each_right P (f x) (flat_map f xs) h))

pub all_images : {A B : Type 0} (P : B → Type 0) (Q : A → Type 0) (f : A → B) → ((x : A) → P (f x) → Q x) → (xs : List A) → AllByRecursion P (map f xs) → AllByRecursion Q xs
all_images P Q f step [] h = tt
all_images P Q f step (x ∷ xs) h = (step x h.0, all_images P Q f step xs h.1)

-- the images of items that pass
pub all_of : {A B : Type 0} (P : B → Type 0) (f : A → B) (xs : List A) → AllByRecursion (λ x. P (f x)) xs → All P (map f xs)
all_of P f [] h = All-nil P
all_of P f (x ∷ xs) h = All-cons P (f x) (map f xs) h.0 (all_of P f xs h.1)

past : (m n : ℕ) → nat_lt m n ≡ false → n ≤ m
past m n h = grind (arith, nat_tests)

stuck_step : (t : Bool) (m n : ℕ) → suc n ≤ cond (not t) (1 + m) 0 → (t ≡ false) × (n ≤ m)
stuck_step true m n h = absurd (omega arith)
stuck_step false m n h = (refl, omega arith)

stuck : {A : Type 0} (p : A → Bool) (xs : List A) → length xs ≤ position_or_len p xs → AllByRecursion (λ x. p x ≡ false) xs
stuck p [] h = tt
stuck p (x ∷ xs) h = let both = stuck_step (p x) (position_or_len p xs) (length xs) h in (both.0, stuck p xs both.1)

-- where no place passes, no item does
pub none_placed : {A : Type 0} (p : A → Bool) (xs : List A) → position p xs ≡ None → AllByRecursion (λ x. p x ≡ false) xs
none_placed p xs h =
    stuck p xs (past (position_or_len p xs) (length xs) (no_first (nat_lt (position_or_len p xs) (length xs)) (position_or_len p xs) None h).0)

-- a test of each item, and of the first
pub first_passes : {A : Type 0} (p : A → Bool) (x : A) (xs : List A) → list_all p (x ∷ xs) ≡ true → p x ≡ true
first_passes p x xs h = (both_true (p x) (list_all p xs) h).0

-- a relation place by place, by what each item of the left list is
pub zip_with : {A B : Type 0} (P : A → Type 0) (R S : A → B → Type 0) → ((x : A) (y : B) → P x → R x y → S x y) → (xs : List A) (ys : List B) → AllByRecursion P xs → AllZip R xs ys → AllZip S xs ys
zip_with P R S step [] [] h z = tt
zip_with P R S step [] (y ∷ ys) h z = absurd z
zip_with P R S step (x ∷ xs) [] h z = absurd z
zip_with P R S step (x ∷ xs) (y ∷ ys) h z = (step x y h.0 z.0, zip_with P R S step xs ys h.1 z.1)

pub each_append : {A : Type 0} (P : A → Type 0) (xs ys : List A) → AllByRecursion P xs → AllByRecursion P ys → AllByRecursion P (xs ++ ys)
each_append P [] ys h k = k
each_append P (x ∷ xs) ys h k = (h.0, each_append P xs ys h.1 k)

-- what each item is, at each place
pub all_at : {A : Type 0} (P : A → Type 0) (xs : List A) → AllByRecursion P xs → All P xs
all_at P [] h = All-nil P
all_at P (x ∷ xs) h = All-cons P x xs h.0 (all_at P xs h.1)
