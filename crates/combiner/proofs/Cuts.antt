-- Words, cut into cells.
use Rattle.std.proofs.Common.{◌≡◌, ℕ, zero, suc, ◌+◌, ◌*◌, ◌/◌, ◌%◌, ◌<◌, List, [], ◌∷◌, ◌++◌, length, map, take, drop, refl, sym, ap, ◌∙◌, arith}
use Rattle.std.specs.Fork.{slice_chunk}
use Rattle.std.specs.List.{flat_map, fold, range_with_len}
use Rattle.std.proofs.Math.Nat.{div-eq_of_lt}
use Rattle.std.proofs.lemmas.List.{drop-drop, drop_at, length-append, take_at}
use Rattle.std.proofs.lemmas.Nat.{div-add-mod', div-mul-add, mod_below}
use Rattle.cell_merge.specs.declared.spec.CellSpec.{CellSpec}
use Rattle.cell_merge.specs.Cells.{merge}
use Rattle.combiner.specs.Finals.{cells_in}

map_moved : {A : Type 0} (f g : ℕ → A) → ((n : ℕ) → f (n + 1) ≡ g n) → (l n : ℕ) → map f (range_with_len (l + 1) n) ≡ map g (range_with_len l n)
map_moved f g same l zero = refl
map_moved f g same l (suc n) = ap (λ x. x ∷ map f (range_with_len (l + 1 + 1) n)) (same l) ∙ ap (λ r. g l ∷ r) (map_moved f g same (l + 1) n)

-- one more cell in front of the others
pub one_more : (width : ℕ) (a b : List ℕ) → 0 < width → length a ≡ width → cells_in width (a ++ b) ≡ a ∷ cells_in width b
one_more width a b some len =
    let n = length b / width in
    let parts : n * width + length b % width ≡ length b = div-add-mod' (length b) width in
    let whole : length (a ++ b) ≡ (n + 1) * width + length b % width = omega (arith, length-append a b, len, parts) in
    let count : length (a ++ b) / width ≡ suc n = ap (λ l. l / width) whole ∙ (div-mul-add (n + 1) width (length b % width) (mod_below (length b) width some) ∙ omega arith) in
    let first : slice_chunk (a ++ b) width 0 ≡ a =
    let none : 0 * width ≡ 0 = omega arith in ap (λ at. take width (drop at (a ++ b))) none ∙ take_at a b width len in
    let next : (i : ℕ) → slice_chunk (a ++ b) width (i + 1) ≡ slice_chunk b width i =
    λ i.
    let at : (i + 1) * width ≡ width + i * width = omega arith in
    ap (λ k. take width (drop k (a ++ b))) at
    ∙ (ap (λ l. take width l) (sym (drop-drop (i * width) width (a ++ b))) ∙ ap (λ l. take width (drop (i * width) l)) (drop_at a b width len)) in
    ap (λ k. map (slice_chunk (a ++ b) width) (range_with_len 0 k)) count
    ∙ (ap (λ c. c ∷ map (slice_chunk (a ++ b) width) (range_with_len 1 n)) first
    ∙ ap (λ r. a ∷ r) (map_moved (slice_chunk (a ++ b) width) (slice_chunk b width) next 0 n))

pub no_more : (width : ℕ) (words : List ℕ) → length words < width → cells_in width words ≡ []
no_more width words short = ap (λ k. map (slice_chunk words width) (range_with_len 0 k)) (div-eq_of_lt short)

-- lists of so many words each, one behind another, are cut into these lists
pub cut_again : {A : Type 0} (f : A → List ℕ) (width : ℕ) → 0 < width → ((x : A) → length (f x) ≡ width) → (xs : List A) → cells_in width (flat_map f xs) ≡ map f xs
cut_again f width some each [] = no_more width [] some
cut_again f width some each (x ∷ xs) = one_more width (f x) (flat_map f xs) some (each x) ∙ ap (λ r. f x ∷ r) (cut_again f width some each xs)

-- ---- their merge

pub merge_first : (spec : CellSpec) (width : ℕ) (into all cell rest : List ℕ) → 0 < width → all ≡ cell ++ rest → length cell ≡ width
    → fold (merge spec) into (cells_in width all) ≡ fold (merge spec) (merge spec into cell) (cells_in width rest)
merge_first spec width into all cell rest some parts len = ap (λ l. fold (merge spec) into (cells_in width l)) parts ∙ ap (λ cells. fold (merge spec) into cells) (one_more width cell rest some len)

pub merge_none : (spec : CellSpec) (width : ℕ) (into rest : List ℕ) → length rest < width → fold (merge spec) into (cells_in width rest) ≡ into
merge_none spec width into rest short = ap (λ cells. fold (merge spec) into cells) (no_more width rest short)
