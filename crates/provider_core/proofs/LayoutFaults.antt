-- The first key that differs from its tree.
use Rattle.std.proofs.Common.{◌≡◌, ◌<◌, ◌≤◌, ◌+◌, ℕ, zero, suc, Bool, true, false, cond, List, [], ◌∷◌, length, drop, Option, Some, None, refl, sym, ap, subst, ◌∙◌, arith, get_or, slice_get, length-drop}
use Rattle.std.proofs.lemmas.List.{drop_more, drop_all, drop-drop}
use Rattle.spl_words.specs.declared.secret.KeySpec.{KeySpec}
use Rattle.key_frames.specs.declared.keys.Key.{Key}
use Rattle.provider_core.specs.Layouts.{is_key_of, layout_differs, IsPlaced}

-- ---- the first key that differs

first_off : (i : ℕ) (ts : List KeySpec) (k : Key) (ks : List Key) → (IsPlaced (slice_get ts 0) k → ⊥) → layout_differs i ts (k ∷ ks) ≡ Some i
unfolding layout_differs
first_off i [] k ks never = refl
first_off i (t ∷ ts) k ks never = chosen (is_key_of t k) refl where
  chosen : (b : Bool) → is_key_of t k ≡ b → cond b (layout_differs (i + 1) ts ks) (Some i) ≡ Some i
  chosen false e = refl
  chosen true e = absurd (never e)

first_on : (i : ℕ) (ts : List KeySpec) (k : Key) (ks : List Key) → IsPlaced (slice_get ts 0) k → layout_differs i ts (k ∷ ks) ≡ layout_differs (i + 1) (drop 1 ts) ks
unfolding layout_differs
first_on i [] k ks is = absurd is
first_on i (t ∷ ts) k ks is = ap (λ b. cond b (layout_differs (i + 1) ts ks) (Some i)) is

get-drop : {A : Type 0} (xs : List A) (n : ℕ) → slice_get (drop n xs) 0 ≡ slice_get xs n
get-drop [] zero = refl
get-drop [] (suc n) = refl
get-drop (x ∷ xs) zero = refl
get-drop (x ∷ xs) (suc n) = get-drop xs n

-- what is left to compare, from a place on
abbrev pub left_differs : List KeySpec → List Key → ℕ → Option ℕ
left_differs trees keys i = layout_differs i (drop i trees) (drop i keys)

keys_left : (keys : List Key) (i : ℕ) (k : Key) → i < length keys → k ≡ get_or keys i k → drop i keys ≡ k ∷ drop (i + 1) keys
keys_left keys i k h is = drop_more keys i k h ∙ ap (λ x. x ∷ drop (i + 1) keys) (sym is)

pub differs_here : (trees : List KeySpec) (keys : List Key) (i : ℕ) (k : Key) → i < length keys → k ≡ get_or keys i k → (IsPlaced (slice_get trees i) k → ⊥) → left_differs trees keys i ≡ Some i
differs_here trees keys i k h is never =
    ap (layout_differs i (drop i trees)) (keys_left keys i k h is)
    ∙ first_off i (drop i trees) k (drop (i + 1) keys) (λ placed. never (subst (λ o. IsPlaced o k) (get-drop trees i) placed))

pub same_here : (trees : List KeySpec) (keys : List Key) (i : ℕ) (k : Key) → i < length keys → k ≡ get_or keys i k → IsPlaced (slice_get trees i) k → left_differs trees keys i ≡ left_differs trees keys (i + 1)
same_here trees keys i k h is placed =
    ap (layout_differs i (drop i trees)) (keys_left keys i k h is)
    ∙ first_on i (drop i trees) k (drop (i + 1) keys) (subst (λ o. IsPlaced o k) (sym (get-drop trees i)) placed)
    ∙ ap (λ ts. layout_differs (i + 1) ts (drop (i + 1) keys)) (drop-drop 1 i trees)

no_keys : (i : ℕ) (ts : List KeySpec) → 0 < length ts → layout_differs i ts [] ≡ Some i
unfolding layout_differs
no_keys i [] h = absurd (omega arith)
no_keys i (t ∷ ts) h = refl

nothing : (i : ℕ) (ts : List KeySpec) → ts ≡ [] → layout_differs i ts [] ≡ None
unfolding layout_differs
nothing i ts e = ap (λ ts. layout_differs i ts []) e

-- a key is missing
pub one_missing : (trees : List KeySpec) (keys : List Key) (i : ℕ) → i ≡ length keys → i < length trees → left_differs trees keys i ≡ Some i
one_missing trees keys i end more =
    let long = length-drop i trees in
    ap (layout_differs i (drop i trees)) (drop_all i keys (omega (arith, end))) ∙ no_keys i (drop i trees) (omega (arith, long, more))

-- no key is missing, and none is left
pub none_differs : (trees : List KeySpec) (keys : List Key) (i : ℕ) → i ≡ length keys → length trees ≤ i → left_differs trees keys i ≡ None
none_differs trees keys i end less =
    ap (layout_differs i (drop i trees)) (drop_all i keys (omega (arith, end))) ∙ nothing i (drop i trees) (drop_all i trees less)
