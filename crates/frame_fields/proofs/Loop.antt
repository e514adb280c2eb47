-- Reading fields of one kind one after the other, as a loop does.
use Rattle.std.proofs.Common.{◌≡◌, ◌⊎◌, ℕ, suc, ◌-◌, ◌+◌, ◌≤◌, ◌<◌, List, [], ◌∷◌, ◌++◌, Ok, Err, refl, sym, ap, ◌∙◌, append_assoc, arith, inl, inr}
use Rattle.std.proofs.lemmas.List.{append-nil}
use Rattle.spl_words.specs.declared.fault.FrameFault.{FrameFault}
use Rattle.spl_words.specs.declared.fault.FrameFault.TheVariants.{OutOfMemory}
use Rattle.spl_words.specs.Cursor.{Spot}
use Rattle.spl_words.specs.Results.{◌>>=◌}
use Rattle.frame_fields.specs.Reading.{At, many_at}

-- what was read before, and what is still read
abbrev pub with_front : {A : Type 0} → List A → At (List A) → At (List A)
with_front front read = read >>= λ x. Ok (front ++ x.0, x.1)

regroup : {A : Type 0} (front : List A) (n : A) (read : At (List A)) → with_front front (read >>= λ x. Ok (n ∷ x.0, x.1)) ≡ with_front (front ++ n ∷ []) read
regroup {A} front n (Ok x) = ap (λ (ns : List A). Ok (ns, x.1)) (simp append_assoc)
regroup front n (Err f) = refl

pub goes_on : {A : Type 0} (one : Spot → At A) (front : List A) (count i : ℕ) (p : Spot) (n : A) (after : Spot) (total : At (List A)) → i < count → one p ≡ Ok (n, after)
    → with_front front (many_at one (count - i) p) ≡ total → with_front (front ++ n ∷ []) (many_at one (count - (i + 1)) after) ≡ total
unfolding many_at
goes_on one front count i p n after total lt h so_far =
    let k : count - i ≡ suc (count - (i + 1)) = omega arith in
    let step : with_front front (many_at one (count - i) p) ≡ with_front (front ++ n ∷ []) (many_at one (count - (i + 1)) after) = rw (k, h) (regroup front n (many_at one (count - (i + 1)) after)) in
    sym step ∙ so_far

pub ends : {A : Type 0} (one : Spot → At A) (e : FrameFault) (front : List A) (count i : ℕ) (p : Spot) (total : At (List A)) → i < count → (e ≡ OutOfMemory) ⊎ (one p ≡ Err e)
    → with_front front (many_at one (count - i) p) ≡ total → (e ≡ OutOfMemory) ⊎ (total ≡ Err e)
unfolding many_at
ends one e front count i p total lt (inl memory) so_far = inl memory
ends one e front count i p total lt (inr h) so_far =
    let k : count - i ≡ suc (count - (i + 1)) = omega arith in
    let step : with_front front (many_at one (count - i) p) ≡ Err e = rw (k, h) refl in
    inr (sym so_far ∙ step)

pub is_done : {A : Type 0} (one : Spot → At A) (front : List A) (count i : ℕ) (p : Spot) (total : At (List A)) → count ≤ i → with_front front (many_at one (count - i) p) ≡ total → total ≡ Ok (front, p)
unfolding many_at
is_done {A} one front count i p total le so_far =
    let k : count - i ≡ 0 = omega arith in
    let step : with_front front (many_at one (count - i) p) ≡ Ok (front, p) = rw k (ap (λ (ns : List A). Ok (ns, p)) (append-nil front)) in
    sym so_far ∙ step
