-- What writing files leaves, one file at a time.
use Rattle.std.proofs.Common.{◌≡◌, ℕ, zero, suc, ◌<◌, List, [], ◌∷◌, Option, Some, None, Result, Ok, Err, sym, subst, inl, inr, arith, slice_index_or, ◌∙◌}
use Rattle.std.specs.Prelude.{IfSome, IsSomeAnd}
use Rattle.std.specs.FinMap.{insert}
use Rattle.spl_outside.specs.Content.{FileMap, KeepsOthers, KeepsBut}
use Rattle.spl_outside.proofs.Lookup.{insert_keeps}
use Rattle.splinter_status.specs.declared.stops.Stopped.{Stopped}
use Rattle.splinter_status.specs.declared.stops.Stopped.TheVariants as stopped
use Rattle.splinter_steps.specs.Writes.{put_all, Puts, PutsSome}

-- one file was written
pub puts_one : (files now : Option FileMap) (f : List ℕ × List ℕ) → IfSome files (λ m. now ≡ Some (insert m f.0 f.1)) → IfSome files (λ m. Puts (f ∷ []) m now (Ok tt))
unfolding put_all
puts_one None now f h = tt
puts_one (Some m) now f h = h

-- it wasn't, for want of memory
pub puts_none : (files now : Option FileMap) (f : List ℕ × List ℕ) → IfSome files (λ m. now ≡ Some m) → IfSome files (λ m. Puts (f ∷ []) m now (Err stopped.OutOfMemory))
unfolding put_all
puts_none None now f h = tt
puts_none (Some m) now f h = (0, (omega arith, h))

-- it may have been
pub puts_some : (files now : Option FileMap) (f : List ℕ × List ℕ) → IfSome files (λ m. IsSomeAnd now (KeepsOthers m f.0)) → IfSome files (λ m. Puts (f ∷ []) m now (Err stopped.FileFault))
unfolding PutsSome
puts_some None now f h = tt
puts_some (Some m) now f h = inl h

-- one file was written, and then others, as the last answer says
puts_more : (m : FileMap) (now : Option FileMap) (f : List ℕ × List ℕ) (fs : List (List ℕ × List ℕ)) (r : Result (Unit {0}) Stopped) → Puts fs (insert m f.0 f.1) now r → Puts (f ∷ fs) m now r
unfolding put_all PutsSome
puts_more m now f fs (Ok u) h = h
puts_more m now f fs (Err stopped.FileFault) h = inr h
puts_more m now f fs (Err stopped.OutOfMemory) h = (suc h.0, (omega (arith, h.1.0), h.1.1))
puts_more m now f fs (Err stopped.DrawFault) h = h
puts_more m now f fs (Err (stopped.Input s)) h = h

pub puts_then : (files mid now : Option FileMap) (f : List ℕ × List ℕ) (fs : List (List ℕ × List ℕ)) (r : Result (Unit {0}) Stopped) → IfSome files (λ m. Puts (f ∷ []) m mid (Ok tt))
    → IfSome mid (λ m. Puts fs m now r) → IfSome files (λ m. Puts (f ∷ fs) m now r)
unfolding put_all
puts_then None mid now f fs r first rest = tt
puts_then (Some m) mid now f fs r first rest = puts_more m now f fs r (subst (λ k. IfSome k (λ n. Puts fs n now r)) first rest)

-- one file wasn't written, or may not have been, and none of the others was
puts_stopped : (m : FileMap) (now : Option FileMap) (f : List ℕ × List ℕ) (fs : List (List ℕ × List ℕ)) (s : Stopped) → Puts (f ∷ []) m now (Err s) → Puts (f ∷ fs) m now (Err s)
unfolding put_all PutsSome
puts_stopped m now f fs stopped.FileFault (inl h) = inl h
puts_stopped m now f fs stopped.FileFault (inr h) = inl (subst (λ k. IsSomeAnd k (KeepsOthers m f.0)) (sym h) (λ q other. insert_keeps m f.0 f.1 q other))
puts_stopped m now f fs stopped.OutOfMemory (zero, h) = (0, (omega arith, h.1))
puts_stopped m now f fs stopped.OutOfMemory (suc k, h) = absurd (omega (arith, h.0))
puts_stopped m now f fs stopped.DrawFault h = h
puts_stopped m now f fs (stopped.Input s) h = h

pub puts_first : (files now : Option FileMap) (f : List ℕ × List ℕ) (fs : List (List ℕ × List ℕ)) (s : Stopped) (r : Result (Unit {0}) Stopped) → r ≡ Err s → IfSome files (λ m. Puts (f ∷ []) m now (Err s))
    → IfSome files (λ m. Puts (f ∷ fs) m now r)
puts_first None now f fs s r is h = tt
puts_first (Some m) now f fs s r is h = subst (λ (q : Result (Unit {0}) Stopped). Puts (f ∷ fs) m now q) (sym is) (puts_stopped m now f fs s h)

-- nothing but one name changed
pub but_one : (files now : Option FileMap) (name : List ℕ) → IfSome files (λ m. IsSomeAnd now (KeepsOthers m name)) → IfSome files (λ m. KeepsBut (name ∷ []) m now)
but_one None now name h = tt
but_one (Some m) None name h = absurd h
but_one (Some m) (Some n) name h = λ q other. h q (λ same. other (0, omega arith, sym same))

-- the one element of a list
first_of : (name : List ℕ) (i : ℕ) (q : List ℕ) → i < 1 → slice_index_or (name ∷ []) i q ≡ q → name ≡ q
first_of name zero q below at = at
first_of name (suc i) q below at = absurd (omega (arith, below))

-- but for the first name nothing changed, and then but for the others
pub but_then : (files mid now : Option FileMap) (name : List ℕ) (names : List (List ℕ)) → IfSome files (λ m. KeepsBut (name ∷ []) m mid) → IfSome mid (λ m. KeepsBut names m now)
    → IfSome files (λ m. KeepsBut (name ∷ names) m now)
but_then None mid now name names first rest = tt
but_then (Some m) None now name names first rest = absurd first
but_then (Some m) (Some k) None name names first rest = absurd rest
but_then (Some m) (Some k) (Some n) name names first rest =
    λ q other. rest q (λ (i, below, at). other (suc i, omega (arith, below), at)) ∙ first q (λ (i, below, at). other (0, omega arith, first_of name i q below at))

-- but for the first name nothing changed, and the others were not reached
pub but_first : (files now : Option FileMap) (name : List ℕ) (names : List (List ℕ)) → IfSome files (λ m. KeepsBut (name ∷ []) m now) → IfSome files (λ m. KeepsBut (name ∷ names) m now)
but_first None now name names h = tt
but_first (Some m) None name names h = absurd h
but_first (Some m) (Some n) name names h = λ q other. h q (λ (i, below, at). other (0, omega arith, first_of name i q below at))
