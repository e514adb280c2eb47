-- What `answer` and `combine` come to, which draw no words.
use Rattle.std.proofs.Common.{◌≡◌, ℕ, List, [], ◌∷◌, drop, Option, Some, None, Result, Ok, refl, subst}
use Rattle.std.specs.Prelude.{IfSome}
use Rattle.std.specs.Global.{Vec}
use Rattle.spl_outside.specs.Content.{FileMap}
use Rattle.splinter_status.specs.declared.stops.Stopped.{Stopped}
use Rattle.splinter_steps.specs.Writes.{put_all, Puts}
use Rattle.splinter_commands.specs.Effects.{outputs}
use Rattle.splinter_commands.specs.Commands.{answer_effect, combined}
use Rattle.splinter_commands.proofs.Late.{Came, Wrote, any_words}

-- ---- answer

module _ (name bytes : List ℕ) where
  pub answered_taken : (words : Option (List ℕ)) → IfSome words (λ ws. words ≡ Some (drop (answer_effect name bytes).draws ws))
  unfolding answer_effect
  answered_taken None = tt
  answered_taken (Some ws) = refl

  puts_in : (ws : List ℕ) (m : FileMap) (mid held : Option FileMap) (r : Result (Unit {0}) Stopped) → mid ≡ Some m → IfSome mid (λ n. Puts ((name, bytes) ∷ []) n held r) → Puts (outputs (answer_effect name bytes) ws) m held r
  unfolding answer_effect
  puts_in ws m mid held r same puts = subst (λ k. IfSome k (λ n. Puts ((name, bytes) ∷ []) n held r)) same puts

  -- what was written of the answer
  pub answer_wrote : (given : List ℕ) (files mid held : Option FileMap) (words : Option (List ℕ)) (r : Result (Unit {0}) Stopped) → given ≡ bytes → mid ≡ files → IfSome mid (λ n. Puts ((name, given) ∷ []) n held r)
      → Wrote files held words (answer_effect name bytes) r
  answer_wrote given None mid held words r is same puts = tt
  answer_wrote given (Some m) mid held words r is same puts =
      let some = any_words words in
      (some.0, (some.1, puts_in some.0 m mid held r same (subst (λ (b : List ℕ). IfSome mid (λ n. Puts ((name, b) ∷ []) n held r)) is puts)))

  prints_none : (ws : List ℕ) → [] ≡ (answer_effect name bytes).prints ws
  unfolding answer_effect
  prints_none ws = refl

  -- it was written, and nothing is told
  pub answered_came : (given : List ℕ) (files mid held : Option FileMap) (words : Option (List ℕ)) (text : Vec ℕ) → given ≡ bytes → mid ≡ files → text.items ≡ []
      → IfSome mid (λ n. held ≡ Some (put_all ((name, given) ∷ []) n)) → Came files held words (answer_effect name bytes) (Ok text)
  answered_came given None mid held words text is same none puts = tt
  answered_came given (Some m) mid held words text is same none puts =
      let some = any_words words in
      let written = subst (λ (b : List ℕ). IfSome mid (λ n. held ≡ Some (put_all ((name, b) ∷ []) n))) is puts in
      (some.0, (some.1, (subst (λ shown. text.items ≡ shown) (prints_none some.0) none, puts_in some.0 m mid held (Ok tt) same written)))

-- ---- combine

module _ (result : List ℕ) where
  pub combined_taken : (words : Option (List ℕ)) → IfSome words (λ ws. words ≡ Some (drop (combined result).draws ws))
  unfolding combined
  combined_taken None = tt
  combined_taken (Some ws) = refl

  -- its text is told, and nothing was written
  pub combined_came : (files held : Option FileMap) (words : Option (List ℕ)) (text : Vec ℕ) → held ≡ files → text.items ≡ result → Came files held words (combined result) (Ok text)
  unfolding combined put_all
  combined_came None held words text stays same = tt
  combined_came (Some m) held words text stays same = let some = any_words words in (some.0, (some.1, (same, stays)))
