-- The line of what stopped a command, and that of the status with which it ended.
use Rattle.std.proofs.Common.{◌≡◌, ℕ, List, ◌++◌, Option, Some, None, refl, sym, subst, ◌∙◌, ap, inl, inr}
use Rattle.std.specs.Prelude.{IfSome}
use Rattle.splinter_status.specs.declared.status.Status.{Status}
use Rattle.splinter_status.specs.declared.stops.Refusal.TheVariants as refusal
use Rattle.splinter_status.specs.declared.stops.InputStop.TheVariants as input
use Rattle.splinter_status.specs.declared.stops.Stopped.{Stopped}
use Rattle.splinter_status.specs.declared.stops.Stopped.TheVariants as stopped
use Rattle.splinter_status.specs.Ends.{end_of, line_of_end, Reports}
use Rattle.splinter_status.specs.Texts.{line_of, HasLine}

-- it is the line that its status tells, where that tells one
line_of_status : (s : Stopped) → HasLine (end_of s) → line_of_end s ≡ line_of (end_of s)
line_of_status (stopped.Input (input.Refused (refusal.SumBound name column at))) h = absurd h
line_of_status s h = refl

-- where the status with which a command ended tells a line, that was appended
line_reported : (s : Stopped) (result : Status) (before : List ℕ) (now : Option (List ℕ))
    → Reports before (line_of_end s) (end_of s) result now → HasLine result → now ≡ Some (before ++ line_of result)
line_reported s result before now (inl h) has =
    let told : HasLine (end_of s) = subst HasLine h.0 has in
    h.1 ∙ ap (λ text. Some (before ++ text)) (line_of_status s told ∙ ap line_of (sym h.0))
line_reported s result before now (inr (inl h)) has = absurd (subst HasLine h.0 has)
line_reported s result before now (inr (inr h)) has = absurd (subst HasLine h.0 has)

-- the same over a sink that tells what it holds, or doesn't
pub line_told : (s : Stopped) (result : Status) (before now : Option (List ℕ))
    → IfSome before (λ w. Reports w (line_of_end s) (end_of s) result now) → HasLine result → IfSome before (λ w. now ≡ Some (w ++ line_of result))
line_told s result None now told has = tt
line_told s result (Some w) now told has = line_reported s result w now told has
