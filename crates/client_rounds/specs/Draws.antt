-- What is made of the words that are drawn.
use Rattle.std.specs.Prelude.{◌≡◌, ℕ, List, drop, Option, Some, Result, Ok, Err}
use Rattle.spl_outside.specs.Content.{LeftAfter}

-- so many of the words were taken, and the value is one that they make; after a refusal no more were
abbrev pub Draws : {A E : Type 0} → ℕ → (List ℕ → A → Type 0) → List ℕ → Option (List ℕ) → Result A E → Type 0
Draws count Made words left (Ok x) = Made words x × (left ≡ Some (drop count words))
Draws count Made words left (Err e) = LeftAfter count words left
