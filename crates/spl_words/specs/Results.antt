-- Steps of which each may fail, and what a call gave of them.
use Rattle.std.specs.Prelude.{◌≡◌, ◌⊎◌, Result, Ok, Err}

infixl 10 ◌>>=◌
-- one step and then the next, up to the first error
abbrev pub ◌>>=◌ : {A B E : Type 0} → Result A E → (A → Result B E) → Result B E
(Ok x) >>= next = next x
(Err e) >>= next = Err e

-- what a call returned, its value seen by `view`, is what the step gives
abbrev pub Is : {X Y E : Type 0} → (X → Y) → Result X E → Result Y E → Type 0
Is view (Ok x) step = step ≡ Ok (view x)
Is view (Err e) step = step ≡ Err e

-- the same, unless memory was short, which the error `short` says
abbrev pub Gives : {X Y E : Type 0} → E → (X → Y) → Result X E → Result Y E → Type 0
Gives short view (Ok x) step = step ≡ Ok (view x)
Gives short view (Err e) step = (e ≡ short) ⊎ (step ≡ Err e)
