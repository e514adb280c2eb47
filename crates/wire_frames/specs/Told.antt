-- What is told before and after calls.
use Rattle.std.specs.Prelude.{Option, IfSome, IsSomeAnd}

-- where it is told before the calls, it is told after them, and the two are related so
abbrev pub Told : {A : Type 0} → Option A → Option A → (A → A → Type 0) → Type 0
Told before now R = IfSome before (λ v. IsSomeAnd now (λ n. R v n))
