-- Relations between what a door tells before and after calls.
use Rattle.std.proofs.Common.{Option, Some, None}
use Rattle.spl_outside.specs.Wire.{Visits, OnlyWire}
use Rattle.std.proofs.Common.{◌∙◌, refl}
use Rattle.wire_frames.specs.Told.{Told}

-- one call after another
pub told_through : {A : Type 0} (a b c : Option A) (P Q R : A → A → Type 0) → ((x y z : A) → P x y → Q y z → R x z) → Told a b P → Told b c Q → Told a c R
told_through None b c P Q R f p q = tt
told_through (Some x) None c P Q R f p q = absurd p
told_through (Some x) (Some y) None P Q R f p q = absurd q
told_through (Some x) (Some y) (Some z) P Q R f p q = f x y z p q

-- before any call
pub told_start : {A : Type 0} (a : Option A) (P : A → A → Type 0) → ((x : A) → P x x) → Told a a P
told_start None P f = tt
told_start (Some x) P f = f x

-- a weaker relation
pub told_weaker : {A : Type 0} (a b : Option A) (P Q : A → A → Type 0) → ((x y : A) → P x y → Q x y) → Told a b P → Told a b Q
told_weaker None b P Q f p = tt
told_weaker (Some x) None P Q f p = absurd p
told_weaker (Some x) (Some y) P Q f p = f x y p

pub only_twice : (x y z : Visits) → OnlyWire x y → OnlyWire y z → OnlyWire x z
only_twice x y z p q = record {
  coming = q.coming ∙ p.coming;
  begun = q.begun ∙ p.begun;
  earlier = q.earlier ∙ p.earlier;
}

pub only_itself : (x : Visits) → OnlyWire x x
only_itself x = record { coming = refl; begun = refl; earlier = refl }
