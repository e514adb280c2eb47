-- What words come to that mean no order.
use Rattle.std.proofs.Common.{◌≡◌, Option, Some, None, Err, ap}
use Rattle.std.specs.Prelude.{IfSome}
use Rattle.spl_outside.specs.Content.{FileMap}
use Rattle.command_words.specs.Orders.{Order}
use Rattle.splinter_status.specs.declared.stops.Refusal.TheVariants as refusal
use Rattle.splinter_commands.specs.Commands.{judged}

-- they are refused
pub no_order : (order : Option Order) (files : Option FileMap) → order ≡ None → IfSome files (λ m. judged order m ≡ Err refusal.Usage)
no_order order None is = tt
no_order order (Some m) is = ap (λ k. judged k m) is

-- want of memory tells nothing
pub no_memory : (files : Option FileMap) → IfSome files (λ m. Unit {0})
no_memory None = tt
no_memory (Some m) = tt
