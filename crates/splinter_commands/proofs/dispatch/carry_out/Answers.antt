use Rattle.std.proofs.Common.{map, refl}
use Rattle.std.specs.String.{string_bytes}
use Rattle.command_words.specs.Forms.{form_of}
use Rattle.splinter_status.specs.declared.stops.InputStop.TheVariants as input
use Rattle.splinter_status.specs.declared.stops.Refusal.TheVariants as refusal
use Rattle.splinter_commands.specs.Effects.{Effect}
use Rattle.splinter_commands.specs.Commands.{judged}
use Rattle.splinter_commands.proofs.Late.{early}
use Rattle.splinter_commands.proofs.Unordered.{no_memory, no_order}
use Rattle.splinter_commands.proofs.dispatch.carry_out.Goals as goal

pub returns-in-Err-Usage-clause-told : goal.returns-in-Err-Usage-clause-told
returns-in-Err-Usage-clause-told g c =
    let order = form_of (map string_bytes c.args.words.now) in
    let none = rw c.in-Err-Usage.field-0-is at c.in-Err-Usage.ensures.means in
    early (λ (x : Effect). x) (λ m. judged order m) _ _ _ (input.Refused refusal.Usage) _ refl refl (no_order order _ none)

pub returns-in-Err-OutOfMemory-clause-told : goal.returns-in-Err-OutOfMemory-clause-told
returns-in-Err-OutOfMemory-clause-told g c =
    let order = form_of (map string_bytes c.args.words.now) in
    early (λ (x : Effect). x) (λ m. judged order m) _ _ _ input.OutOfMemory _ refl refl (no_memory _)
