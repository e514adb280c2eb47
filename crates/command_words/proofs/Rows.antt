-- What `clap` reads, and when it refuses.
use Rattle.std.proofs.Common.{◌≡◌, ◌↔◌, List, [], ◌∷◌, Some, None, Err, refl, sym, ap, inl, inr}
use Rattle.clap.specs.Words.{App, HasKind, IsAmong, Kinds, Row, Text, fault_of, kind_of, matches_of}
use Rattle.clap.specs.declared.error.Error.{Error}
use Rattle.clap.specs.declared.error.kind.ErrorKind.{ErrorKind}
use Rattle.clap.specs.declared.error.kind.ErrorKind.TheVariants as kind
use Rattle.command_words.specs.Forms.{rows_in, unless_at_fault}
use Rattle.command_words.specs.Views.{Means}
use Rattle.command_words.specs.declared.fault.FormFault.{FormFault}
use Rattle.command_words.specs.declared.fault.FormFault.TheVariants as fault

-- where nothing is at fault, the rows are read
unless_none : (ks : Kinds) (rows read : List Row) → ks ≡ [] → read ≡ rows → unless_at_fault ks rows ≡ Some read
unless_none [] rows read none same = ap Some (sym same)
unless_none (k ∷ more) rows read none same = absurd cc

-- where something is, none are
unless_some : (ks : Kinds) (rows : List Row) (k : ErrorKind) → IsAmong k ks → unless_at_fault ks rows ≡ None
unless_some [] rows k among = absurd among
unless_some (fault ∷ more) rows k among = refl

pub read_rows : (app : App) (words : List Text) (read : List Row) → fault_of app words ≡ [] → read ≡ matches_of app words → rows_in app words ≡ Some read
unfolding rows_in
read_rows app words read none same = unless_none (fault_of app words) (matches_of app words) read none same

-- a refusal for another cause than memory comes only where `clap` has a fault
pub refused : (X : Type 0) (view : X → List Row) (app : App) (words : List Text) (e : Error) (f : FormFault)
    → (f ≡ fault.OutOfMemory) ↔ (kind_of e ≡ kind.OutOfMemory) → HasKind (fault_of app words) e → Means view (Err f) (rows_in app words)
unfolding rows_in
refused X view app words e fault.OutOfMemory is has = tt
refused X view app words e fault.Usage is (inl memory) = let both : fault.Usage ≡ fault.OutOfMemory = is.1 memory in absurd cc
refused X view app words e fault.Usage is (inr among) = unless_some (fault_of app words) (matches_of app words) (kind_of e) among
