-- A session in one process, and one by files.
use Rattle.std.specs.Prelude.{◌≡◌, ◌⊎◌, ℕ, List, Some, Result, Ok}
use Rattle.std.specs.FinMap.{get}
use Rattle.spl_outside.specs.Content.{FileMap}
use Rattle.spl_words.specs.declared.provider.Provider.{Provider}
use Rattle.spl_words.specs.declared.provider.Provider.TheVariants.{Zero, One}
use Rattle.seed_expansion.specs.ChaChaExpansion.{chacha}
use Rattle.session_laws.specs.OwnSessions.{Session, IsAnswer, own_note}
use Rattle.command_words.specs.Orders.{CombineOrder}
use Rattle.splinter_commands.specs.declared.trace.Traced.{Traced}

-- the step isn't refused
abbrev pub Comes : {A E : Type 0} → Result A E → Type 0
Comes {A} step = (x : A) × (step ≡ Ok x)

-- the session of what is traced, with these words drawn
abbrev pub session_of : Traced → List ℕ → Session
session_of t words = record { checked = t.asked.checked; params = t.asked.params; table = t.table; words = words }

-- a file holds what a provider answers to its key file of the session
abbrev pub HoldsAnswer : Session → Provider → List ℕ → FileMap → Type 0
HoldsAnswer s p name files = (bytes : List ℕ) × ((get files name ≡ Some bytes) × IsAnswer chacha s p bytes)

-- the files that `combine` reads hold the note of the session and what both providers answer, in either order
pub record HoldsSession (s : Session) (o : CombineOrder) (files : FileMap) : Type 0 where
  pub note : get files o.note ≡ Some (own_note chacha s)
  pub answers : (HoldsAnswer s Zero o.first files × HoldsAnswer s One o.second files) ⊎ (HoldsAnswer s One o.first files × HoldsAnswer s Zero o.second files)
