-- What a command does, as one value.
use Rattle.std.specs.Prelude.{ℕ, Bool, List, [], map, Result, Ok, Err}
use Rattle.spl_outside.specs.Content.{FileMap}
use Rattle.splinter_status.specs.declared.stops.Refusal.{Refusal}

-- a file to be written: its name, and its bytes for the words drawn
abbrev pub File : Type 0
File = List ℕ × (List ℕ → List ℕ)

-- what a command does that nothing refuses: how many words it draws, which files it writes, in order, and what it prints for the words drawn
pub record Effect : Type 0 where
  pub draws : ℕ
  pub files : List File
  pub prints : List ℕ → List ℕ

-- how a command goes about: whether it may draw and whether it may print, whatever the files hold, and what it does over files
pub record Conduct : Type 0 where
  pub may_draw : Bool
  pub may_print : Bool
  pub ready : FileMap → Result Effect Refusal

-- the files that are written, with their bytes for these words
abbrev pub outputs : Effect → List ℕ → List (List ℕ × List ℕ)
outputs x words = map (λ (f : File). (f.0, f.1 words)) x.files

-- how many words are drawn; none where the command is refused
abbrev pub draws : Result Effect Refusal → ℕ
draws (Ok x) = x.draws
draws (Err r) = 0

-- the names of the files that are written; none where the command is refused
abbrev pub names : Result Effect Refusal → List (List ℕ)
names (Ok x) = map (λ (f : File). f.0) x.files
names (Err r) = []
