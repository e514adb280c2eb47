-- The outside of a run, and how a call on it failed.
use Rattle.std.specs.Prelude.{◌≡◌, ℕ, List, drop, Option, IfSome, Some}
use Rattle.spl_outside.specs.Causes.{Rose}
use Rattle.spl_outside.specs.Content.{FileMap}
use Rattle.splinter_steps.specs.Writes.{PutsSome}
use Rattle.splinter_commands.specs.Effects.{Effect, outputs}

-- what is told of the outside, the files, the words to come and the bytes written, and how many calls on each have failed
pub record World : Type 0 where
  pub held : Option FileMap
  pub words : Option (List ℕ)
  pub written : Option (List ℕ)
  pub file_faults : ℕ
  pub draw_faults : ℕ
  pub output_faults : ℕ

-- no file changed, and no word was drawn
pub record Unchanged (before after : World) : Type 0 where
  pub files : after.held ≡ before.held
  pub words : after.words ≡ before.words

-- a file wasn't read: nothing was drawn and nothing written yet
pub record ReadFailed (before after : World) : Type 0 where
  pub rose : Rose before.file_faults after.file_faults
  pub unchanged : Unchanged before after

-- no word was drawn, or not all: nothing was written yet
pub record DrawFailed (before after : World) : Type 0 where
  pub rose : Rose before.draw_faults after.draw_faults
  pub files : after.held ≡ before.held

-- the effect's words were all taken
abbrev pub AllDrawn : Effect → World → World → Type 0
AllDrawn x before after = IfSome before.words (λ ws. after.words ≡ Some (drop x.draws ws))

-- a file of this effect, for these words, wasn't written: all its words were drawn, some first files are written, and only the next may hold anything else
pub record WriteFailed (x : Effect) (words : List ℕ) (m : FileMap) (before after : World) : Type 0 where
  pub rose : Rose before.file_faults after.file_faults
  pub drawn : AllDrawn x before after
  pub files : PutsSome (outputs x words) m after.held
