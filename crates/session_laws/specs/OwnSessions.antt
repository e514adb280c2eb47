-- Sessions: what is asked of a table, and what is written for it.
use Rattle.std.specs.Prelude.{◌≡◌, ℕ, List, Ok}
use Rattle.spl_words.specs.declared.provider.Provider.{Provider}
use Rattle.spl_values.specs.Tables.{TableParts, IsTable}
use Rattle.seed_expansion.specs.Expanders.{Meaning}
use Rattle.query_tokens.specs.Printing.{IsWellFormed}
use Rattle.query_reader.specs.declared.checked.Checked.{Checked}
use Rattle.query_reader.specs.Accepted.{IsCheckedFor}
use Rattle.query_reader.specs.Params.{params_of_words}
use Rattle.private_plan.specs.Plans.{IsBuilt}
use Rattle.key_frames.specs.Frames.{KeyFrameOf}
use Rattle.key_frames.specs.Notes.{NoteOf}
use Rattle.session_model.specs.Sessions.{key_frame, key_bytes, note, note_bytes, clear_text}
use Rattle.provider_core.specs.Answering.{answered}
use Rattle.sum_bounds.specs.Bounds.{sums_bounded}

-- a query, the codes of its parameters, the table that both providers hold, and the words that are drawn
pub record Session : Type 0 where
  pub checked : Checked
  pub params : List ℕ
  pub table : TableParts
  pub words : List ℕ

-- an accepted query for the table whose plan is built and whose sums are within their bounds, and parameters that some words gave
pub record IsSession (s : Session) : Type 0 where
  pub table : IsTable s.table
  pub form : IsWellFormed s.checked.query
  pub accepted : IsCheckedFor s.checked s.table.shape.schema
  pub built : IsBuilt s.checked s.table.shape.schema.columns
  pub given : (texts : List (List ℕ)) × (params_of_words s.checked.query s.table.shape.schema texts ≡ Ok s.params)
  pub bounded : sums_bounded s.table s.checked.spec.items ≡ Ok tt

-- the bytes of a provider's key file
abbrev pub own_key : Meaning → Session → Provider → List ℕ
own_key e s p = key_bytes e p s.checked s.table.shape s.params s.words

-- the bytes of the client's note
abbrev pub own_note : Meaning → Session → List ℕ
own_note e s = note_bytes e s.checked s.table.shape s.params s.words

-- the text of the clear answer
abbrev pub own_text : Session → List ℕ
own_text s = clear_text s.checked s.params s.table

-- the bytes are what a provider answers to its key file
abbrev pub IsAnswer : Meaning → Session → Provider → List ℕ → Type 0
IsAnswer e s p bytes = answered e p (own_key e s p) s.table ≡ Ok bytes

-- the key files and the note spell their frames
pub record IsSpelled (e : Meaning) (s : Session) : Type 0 where
  pub keys : (p : Provider) → KeyFrameOf (own_key e s p) (key_frame e p s.checked s.table.shape s.params s.words)
  pub note : NoteOf (own_note e s) (note e s.checked s.table.shape s.params s.words)
