-- Where a reader over bytes in memory, and a writer into memory, stand in their text.
use Rattle.std.specs.Prelude.{◌≡◌, ℕ, Bool, true, false, List, Option, Some, None}
use Rattle.std.specs.Borrow.{Bor}
use Rattle.std.specs.Global.{Vec}
use Rattle.csv.specs.Writing.{default_writer, fields_written, has_written, writer_setup, text_written}
use Rattle.csv.specs.declared.writer.Writer.{Writer}
use Rattle.csv.specs.Machine.{Read}
use Rattle.csv.specs.Reading.{Ready, default_config, source_of}
use Rattle.csv.specs.declared.parser.State.{State}
use Rattle.csv.specs.declared.reader.Reader.{Reader}
use Rattle.csv.specs.declared.reader.Trim.TheVariants as trim

-- a reader that trims nothing, takes records of any length and stands at the start of a record, before these bytes
pub record StandsAt (r : Reader (Bor (List ℕ))) (s : State) (text : List ℕ) : Type 0 where
  pub untrimmed : r.trim ≡ trim.None
  pub flexible : r.flexible ≡ true
  pub ready : Ready r
  pub config : r.config ≡ default_config
  pub state : r.state ≡ s
  pub source : source_of (λ (b : Bor (List ℕ)). Some b.now) r ≡ Some text

-- what a read gave: the next record, if there is one, and then the reader stands behind it
abbrev pub Took : Reader (Bor (List ℕ)) → Bool → List (List ℕ) → Option Read → Type 0
Took r found fields None = found ≡ false
Took r found fields (Some p) = (found ≡ true) × (fields ≡ p.0) × StandsAt r p.1 p.2

-- a writer into memory that has written this text and stands at the start of a record
pub record HasWritten (w : Writer (Vec ℕ)) (text : List ℕ) : Type 0 where
  pub fields : fields_written w ≡ 0
  pub blank : has_written w ≡ false
  pub setup : writer_setup w ≡ default_writer
  pub written : text_written (λ (v : Vec ℕ). Some v.items) w ≡ Some text
