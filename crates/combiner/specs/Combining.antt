-- What the answers of both providers add up to.
use Rattle.std.specs.Prelude.{ℕ, ◌-◌, ◌^◌, ◌==◌, min, Bool, List, [], ◌∷◌, length, Result, Ok, Err, if◌then◌else◌}
use Rattle.std.specs.Str.{bytes_eq}
use Rattle.spl_words.specs.declared.provider.Provider.{Provider}
use Rattle.spl_words.specs.declared.provider.Provider.TheVariants.{Zero, One}
use Rattle.spl_words.specs.declared.differ.Differ.{Differ}
use Rattle.spl_words.specs.declared.differ.Differ.TheVariants.{Session, Round, Key, Table, Words}
use Rattle.spl_words.specs.Words.{plus}
use Rattle.spl_words.specs.Results.{◌>>=◌}
use Rattle.key_frames.specs.declared.note.Note.{Note}
use Rattle.answer_frames.specs.declared.answer.AnswerFrame.{AnswerFrame}
use Rattle.combiner.specs.declared.combining.CombineFault.{CombineFault}
use Rattle.combiner.specs.declared.combining.CombineFault.TheVariants as fault

-- the answer of Zero and that of One, from two of these providers
abbrev pub by_provider : Provider → Provider → AnswerFrame → AnswerFrame → Result (AnswerFrame × AnswerFrame) CombineFault
by_provider Zero One a b = Ok (a, b)
by_provider One Zero a b = Ok (b, a)
by_provider Zero Zero a b = Err (fault.SameProvider Zero)
by_provider One One a b = Err (fault.SameProvider One)

-- the refusal of two values that differ
abbrev pub agree : Bool → Differ → Result (Unit {0}) CombineFault
agree same differ = if same then Ok tt else Err (fault.Differ differ)

-- the digest of the key frame that a provider was sent
abbrev pub key_of : Note → Provider → List ℕ
key_of note Zero = note.key_zero
key_of note One = note.key_one

-- the answer is one of so many words to the provider's key frame of the note's session and round; a number of words that is too great is told as the greatest
unfoldable pub answers : Note → ℕ → Provider → AnswerFrame → Result (Unit {0}) CombineFault
answers note expected p a = do
  session ← agree (note.session == a.session) (Session note.session a.session)
  round ← agree (note.round == a.round) (Round note.round a.round)
  key ← agree (bytes_eq (key_of note p) a.key) (Key p (key_of note p) a.key)
  agree (expected == length a.words) (Words expected (min (length a.words) (2 ^ 32 - 1)))

-- both are over one table
abbrev pub same_tables : AnswerFrame → AnswerFrame → Result (Unit {0}) CombineFault
same_tables zero one = agree (bytes_eq zero.table one.table) (Table zero.table one.table)

-- in a second round that is the table that the note names
abbrev pub noted_table : Note → AnswerFrame → Result (Unit {0}) CombineFault
noted_table note zero = if note.round == 2 then agree (bytes_eq note.table zero.table) (Table note.table zero.table) else Ok tt

-- the sums of the words at each place
unfoldable pub added : List ℕ → List ℕ → List ℕ
added (x ∷ xs) (y ∷ ys) = plus x y ∷ added xs ys
added _ _ = []

-- the words that two answers to a note's session add up to, where so many are expected, or the first refusal
unfoldable pub combined : Note → AnswerFrame → AnswerFrame → ℕ → Result (List ℕ) CombineFault
combined note a b expected = do
  both ← by_provider a.provider b.provider a b
  zero ← answers note expected Zero both.0
  one ← answers note expected One both.1
  tables ← same_tables both.0 both.1
  noted ← noted_table note both.0
  Ok (added both.0.words both.1.words)
