-- What the words of the command line mean.
use Rattle.std.specs.Prelude.{ℕ, ◌==◌, ◌&&◌, nat_le, not, Bool, List, [], ◌∷◌, Option, Some, None, option_map, Result, Ok, Err, codes, if◌then◌else◌}
use Rattle.std.specs.Option.{option_and_then}
use Rattle.std.specs.Str.{bytes_eq}
use Rattle.clap.specs.Words.{App, Kinds, Row, Text, all_of, fault_of, first_of, matches_of}
use Rattle.spl_words.specs.declared.provider.Provider.{Provider}
use Rattle.spl_words.specs.declared.provider.Provider.TheVariants.{Zero, One}
use Rattle.spl_values.specs.CellTexts.{number_of_text}
use Rattle.spl_values.specs.declared.values.ValueFault.{ValueFault}
use Rattle.command_words.specs.Arguments.{trace_app, keys_app, answer_app, combine_app}
use Rattle.command_words.specs.Orders.{Order, trace, keys, answer, combine, TraceOrder, KeysOrder, AnswerOrder, CombineOrder}

infixl 10 ◌>>=◌
-- one step and then the next, up to the first that gives nothing
abbrev pub ◌>>=◌ : {A B : Type 0} → Option A → (A → Option B) → Option B
step >>= next = option_and_then next step

-- ---- what `clap` reads

-- the rows, where nothing is at fault
abbrev pub unless_at_fault : Kinds → List Row → Option (List Row)
unless_at_fault [] rows = Some rows
unless_at_fault (fault ∷ more) rows = None

-- what `clap` reads for the words of a command; None where it refuses them
unfoldable pub rows_in : App → List Text → Option (List Row)
rows_in app words = unless_at_fault (fault_of app words) (matches_of app words)

-- ---- numbers

-- a number that lies between these
abbrev pub between : ℕ → ℕ → Result ℕ ValueFault → Option ℕ
between least most (Ok number) = if nat_le least number && nat_le number most then Some number else None
between least most (Err fault) = None

-- the number between these that one or more decimal digits say; leading zeros are taken
abbrev pub number_in : ℕ → ℕ → Text → Option ℕ
number_in least most text = between least most (number_of_text 64 text)

-- the number of workers that a text says, 1 to 64
abbrev pub workers_in : Text → Option ℕ
workers_in text = number_in 1 64 text

-- the provider with this number
abbrev pub provider_of : ℕ → Provider
provider_of number = if number == 0 then Zero else One

-- the provider whose number a text says, 0 or 1
abbrev pub provider_in : Text → Option Provider
provider_in text = option_map provider_of (number_in 0 1 text)

-- ---- the commands

-- the number of workers among the rows
unfoldable pub workers_of : List Row → Option ℕ
workers_of rows = first_of (codes "workers") rows >>= workers_in

-- the provider among the rows
unfoldable pub provider_among : List Row → Option Provider
provider_among rows = first_of (codes "provider") rows >>= provider_in

-- the words of `trace` among the rows
unfoldable pub trace_of : List Row → Option TraceOrder
trace_of rows = do
  shape ← first_of (codes "shape") rows
  table ← first_of (codes "table") rows
  query ← first_of (codes "query") rows
  workers ← workers_of rows
  parameters ← all_of (codes "parameter") rows
  Some (record { shape = shape; table = table; query = query; parameters = parameters; workers = workers })

-- the words of `trace`
unfoldable pub trace_form : List Text → Option TraceOrder
trace_form words = rows_in trace_app words >>= trace_of

-- no two of three names are equal
abbrev pub are_apart : Text → Text → Text → Bool
are_apart a b c = not (bytes_eq a b) && not (bytes_eq a c) && not (bytes_eq b c)

-- three names of files to write, which differ
abbrev pub if_apart : Text → Text → Text → Option (Text × Text × Text)
if_apart note key_zero key_one = if are_apart note key_zero key_one then Some (note, key_zero, key_one) else None

-- the names of the files that `keys` writes, among the rows
unfoldable pub outputs_of : List Row → Option (Text × Text × Text)
outputs_of rows = do
  note ← first_of (codes "note") rows
  key_zero ← first_of (codes "key0") rows
  key_one ← first_of (codes "key1") rows
  if_apart note key_zero key_one

-- the words of `keys` among the rows
unfoldable pub keys_of : List Row → Option KeysOrder
keys_of rows = do
  shape ← first_of (codes "shape") rows
  query ← first_of (codes "query") rows
  names ← outputs_of rows
  parameters ← all_of (codes "parameter") rows
  Some (record { shape = shape; query = query; note = names.0; key_zero = names.1; key_one = names.2; parameters = parameters })

-- the words of `keys`
unfoldable pub keys_form : List Text → Option KeysOrder
keys_form words = rows_in keys_app words >>= keys_of

-- the words of `answer` among the rows
unfoldable pub answer_of : List Row → Option AnswerOrder
answer_of rows = do
  provider ← provider_among rows
  shape ← first_of (codes "shape") rows
  table ← first_of (codes "table") rows
  key ← first_of (codes "key") rows
  out ← first_of (codes "out") rows
  workers ← workers_of rows
  Some (record { provider = provider; shape = shape; table = table; key = key; out = out; workers = workers })

-- the words of `answer`
unfoldable pub answer_form : List Text → Option AnswerOrder
answer_form words = rows_in answer_app words >>= answer_of

-- the words of `combine` among the rows
unfoldable pub combine_of : List Row → Option CombineOrder
combine_of rows = do
  note ← first_of (codes "note") rows
  first ← first_of (codes "first") rows
  second ← first_of (codes "second") rows
  Some (record { note = note; first = first; second = second })

-- the words of `combine`
unfoldable pub combine_form : List Text → Option CombineOrder
combine_form words = rows_in combine_app words >>= combine_of

-- what the words of the command of this name mean
abbrev pub form_of_command : Text → List Text → Option Order
form_of_command name words =
    if bytes_eq name (codes "trace") then option_map trace (trace_form words)
    else (if bytes_eq name (codes "keys") then option_map keys (keys_form words)
    else (if bytes_eq name (codes "answer") then option_map answer (answer_form words)
    else (if bytes_eq name (codes "combine") then option_map combine (combine_form words)
    else None)))

-- what the command line means, whose first word names the command; None where it has no form
unfoldable pub form_of : List Text → Option Order
form_of [] = None
form_of (name ∷ more) = form_of_command name (name ∷ more)
