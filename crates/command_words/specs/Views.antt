-- Commands as the program holds them, and what a reader of words answers.
use Rattle.std.specs.Prelude.{◌≡◌, ◌≢◌, ◌≤◌, ℕ, List, map, Option, Some, None, Result, Ok, Err}
use Rattle.std.specs.String.{string_bytes}
use Rattle.command_words.specs.declared.fault.FormFault.{FormFault}
use Rattle.command_words.specs.declared.fault.FormFault.TheVariants as fault
use Rattle.command_words.specs.declared.command.Command.{Command}
use Rattle.command_words.specs.declared.command.Command.TheVariants as command
use Rattle.command_words.specs.declared.command.TraceWords.{TraceWords}
use Rattle.command_words.specs.declared.command.KeysWords.{KeysWords}
use Rattle.command_words.specs.declared.command.AnswerWords.{AnswerWords}
use Rattle.command_words.specs.declared.command.CombineWords.{CombineWords}
use Rattle.command_words.specs.Orders.{Order, trace, keys, answer, combine, TraceOrder, KeysOrder, AnswerOrder, CombineOrder}

-- the words of `trace`, wherever they lie in memory
abbrev pub trace_order : TraceWords → TraceOrder
trace_order w = record { shape = w.shape.now; table = w.table.now; query = w.query.now; parameters = map string_bytes w.parameters.items; workers = w.workers }

-- the words of `keys`, wherever they lie in memory
abbrev pub keys_order : KeysWords → KeysOrder
keys_order w = record { shape = w.shape.now; query = w.query.now; note = w.note.now; key_zero = w.key_zero.now; key_one = w.key_one.now; parameters = map string_bytes w.parameters.items }

-- the words of `answer`, wherever they lie in memory
abbrev pub answer_order : AnswerWords → AnswerOrder
answer_order w = record { provider = w.provider; shape = w.shape.now; table = w.table.now; key = w.key.now; out = w.out.now; workers = w.workers }

-- the words of `combine`, wherever they lie in memory
abbrev pub combine_order : CombineWords → CombineOrder
combine_order w = record { note = w.note.now; first = w.first.now; second = w.second.now }

-- a command, wherever its words lie in memory
abbrev pub order : Command → Order
order (command.Trace w) = trace (trace_order w)
order (command.Keys w) = keys (keys_order w)
order (command.Answer w) = answer (answer_order w)
order (command.Combine w) = combine (combine_order w)

-- what was read, seen by `view`, is what the words say; Usage comes only where they say nothing, and want of memory tells nothing
abbrev pub Means : {X Y : Type 0} → (X → Y) → Result X FormFault → Option Y → Type 0
Means view (Ok x) said = said ≡ Some (view x)
Means view (Err fault.Usage) said = said ≡ None
Means view (Err fault.OutOfMemory) said = Unit {0}

-- a number of workers
abbrev pub IsWorkers : ℕ → Type 0
IsWorkers workers = (1 ≤ workers) × (workers ≤ 64)

-- no two of the names of files to write are equal
pub record AreApart (note key_zero key_one : List ℕ) : Type 0 where
  pub note_zero : note ≢ key_zero
  pub note_one : note ≢ key_one
  pub keys : key_zero ≢ key_one

-- what the words of a command keep: the bounds of numbers, and names that differ
abbrev pub IsInBounds : Command → Type 0
IsInBounds (command.Trace w) = IsWorkers w.workers
IsInBounds (command.Keys w) = AreApart w.note.now w.key_zero.now w.key_one.now
IsInBounds (command.Answer w) = IsWorkers w.workers
IsInBounds (command.Combine w) = Unit {0}
