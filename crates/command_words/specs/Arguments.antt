-- The words of each command, as `clap` is told of them.
use Rattle.std.specs.Prelude.{ℕ, List, [], ◌∷◌, Some, true, codes}
use Rattle.clap.specs.Lexer.{usize_max}
use Rattle.clap.specs.Words.{App, Rule, new_rule}
use Rattle.clap.specs.Simple.{new_shape}

-- a word that has to be there, known by this name
abbrev pub one_word : List ℕ → Rule
one_word name = record (new_rule name) { required = true }

-- one word or more, known by this name
abbrev pub some_words : List ℕ → Rule
some_words name = record (new_rule name) { required = true; range = Some (record { start_inclusive = 1; end_inclusive = usize_max }) }

-- `--workers N`, where N is 4 if it is left out
abbrev pub workers_option : Rule
workers_option = record (new_rule (codes "workers")) { long = Some (codes "workers"); defaults = codes "4" ∷ [] }

-- a command with these words
abbrev pub app_with : List ℕ → List Rule → App
app_with name rules = let shape = new_shape name in record { top = record shape { rules = rules }; subs = [] }

-- `trace SHAPE TABLE QUERY PARAM.. [--workers N]`
unfoldable pub trace_app : App
trace_app = app_with (codes "trace") (one_word (codes "shape") ∷ one_word (codes "table") ∷ one_word (codes "query") ∷ some_words (codes "parameter") ∷ workers_option ∷ [])

-- `keys SHAPE QUERY NOTE KEY0 KEY1 PARAM..`
unfoldable pub keys_app : App
keys_app = app_with (codes "keys") (one_word (codes "shape") ∷ one_word (codes "query") ∷ one_word (codes "note") ∷ one_word (codes "key0") ∷ one_word (codes "key1") ∷ some_words (codes "parameter") ∷ [])

-- `answer PROVIDER SHAPE TABLE KEY OUT [--workers N]`
unfoldable pub answer_app : App
answer_app = app_with (codes "answer") (one_word (codes "provider") ∷ one_word (codes "shape") ∷ one_word (codes "table") ∷ one_word (codes "key") ∷ one_word (codes "out") ∷ workers_option ∷ [])

-- `combine NOTE ANSWER ANSWER`
unfoldable pub combine_app : App
combine_app = app_with (codes "combine") (one_word (codes "note") ∷ one_word (codes "first") ∷ one_word (codes "second") ∷ [])
