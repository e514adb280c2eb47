-- Commands with their words, as plain data.
use Rattle.std.specs.Prelude.{ℕ, List}
use Rattle.spl_words.specs.declared.provider.Provider.{Provider}

-- `trace`: the names of the two files, the query with its parameters, and the number of workers
pub record TraceOrder : Type 0 where
  pub shape : List ℕ
  pub table : List ℕ
  pub query : List ℕ
  pub parameters : List (List ℕ)
  pub workers : ℕ

-- `keys`: the name of the shape's file, the query with its parameters, and the names of the files to write
pub record KeysOrder : Type 0 where
  pub shape : List ℕ
  pub query : List ℕ
  pub note : List ℕ
  pub key_zero : List ℕ
  pub key_one : List ℕ
  pub parameters : List (List ℕ)

-- `answer`: which provider answers, the names of the files to read and of the one to write, and the number of workers
pub record AnswerOrder : Type 0 where
  pub provider : Provider
  pub shape : List ℕ
  pub table : List ℕ
  pub key : List ℕ
  pub out : List ℕ
  pub workers : ℕ

-- `combine`: the names of the files of the note and of both answers
pub record CombineOrder : Type 0 where
  pub note : List ℕ
  pub first : List ℕ
  pub second : List ℕ

-- a command with its words
pub data Order : Type 0 where
  trace : TraceOrder → Order
  keys : KeysOrder → Order
  answer : AnswerOrder → Order
  combine : CombineOrder → Order
