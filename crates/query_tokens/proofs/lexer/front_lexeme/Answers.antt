use Rattle.std.proofs.Common.{rules}
use Rattle.spl_values.specs.Names.{is_name_byte}
use Rattle.query_tokens.specs.Lexing.{is_digit}
use Rattle.query_tokens.specs.Tokens.{lexeme}
use Rattle.query_tokens.proofs.Scan.{taken_pass, rest_taken}
use Rattle.query_tokens.proofs.lexer.front_lexeme.Goals as goal

pub number_lexeme-requires-clause-digits : goal.number_lexeme-requires-clause-digits
number_lexeme-requires-clause-digits c = rw c.digits_len.ensures (taken_pass is_digit c.args.bytes.now)

pub returns-then-is_name_start : goal.returns-then-is_name_start
unfolding lexeme
returns-then-is_name_start c = search rules

pub returns-then-is_digit : goal.returns-then-is_digit
unfolding lexeme
returns-then-is_digit c = search rules

pub returns-then-first-eq39 : goal.returns-then-first-eq39
unfolding lexeme
returns-then-first-eq39 c = let h = rw (rest_taken 1 c.args.bytes.now) at c.text_lexeme.ensures in search rules

pub returns-else-first-eq39 : goal.returns-else-first-eq39
unfolding lexeme
returns-else-first-eq39 c = search rules

pub word_lexeme-requires-clause-bytes : goal.word_lexeme-requires-clause-bytes
word_lexeme-requires-clause-bytes c = rw c.word_len.ensures (taken_pass is_name_byte c.args.bytes.now)
