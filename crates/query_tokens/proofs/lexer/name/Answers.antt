use Rattle.query_tokens.proofs.Ascii.{word_is_text}
use Rattle.query_tokens.proofs.lexer.name.Goals as goal

pub unreachable-requires : goal.unreachable-requires
unreachable-requires c = c.in-Err.ensures.cases.0 (word_is_text c.args.word.now c.requires)
