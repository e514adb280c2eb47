use Rattle.query_tokens.proofs.TokensAgain.{whole_word}
use Rattle.query_tokens.proofs.laws.words_are_whole.Goals as goal

pub returns : goal.returns
returns c = whole_word
