use Rattle.query_tokens.proofs.Writable.{text_is_read}
use Rattle.query_tokens.proofs.laws.canonical_text_is_read.Goals as goal

pub returns : goal.returns
returns c = text_is_read
