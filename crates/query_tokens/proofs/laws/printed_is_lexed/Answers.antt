use Rattle.query_tokens.proofs.Printed.{printed_again}
use Rattle.query_tokens.proofs.laws.printed_is_lexed.Goals as goal

pub returns : goal.returns
returns c = printed_again
