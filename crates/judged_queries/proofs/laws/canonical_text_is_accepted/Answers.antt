use Rattle.query_tokens.specs.Tokens.{tokens_in}
use Rattle.query_tokens.specs.Printing.{canonical_text}
use Rattle.std.proofs.Common.{length}
use Rattle.judged_queries.proofs.Canonical.{read_text_is}
use Rattle.judged_queries.proofs.laws.canonical_text_is_accepted.Goals as goal

pub returns : goal.returns
returns c = λ checked schema formed known.
    read_text_is checked schema (canonical_text checked.query)
    (c.reading_is_grammar.ensures.only (tokens_in (canonical_text checked.query)) (length (canonical_text checked.query)) checked.query (c.canonical_text_is_read.ensures checked.query formed)) known
