use Rattle.std.proofs.Common.{◌∙◌, ap, sym, subst, List, ℕ}
use Rattle.query_grammar.specs.Canonical.{canonical}
use Rattle.query_grammar.specs.Faults.{tokens_of}
use Rattle.query_grammar.specs.Grammar.{Reads}
use Rattle.query_tokens.specs.Tokens.{tokens_in}
use Rattle.query_tokens.specs.Printing.{written}
use Rattle.query_tokens.proofs.Writable.{text_is_read}
use Rattle.query_printer.proofs.Either.{whole_text}
use Rattle.query_printer.proofs.printer.print_query.Goals as goal

pub returns-clause-text : goal.returns-clause-text
returns-clause-text c =
    c.from_vec.ensures
    ∙ (c.into_vec.ensures ∙ whole_text c.args.query.now _ (c.in_ok-put_query.ensures ∙ ap (λ w. written w (canonical c.args.query.now)) c.new-printer.ensures))

pub returns-clause-reads : goal.returns-clause-reads
returns-clause-reads c =
    subst (λ (t : List ℕ). Reads (tokens_of (tokens_in t)) c.args.query.now) (sym (returns-clause-text c)) (text_is_read c.args.query.now c.facts.ensures)
