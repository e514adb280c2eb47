use Rattle.client_rounds.proofs.Printable.{text_prints, none_bad, text_some, text_short}
use Rattle.query_tokens.specs.Printing.{canonical_text}
use Rattle.client_rounds.proofs.laws.canonical_text_fits.Goals as goal

pub returns-clause-printable : goal.returns-clause-printable
returns-clause-printable c = λ q form. none_bad (canonical_text q) (text_prints q form)

pub returns-clause-some : goal.returns-clause-some
returns-clause-some c = text_some

pub returns-clause-short : goal.returns-clause-short
returns-clause-short c = text_short
