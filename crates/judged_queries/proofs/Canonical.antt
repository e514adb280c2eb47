-- The canonical text of an accepted query is judged as that query.
use Rattle.std.proofs.Common.{◌≡◌, ℕ, List, Ok, sym, ap, ◌∙◌}
use Rattle.spl_words.specs.Results.{◌>>=◌}
use Rattle.spl_values.specs.Shapes.{SchemaParts}
use Rattle.query_reader.specs.Accepted.{IsCheckedFor}
use Rattle.query_reader.specs.Refusals.{refusal}
use Rattle.query_reader.specs.declared.checked.Checked.{Checked}
use Rattle.judged_queries.specs.Queries.{checked_in, or_no_reading, reading_of, unless_refused}

-- a text that reads as an accepted query is judged as what is known of it
pub read_text_is : (checked : Checked) (schema : SchemaParts) (text : List ℕ) → reading_of text ≡ Ok checked.query → IsCheckedFor checked schema → checked_in schema text ≡ Ok checked
unfolding checked_in
read_text_is checked schema text reads known =
    ap (λ r. or_no_reading r >>= (λ q. unless_refused q schema (refusal q schema))) reads
    ∙ ap (unless_refused checked.query schema) known.accepted ∙ ap Ok (sym known.known)
