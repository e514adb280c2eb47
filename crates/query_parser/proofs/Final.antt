-- From the verdict to the grammar, whatever the reader returned.
use Rattle.std.proofs.Common.{◌≡◌, ℕ, List, Result, Ok, Err, IfOk, IfErr, sym, ◌∙◌, ap}
use Rattle.query_grammar.specs.declared.token.Placed.{Placed}
use Rattle.query_grammar.specs.Queries.{QueryParts}
use Rattle.query_grammar.specs.Grammar.{Reads}
use Rattle.query_grammar.specs.Machine.{Start}
use Rattle.query_grammar.specs.Faults.{tokens_of, verdict}
use Rattle.query_grammar.proofs.Verdict.{verdict_reads, reads_verdict, verdict_faults}
use Rattle.query_parser.specs.declared.fault.ReadFault.{ReadFault}
use Rattle.query_parser.specs.declared.fault.ReadFault.TheVariants.{NoReading, OutOfMemory}
use Rattle.query_parser.specs.declared.reader.Draft.{Draft}
use Rattle.query_parser.specs.Reading.{Left, verdict_at, Ends, drafted, IsDrafted, IsStopOf}

module _ (l : Left) (ps : List Placed) (end : ℕ) (same : verdict Start ps end ≡ verdict_at Start l) where
  pub final_reads : (r : Result Draft ReadFault) → Ends Start l drafted r → IfOk r (λ d. Reads (tokens_of ps) (drafted d))
  final_reads (Ok d) e = verdict_reads ps end (drafted d) (same ∙ e)
  final_reads (Err x) e = tt

  pub final_only : (r : Result Draft ReadFault) → Ends Start l drafted r → (q : QueryParts) → Reads (tokens_of ps) q → IsDrafted q r
  final_only (Ok d) e q r = let v = reads_verdict ps end q r in let w = same ∙ e in cc
  final_only (Err (NoReading o)) e q r = let v = reads_verdict ps end q r in let w = same ∙ e in cc
  final_only (Err OutOfMemory) e q r = tt

  pub final_fault : (r : Result Draft ReadFault) → Ends Start l drafted r → IfErr r (λ x. IsStopOf x ps end)
  final_fault (Ok d) e = tt
  final_fault (Err (NoReading o)) e = verdict_faults ps end o (same ∙ e)
  final_fault (Err OutOfMemory) e = tt

pub same_verdict : (l : Left) (ps : List Placed) (end : ℕ) → l.tokens ≡ ps → l.end ≡ end → verdict Start ps end ≡ verdict_at Start l
same_verdict l ps end p q = ap (λ x. verdict Start x end) (sym p) ∙ ap (verdict Start l.tokens) (sym q)
