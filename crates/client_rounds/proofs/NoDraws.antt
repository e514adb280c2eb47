-- The faults of steps that draw nothing are none of a source.
use Rattle.std.proofs.Common.{◌≡◌}
use Rattle.query_parser.specs.declared.fault.QueryFault.{QueryFault}
use Rattle.query_parser.specs.declared.fault.QueryFault.TheVariants as query
use Rattle.query_reader.specs.declared.params.ParamFault.{ParamFault}
use Rattle.query_reader.specs.declared.params.ParamFault.TheVariants as param
use Rattle.combiner.specs.declared.combining.CombineFault.{CombineFault}
use Rattle.combiner.specs.declared.combining.CombineFault.TheVariants as combine
use Rattle.combiner.specs.declared.finals.FinalFault.{FinalFault}
use Rattle.combiner.specs.declared.finals.FinalFault.TheVariants as final
use Rattle.client_rounds.specs.declared.faults.AskFault.TheVariants as ask
use Rattle.client_rounds.specs.Faults.{query_fault, param_fault}
use Rattle.client_rounds.specs.Finishing.{combine_fault, final_fault}

pub query_draws_none : (f : QueryFault) → query_fault f ≡ ask.DrawFault → ⊥
query_draws_none (query.NoReading at) h = cc
query_draws_none query.NoTable h = cc
query_draws_none (query.NoColumn name) h = cc
query_draws_none (query.WrongType name) h = cc
query_draws_none query.NoSecret h = cc
query_draws_none (query.BranchesDiffer n) h = cc
query_draws_none (query.TooWide n) h = cc
query_draws_none (query.TooManyBranches n) h = cc
query_draws_none query.BadTopk h = cc
query_draws_none (query.CellsTooWide n) h = cc
query_draws_none (query.TooLong n) h = cc
query_draws_none query.OutOfMemory h = cc

pub param_draws_none : (f : ParamFault) → param_fault f ≡ ask.DrawFault → ⊥
param_draws_none (param.Count a b) h = cc
param_draws_none (param.Value i f) h = cc
param_draws_none (param.BadCode i) h = cc
param_draws_none param.OutOfMemory h = cc

pub combine_draws_none : (f : CombineFault) → combine_fault f ≡ ask.DrawFault → ⊥
combine_draws_none (combine.SameProvider p) h = cc
combine_draws_none (combine.Differ d) h = cc
combine_draws_none combine.OutOfMemory h = cc

pub final_draws_none : (f : FinalFault) → final_fault f ≡ ask.DrawFault → ⊥
final_draws_none (final.BadWord i word) h = cc
final_draws_none final.OutOfMemory h = cc
