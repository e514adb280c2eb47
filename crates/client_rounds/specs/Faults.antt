-- What the fault of a step is for a client. Want of memory is always the same.
use Rattle.query_parser.specs.declared.fault.QueryFault.{QueryFault}
use Rattle.query_parser.specs.declared.fault.QueryFault.TheVariants as query
use Rattle.query_reader.specs.declared.params.ParamFault.{ParamFault}
use Rattle.query_reader.specs.declared.params.ParamFault.TheVariants as param
use Rattle.client_rounds.specs.declared.faults.AskFault.{AskFault}
use Rattle.client_rounds.specs.declared.faults.AskFault.TheVariants as ask

-- of a query that is refused
abbrev pub query_fault : QueryFault → AskFault
query_fault query.OutOfMemory = ask.OutOfMemory
query_fault e = ask.Query e

-- of parameters that are refused
abbrev pub param_fault : ParamFault → AskFault
param_fault param.OutOfMemory = ask.OutOfMemory
param_fault e = ask.Param e
