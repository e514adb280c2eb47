-- The stop of a step that isn't taken.
use Rattle.query_reader.specs.declared.params.ParamFault.{ParamFault}
use Rattle.query_reader.specs.declared.params.ParamFault.TheVariants as param
use Rattle.splinter_status.specs.declared.stops.InputStop.{InputStop}
use Rattle.splinter_status.specs.declared.stops.InputStop.TheVariants as input
use Rattle.splinter_status.specs.declared.stops.Refusal.TheVariants as refusal

-- of parameters: want of memory, or the refusal
abbrev pub stop_of_params : ParamFault → InputStop
stop_of_params param.OutOfMemory = input.OutOfMemory
stop_of_params fault = input.Refused (refusal.Param fault)
