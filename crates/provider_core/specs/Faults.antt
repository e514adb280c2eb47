-- Want of memory in a provider's refusals.
use Rattle.spl_words.specs.declared.fault.FrameFault.TheVariants as frame
use Rattle.query_parser.specs.declared.fault.QueryFault.TheVariants as query
use Rattle.provider_core.specs.declared.fault.ProviderFault.{ProviderFault}
use Rattle.provider_core.specs.declared.fault.ProviderFault.TheVariants.{Frame, Query}

-- want of memory is the provider's own refusal, and never the fault of a frame or a query in one
abbrev pub OwnsMemory : ProviderFault → Type 0
OwnsMemory (Frame frame.OutOfMemory) = ⊥
OwnsMemory (Query query.OutOfMemory) = ⊥
OwnsMemory _ = Unit {0}
