-- What a provider answers to bytes.
use Rattle.std.specs.Prelude.{ℕ, List, Result, Ok}
use Rattle.spl_words.specs.Results.{◌>>=◌}
use Rattle.spl_words.specs.declared.provider.Provider.{Provider}
use Rattle.spl_values.specs.Tables.{TableParts}
use Rattle.seed_expansion.specs.Expanders.{Meaning}
use Rattle.session_model.specs.Answers.{answer_bytes}
use Rattle.provider_core.specs.declared.fault.ProviderFault.{ProviderFault}
use Rattle.provider_core.specs.Asking.{asked_in}

-- the bytes of its answer frame over a table, or the first refusal
unfoldable pub answered : Meaning → Provider → List ℕ → TableParts → Result (List ℕ) ProviderFault
answered e provider bytes table = do
  asked ← asked_in provider bytes table
  Ok (answer_bytes e provider bytes asked.frame asked.checked table)
