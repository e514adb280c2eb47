-- What a provider replies to a request.
use Rattle.std.specs.Prelude.{◌≡◌, ◌⊎◌, ℕ, List, [], ◌∷◌, Result, Ok, Err}
use Rattle.spl_outside.specs.Wire.{Visits}
use Rattle.spl_outside.specs.declared.Stop.{Stop}
use Rattle.spl_words.specs.declared.provider.Provider.{Provider}
use Rattle.spl_values.specs.Tables.{TableParts}
use Rattle.seed_expansion.specs.Expanders.{Meaning}
use Rattle.provider_core.specs.Answering.{answered}
use Rattle.provider_core.specs.declared.fault.ProviderFault.{ProviderFault}
use Rattle.provider_core.specs.declared.fault.ProviderFault.TheVariants as fault
use Rattle.wire_frames.specs.Sending.{SendsFrameAt}

-- the code of a refusal: its number in their order, and 7 for want of memory
abbrev pub code_of : ProviderFault → ℕ
code_of (fault.Frame f) = 1
code_of (fault.WrongProvider p) = 2
code_of (fault.ShapeDiffers line) = 3
code_of (fault.Query f) = 4
code_of (fault.WrongLayout key) = 5
code_of (fault.SumBound column row) = 6
code_of fault.OutOfMemory = 7

-- the body that tells an answer or a refusal: the byte 0 and the answer's bytes, or the refusal's code alone
abbrev pub body_of : Result (List ℕ) ProviderFault → List ℕ
body_of (Ok bytes) = 0 ∷ bytes
body_of (Err f) = code_of f ∷ []

-- the body by which a provider answers a frame over a table
abbrev pub body_to : Meaning → Provider → TableParts → List ℕ → List ℕ
body_to e provider table frame = body_of (answered e provider frame table)

-- the body is the reply to the frame, or the code of want of memory in its place
abbrev pub IsReply : (List ℕ → List ℕ) → List ℕ → List ℕ → Type 0
IsReply reply frame body = (body ≡ reply frame) ⊎ (body ≡ 7 ∷ [])

-- a reply to the frame was sent, or some first bytes of one
pub record RepliesAt (reply : List ℕ → List ℕ) (frame : List ℕ) (r : Result (Unit {0}) Stop) (v n : Visits) : Type 0 where
  pub body : List ℕ
  pub is : IsReply reply frame body
  pub sends : SendsFrameAt body r v n
