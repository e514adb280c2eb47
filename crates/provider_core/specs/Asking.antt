-- What a key frame asks of a provider over its table.
use Rattle.std.specs.Prelude.{◌≡◌, ℕ, List, Option, None, Some, Result, Ok, Err, if◌then◌else◌}
use Rattle.std.specs.Str.{bytes_eq}
use Rattle.spl_words.specs.Results.{◌>>=◌}
use Rattle.spl_words.specs.declared.fault.FrameFault.{FrameFault}
use Rattle.spl_words.specs.declared.provider.Provider.{Provider}
use Rattle.spl_words.specs.declared.provider.Provider.TheVariants.{Zero, One}
use Rattle.spl_values.specs.ShapeTexts.{shape_text}
use Rattle.spl_values.specs.Tables.{TableParts}
use Rattle.frame_fields.specs.Reading.{frame_at}
use Rattle.key_frames.specs.FrameReading.{frame_fields_at}
use Rattle.key_frames.specs.Frames.{KeyFrameOf}
use Rattle.key_frames.specs.declared.frame.KeyFrame.{KeyFrame}
use Rattle.query_parser.specs.declared.fault.QueryFault.{QueryFault}
use Rattle.query_reader.specs.Accepted.{IsCheckedFor}
use Rattle.query_reader.specs.declared.checked.Checked.{Checked}
use Rattle.judged_queries.specs.Queries.{checked_in}
use Rattle.private_plan.specs.Plans.{plan_of}
use Rattle.private_plan.specs.Lengths.{trees_in}
use Rattle.sum_bounds.specs.Bounds.{sums_bounded}
use Rattle.sum_bounds.specs.declared.SumFault.{SumFault}
use Rattle.provider_core.specs.declared.fault.ProviderFault.{ProviderFault}
use Rattle.provider_core.specs.declared.fault.ProviderFault.TheVariants as fault
use Rattle.provider_core.specs.declared.asked.Request.{Request}
use Rattle.provider_core.specs.Layouts.{layout_differs}
use Rattle.provider_core.specs.Lines.{first_line}

-- a frame, or the refusal of bytes that are none
abbrev pub or_no_frame : Result KeyFrame FrameFault → Result KeyFrame ProviderFault
or_no_frame (Ok frame) = Ok frame
or_no_frame (Err e) = Err (fault.Frame e)

-- a frame that names this provider
abbrev pub if_own : Provider → Provider → Result (Unit {0}) ProviderFault
if_own Zero Zero = Ok tt
if_own One One = Ok tt
if_own Zero One = Err (fault.WrongProvider One)
if_own One Zero = Err (fault.WrongProvider Zero)

-- a shape with the table's canonical text
abbrev pub if_same_text : List ℕ → List ℕ → Result (Unit {0}) ProviderFault
if_same_text a b = if bytes_eq a b then Ok tt else Err (fault.ShapeDiffers (first_line a b))

-- an accepted query, or its refusal
abbrev pub or_query_fault : Result Checked QueryFault → Result Checked ProviderFault
or_query_fault (Ok checked) = Ok checked
or_query_fault (Err e) = Err (fault.Query e)

-- keys that lie as they have to
abbrev pub if_placed : Option ℕ → Result (Unit {0}) ProviderFault
if_placed None = Ok tt
if_placed (Some i) = Err (fault.WrongLayout i)

-- sums within their bounds, or the first that isn't
abbrev pub or_sum_fault : Result (Unit {0}) SumFault → Result (Unit {0}) ProviderFault
or_sum_fault (Ok x) = Ok x
or_sum_fault (Err e) = Err (fault.SumBound e.column e.at)

-- the keys of a frame are those that the plan of its query asks for; a round that the plan doesn't have has no trees, so its first key is one too many
unfoldable pub keys_placed : TableParts → KeyFrame → Checked → Result (Unit {0}) ProviderFault
keys_placed table frame checked = if_placed (layout_differs 0 (trees_in (plan_of checked table.shape) frame.round) frame.keys)

-- the frame that bytes are, for this provider and a table of that shape
unfoldable pub frame_in : Provider → List ℕ → TableParts → Result KeyFrame ProviderFault
frame_in provider bytes table = do
  frame ← or_no_frame (frame_at frame_fields_at bytes)
  own ← if_own provider frame.provider
  same ← if_same_text (shape_text frame.shape) (shape_text table.shape)
  Ok frame

-- the accepted query of a frame, whose keys are in their places and whose sums are within their bounds
unfoldable pub query_in : TableParts → KeyFrame → Result Checked ProviderFault
query_in table frame = do
  checked ← or_query_fault (checked_in table.shape.schema frame.query)
  placed ← keys_placed table frame checked
  bounded ← or_sum_fault (sums_bounded table checked.spec.items)
  Ok checked

-- what bytes ask of a provider over its table, or the first refusal
unfoldable pub asked_in : Provider → List ℕ → TableParts → Result Request ProviderFault
asked_in provider bytes table = do
  frame ← frame_in provider bytes table
  checked ← query_in table frame
  Ok (record { frame = frame; checked = checked })

-- what is known of a frame that a provider answers, and of its query
pub record IsRequest (bytes : List ℕ) (table : TableParts) (a : Request) : Type 0 where
  pub frame : KeyFrameOf bytes a.frame
  pub checked : IsCheckedFor a.checked table.shape.schema
  pub placed : keys_placed table a.frame a.checked ≡ Ok tt
