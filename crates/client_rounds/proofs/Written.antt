-- The values of a first round may be written.
use Rattle.std.proofs.Common.{◌≡◌, ℕ, ◌≤◌, List, length, drop, refl, ◌∙◌, ap, arith, suc, zero}
use Rattle.spl_words.specs.declared.provider.Provider.{Provider}
use Rattle.spl_words.specs.Secrets.{Secret}
use Rattle.spl_values.specs.Shapes.{ShapeParts}
use Rattle.seed_expansion.specs.Expanders.{Meaning}
use Rattle.query_tokens.specs.Printing.{canonical_text}
use Rattle.query_reader.specs.declared.checked.Checked.{Checked}
use Rattle.key_frames.specs.Frames.{FrameAllowed}
use Rattle.key_frames.specs.Notes.{NoteAllowed}
use Rattle.private_plan.specs.Rounds.{first_round, secrets_in}
use Rattle.session_model.specs.Draws.{wide, roots_of}
use Rattle.session_model.specs.Sessions.{session_roots, key_frame, note}
use Rattle.client_rounds.specs.WellPut.{IsWellPut}
use Rattle.client_rounds.proofs.Printable.{text_prints, none_bad, text_some, text_short}
use Rattle.private_plan.proofs.FirstTrees.{secret_count, secret_depths}
use Rattle.client_rounds.proofs.Params.{some_params}
use Rattle.client_rounds.proofs.Allowed.{MayBeWritten, frame_allowed}

pub length-roots : (n : ℕ) (words : List ℕ) → length (roots_of n words) ≡ n
unfolding roots_of
length-roots zero words = refl
length-roots (suc n) words = ap (λ k. suc k) (length-roots n (drop 4 words))

module _ (checked : Checked) (shape : ShapeParts) (params : List ℕ) (asked : IsWellPut checked shape params) where
  pub round_is : (roots : List (ℕ × ℕ)) → length roots ≡ length (secrets_in checked shape params first_round)
      → MayBeWritten 1 (canonical_text checked.query) (secrets_in checked shape params first_round) roots
  round_is roots same =
      let trees = secret_count checked shape params asked.accepted asked.form.form asked.known asked.valid.schema in
      record {
        round = (omega arith, omega arith);
        query_length = (text_some checked.query, text_short checked.query shape.schema asked.accepted.accepted);
        printable = none_bad (canonical_text checked.query) (text_prints checked.query asked.form);
        trees = (trees.0, omega (arith, trees.1));
        depths = secret_depths checked shape params asked.accepted asked.form.form asked.known asked.valid.schema;
        same = same;
      }

  -- the same of what was made for it
  pub made_for : (query : List ℕ) (secrets : List Secret) (roots : List (ℕ × ℕ)) → query ≡ canonical_text checked.query → secrets ≡ secrets_in checked shape params first_round
      → length roots ≡ length secrets → MayBeWritten 1 query secrets roots
  made_for query secrets roots text made same = rw (text, made) (round_is roots (same ∙ ap length made))

  pub has_params : 1 ≤ length params
  has_params = some_params checked shape.schema params asked.accepted asked.form.form asked.known

pub key_frame_allowed : (e : Meaning) (p : Provider) (checked : Checked) (shape : ShapeParts) (params words : List ℕ) → IsWellPut checked shape params → FrameAllowed (key_frame e p checked shape params words)
key_frame_allowed e p checked shape params words asked =
    let secrets = secrets_in checked shape params first_round in
    let roots = session_roots secrets words in
    frame_allowed e p (wide words) 1 0 (canonical_text checked.query) shape secrets roots (round_is checked shape params asked roots (length-roots (length secrets) (drop 2 words)))

pub note_allowed : (e : Meaning) (checked : Checked) (shape : ShapeParts) (params words : List ℕ) → IsWellPut checked shape params → length params ≤ 255 → NoteAllowed (note e checked shape params words)
note_allowed e checked shape params words asked few = record {
  round = (omega arith, omega arith);
  query_length = (text_some checked.query, text_short checked.query shape.schema asked.accepted.accepted);
  query = none_bad (canonical_text checked.query) (text_prints checked.query asked.form);
  count = (has_params checked shape params asked, few);
  table = λ round. refl;
}
