-- A session over one table ends with the clear answer.
use Rattle.std.proofs.Common.{◌≡◌, ℕ, zero, suc, ◌^◌, ◌<◌, ◌≤◌, Bool, true, false, cond, List, [], ◌∷◌, length, drop, None, Some, Result, Ok, refl, sym, ap, subst, ◌∙◌, arith}
use Rattle.std.specs.Prelude.{nat_lt, ◌==◌}
use Rattle.std.specs.List.{AllByRecursion}
use Rattle.std.proofs.lemmas.Bool.Decides.{nat_tests}
use Rattle.sha2.proofs.Facts256.{length-sha256}
use Rattle.spl_words.specs.declared.provider.Provider.{Provider}
use Rattle.spl_words.specs.declared.provider.Provider.TheVariants.{Zero, One}
use Rattle.spl_values.specs.Shapes.{SchemaParts}
use Rattle.spl_values.specs.Tables.{TableParts, IsTable}
use Rattle.cell_merge.specs.Rows.{Row}
use Rattle.cell_merge.specs.Cells.{merge_all}
use Rattle.cell_merge.specs.TableRows.{adds_in, rows_of}
use Rattle.seed_expansion.specs.Expanders.{Meaning, IsPure}
use Rattle.query_grammar.specs.Canonical.{IsQuery}
use Rattle.query_grammar.specs.Queries.{QueryParts}
use Rattle.query_tokens.specs.Printing.{IsWellFormed, canonical_text}
use Rattle.query_reader.specs.declared.checked.Checked.{Checked}
use Rattle.query_reader.specs.declared.params.ParamFault.{ParamFault}
use Rattle.query_reader.specs.Accepted.{IsCheckedFor}
use Rattle.query_reader.specs.Matching.{matching_rows}
use Rattle.query_reader.specs.Params.{AreParamsFor, params_of_words, fault_or, marks_of}
use Rattle.query_reader.proofs.Codes.{answered_known}
use Rattle.query_reader.proofs.Lists.{all_at}
use Rattle.judged_queries.specs.Queries.{checked_in}
use Rattle.judged_queries.specs.Codes.{codes_in, codes_from}
use Rattle.judged_queries.proofs.TakenCodes.{words_are_codes}
use Rattle.sum_bounds.specs.Bounds.{sums_bounded}
use Rattle.clear_sql.specs.Clear.{clear}
use Rattle.clear_sql.specs.CellAnswers.{answer_of}
use Rattle.clear_sql.proofs.MatchingCells.{matching_clear}
use Rattle.private_plan.specs.Plans.{IsBuilt, plan_of}
use Rattle.private_plan.specs.Rounds.{first_round, secrets_in}
use Rattle.answer_frames.specs.declared.answer.AnswerFrame.{AnswerFrame}
use Rattle.answer_frames.specs.Spelling.{AnswerOf}
use Rattle.key_frames.specs.Notes.{NoteOf}
use Rattle.session_model.specs.Draws.{wide, roots_of}
use Rattle.key_frames.specs.Trees.{key_list}
use Rattle.session_model.specs.Answers.{answer_frame}
use Rattle.session_model.specs.Cells.{ArePicked, cells_back, first_answer, rows_back}
use Rattle.session_model.specs.Sessions.{session_roots, key_frame, key_bytes, round_answer, note, note_bytes, clear_text}
use Rattle.session_model.proofs.BackRows.{back_picked}
use Rattle.session_model.proofs.CellsBack.{answer_length, answers_small, word_added, words_planned}
use Rattle.session_model.proofs.CellsMerge.{back_merge}
use Rattle.combiner.specs.Combining.{added, combined}
use Rattle.combiner.specs.Finals.{last_words, final_of}
use Rattle.combiner.specs.GoodWords.{AreRowsOf}
use Rattle.combiner.proofs.Adding.{combined_agreed, combined_either}
use Rattle.combiner.proofs.OfRows.{all_rows, cells_cut, some_rows, table_cells_good}
use Rattle.client_rounds.specs.declared.faults.Source.TheVariants as source
use Rattle.client_rounds.specs.declared.judging.Judged.{Judged}
use Rattle.client_rounds.specs.WellPut.{IsWellPut}
use Rattle.client_rounds.specs.Finishing.{finished, note_in, result_of}
use Rattle.client_rounds.proofs.AnswerWords.{added_is, last_is_first, words_fit}
use Rattle.client_rounds.proofs.Read.{note_read, answer_read, note_judged, result_is, finished_is, final_is}
use Rattle.client_rounds.proofs.Spelled.{AreWords, note_spelled, sha256_small}

-- ---- parameters

passed : (over same : Bool) (marks had : ℕ) (a b : ParamFault) (r : Result (List ℕ) ParamFault) (codes : List ℕ) → nat_lt 255 marks ≡ over → (marks == had) ≡ same
    → fault_or (cond over (Some a) (cond same None (Some b))) r ≡ Ok codes → had ≤ 255
passed true same marks had a b r codes o s e = absurd cc
passed false true marks had a b r codes o s e = grind (arith, nat_tests, o, s)
passed false false marks had a b r codes o s e = absurd cc

few_codes : (q : QueryParts) (schema : SchemaParts) (codes params : List ℕ) → codes_in q schema codes ≡ Ok params → length codes ≤ 255
few_codes q schema codes params e =
    let marks = length (marks_of schema q.branches) in
    passed (nat_lt 255 marks) (marks == length codes) marks (length codes) _ _ (codes_from 0 schema (marks_of schema q.branches) codes) params refl refl e

-- ---- roots

pub length-roots_of : (n : ℕ) (words : List ℕ) → length (roots_of n words) ≡ n
unfolding roots_of
length-roots_of zero words = refl
length-roots_of (suc n) words = let more = length-roots_of n (drop 4 words) in omega arith

-- ---- answers

module _ (e : Meaning) (checked : Checked) (table : TableParts) (params drawn : List ℕ) where
  -- the roots that are drawn
  abbrev pub drawn_roots : List (ℕ × ℕ)
  drawn_roots = session_roots (secrets_in checked table.shape params first_round) drawn

  pub roots_count : length drawn_roots ≡ length (secrets_in checked table.shape params first_round)
  roots_count = length-roots_of (length (secrets_in checked table.shape params first_round)) (drop 2 drawn)

  -- what a provider answers
  abbrev pub answer_by : Provider → AnswerFrame
  answer_by p = answer_frame e p (key_bytes e p checked table.shape params drawn) (key_frame e p checked table.shape params drawn) checked table

  pub answer_spelled : (p : Provider) → IsTable table → IsCheckedFor checked table.shape.schema → IsQuery checked.query → AreParamsFor checked table.shape.schema params → IsBuilt checked table.shape.schema.columns → wide drawn < 2 ^ 128
      → AnswerOf (round_answer e p checked table params drawn) (answer_by p)
  answer_spelled p valid accepted form known built small =
      let count = answer_length checked table params drawn_roots valid accepted form known roots_count e p built ∙ words_planned checked table params accepted form known built in
      let fit = words_fit checked table.shape params valid.shape.schema accepted form known built in
      record {
        allowed = record { round = omega arith; round_end = omega arith; some = omega (arith, fit.0, count); count = omega (arith, fit.1, count) };
        typed = record {
          session = small;
          key = (length-sha256 (key_bytes e p checked table.shape params drawn), sha256_small (key_bytes e p checked table.shape params drawn));
          table = (length-sha256 _, sha256_small _);
          words = answers_small e p 1 (key_list e p 0 (secrets_in checked table.shape params first_round) drawn_roots) checked table;
        };
        spelled = refl;
      }

-- ---- rows of the table

-- rows that pass a test are rows of the table
each_of_table : (table : TableParts) → IsTable table → (rowses : List (List Row)) → AllByRecursion (ArePicked table) rowses → AllByRecursion (AreRowsOf table) rowses
each_of_table table valid [] h = tt
each_of_table table valid (rows ∷ rowses) h = (subst (AreRowsOf table) (sym h.0.1) (some_rows table h.0.0 (rows_of table) (all_rows table valid)), each_of_table table valid rowses h.1)

-- ---- notes

-- the note of a session whose words are words
pub note_made : (e : Meaning) (checked : Checked) (table : TableParts) (params drawn : List ℕ) (texts : List (List ℕ)) → IsTable table → IsWellFormed checked.query → IsCheckedFor checked table.shape.schema
    → params_of_words checked.query table.shape.schema texts ≡ Ok params → AreWords drawn → NoteOf (note_bytes e checked table.shape params drawn) (note e checked table.shape params drawn)
note_made e checked table params drawn texts valid form accepted given are =
    let known = answered_known checked table.shape.schema texts (Ok params) form.form valid.shape.schema given accepted in
    let codes = words_are_codes checked.query table.shape.schema texts params valid.shape.schema given in
    let asked : IsWellPut checked table.shape params = record { valid = valid.shape; form = form; accepted = accepted; known = known } in
    note_spelled e checked table.shape params drawn asked (few_codes checked.query table.shape.schema params params codes) are

-- ---- the end

module _ (e : Meaning) (pure : IsPure e) (checked : Checked) (table : TableParts) (params drawn : List ℕ) (texts : List (List ℕ)) (valid : IsTable table) (form : IsWellFormed checked.query)
    (accepted : IsCheckedFor checked table.shape.schema) (built : IsBuilt checked table.shape.schema.columns) (given : params_of_words checked.query table.shape.schema texts ≡ Ok params)
    (bounds : sums_bounded table checked.spec.items ≡ Ok tt) (spelled : NoteOf (note_bytes e checked table.shape params drawn) (note e checked table.shape params drawn)) (canonical : checked_in table.shape.schema (canonical_text checked.query) ≡ Ok checked) where
  known : AreParamsFor checked table.shape.schema params
  known = answered_known checked table.shape.schema texts (Ok params) form.form valid.shape.schema given accepted

  codes : codes_in checked.query table.shape.schema params ≡ Ok params
  codes = words_are_codes checked.query table.shape.schema texts params valid.shape.schema given

  -- the words of both answers add to the cells that come back
  words_add : added (answer_by e checked table params drawn Zero).words (answer_by e checked table params drawn One).words ≡ cells_back checked table params
  words_add =
      let roots = drawn_roots e checked table params drawn in
      let same = roots_count e checked table params drawn in
      let count = λ (p : Provider). answer_length checked table params roots valid accepted form.form known same e p built in
      added_is (first_answer e Zero checked table params roots) (first_answer e One checked table params roots) (cells_back checked table params) (count Zero) (count One)
      (word_added checked table params roots valid accepted form.form known same e pure built)

  -- what the note says
  abbrev judged : Judged
  judged = record { note = note e checked table.shape params drawn; checked = checked; params = params; plan = plan_of checked table.shape }

  abbrev answers : Provider → AnswerFrame
  answers p = answer_by e checked table params drawn p

  note_is : note_in (note_bytes e checked table.shape params drawn) ≡ Ok judged
  note_is =
      let read = note_read (note_bytes e checked table.shape params drawn) (note e checked table.shape params drawn) spelled in
      note_judged (note_bytes e checked table.shape params drawn) (note e checked table.shape params drawn) checked params read canonical built codes

  both_are : combined (note e checked table.shape params drawn) (answers Zero) (answers One) (last_words (plan_of checked table.shape)) ≡ Ok (cells_back checked table params)
  both_are =
      let roots = drawn_roots e checked table params drawn in
      let same = roots_count e checked table params drawn in
      let planned = last_is_first checked table.shape built ∙ sym (words_planned checked table params accepted form.form known built) in
      let count = λ (p : Provider). planned ∙ sym (answer_length checked table params roots valid accepted form.form known same e p built) in
      combined_agreed (note e checked table.shape params drawn) (answers Zero) (answers One) (last_words (plan_of checked table.shape)) refl refl refl refl refl refl refl refl (count Zero) (count One) refl refl
      ∙ ap (λ (words : List ℕ). Ok words) words_add

  final_are : final_of checked table.shape (cells_back checked table params) ≡ Ok (clear table.shape.schema.columns checked.spec (matching_rows checked params table))
  final_are =
      let columns = table.shape.schema.columns in
      let adds = adds_in columns in
      let rowses = rows_back checked table params in
      let of_table = all_at (AreRowsOf table) rowses (each_of_table table valid rowses (back_picked checked table params)) in
      final_is checked table.shape (cells_back checked table params) (clear columns checked.spec (matching_rows checked params table))
      (table_cells_good adds checked table rowses valid accepted of_table)
      (ap (λ (cells : List (List ℕ)). answer_of columns checked.spec (merge_all checked.spec cells)) (cells_cut adds checked table.shape.schema rowses valid.shape.schema accepted)
      ∙ (ap (answer_of columns checked.spec) (back_merge checked table params valid accepted form.form known built) ∙ matching_clear checked params table bounds))

  text_is : (a b : AnswerFrame) → combined (note e checked table.shape params drawn) a b (last_words (plan_of checked table.shape)) ≡ Ok (cells_back checked table params) → result_of judged a b ≡ Ok (clear_text checked params table)
  unfolding clear_text
  text_is a b both = result_is judged a b (cells_back checked table params) (clear table.shape.schema.columns checked.spec (matching_rows checked params table)) both final_are

  pub ends : finished (note_bytes e checked table.shape params drawn) (round_answer e Zero checked table params drawn) (round_answer e One checked table params drawn) ≡ Ok (clear_text checked params table)
  ends =
      finished_is (note_bytes e checked table.shape params drawn) (round_answer e Zero checked table params drawn) (round_answer e One checked table params drawn) judged (answers Zero) (answers One) (clear_text checked params table)
      note_is (answer_read source.First (round_answer e Zero checked table params drawn) (answers Zero) (answer_spelled e checked table params drawn Zero valid accepted form.form known built spelled.typed.session))
      (answer_read source.Second (round_answer e One checked table params drawn) (answers One) (answer_spelled e checked table params drawn One valid accepted form.form known built spelled.typed.session))
      (text_is (answers Zero) (answers One) both_are)

  pub ends_exchanged : finished (note_bytes e checked table.shape params drawn) (round_answer e One checked table params drawn) (round_answer e Zero checked table params drawn) ≡ Ok (clear_text checked params table)
  ends_exchanged =
      finished_is (note_bytes e checked table.shape params drawn) (round_answer e One checked table params drawn) (round_answer e Zero checked table params drawn) judged (answers One) (answers Zero) (clear_text checked params table)
      note_is (answer_read source.First (round_answer e One checked table params drawn) (answers One) (answer_spelled e checked table params drawn One valid accepted form.form known built spelled.typed.session))
      (answer_read source.Second (round_answer e Zero checked table params drawn) (answers Zero) (answer_spelled e checked table params drawn Zero valid accepted form.form known built spelled.typed.session))
      (text_is (answers One) (answers Zero) (combined_either (note e checked table.shape params drawn) (answers One) (answers Zero) (last_words (plan_of checked table.shape)) ∙ both_are))
