use Rattle.std.proofs.Common.{ℕ, Err, ap, ◌∙◌}
use Rattle.std.proofs.lemmas.Result.{err_from_is_err_and}
use Rattle.std.specs.Global.{Vec}
use Rattle.splinter_status.specs.declared.stops.Stopped.{Stopped}
use Rattle.command_words.specs.Views.{answer_order}
use Rattle.splinter_commands.specs.Commands.{answer_ready, answer_effect}
use Rattle.splinter_commands.proofs.Drawless.{answer_wrote, answered_came, answered_taken}
use Rattle.splinter_commands.proofs.Late.{early, meets, unwritten}
use Rattle.splinter_commands.proofs.answer.answer.Goals as goal

pub returns-in_err-bytes-clause-told : goal.returns-in_err-bytes-clause-told
returns-in_err-bytes-clause-told g c = λ drawn.
    let failed = err_from_is_err_and c.from_residual.result c.from_residual.ensures.1 in
    early (λ (v : Vec ℕ). answer_effect c.args.words.now.out.now v.items) (answer_ready (answer_order c.args.words.now)) _ _ drawn c.in_err-bytes.field-0.0 c.from_residual.result
    (failed.1 ∙ ap (λ (s : Stopped). Err s) failed.2) c.in_err-bytes.ensures.stays c.in_err-bytes.ensures.gives

pub returns-in_err-write_file-clause-told : goal.returns-in_err-write_file-clause-told
returns-in_err-write_file-clause-told g c = λ drawn.
    let failed = err_from_is_err_and c.from_residual-in_err-write_file.result c.from_residual-in_err-write_file.ensures.1 in
    let name = c.args.words.now.out.now in
    let bytes = c.in_ok-bytes.bytes.items in
    unwritten (answer_ready (answer_order c.args.words.now)) _ _ drawn drawn c.in_err-write_file.field-0.0 c.from_residual-in_err-write_file.result (answer_effect name bytes)
    (failed.1 ∙ ap (λ (s : Stopped). Err s) failed.2) c.in_err-write_file.ensures.late c.in_ok-bytes.ensures.gives (answered_taken name bytes drawn)
    (answer_wrote name bytes c.deref.result.now _ (g.F.Files.held c.answer_files.new.files) (g.F.Files.held c.write_file.new.files) drawn (Err c.in_err-write_file.field-0.0) c.deref.ensures.value c.in_ok-bytes.ensures.stays c.in_err-write_file.ensures.puts)

pub returns-clause-told : goal.returns-clause-told
returns-clause-told g c = λ drawn.
    let name = c.args.words.now.out.now in
    let bytes = c.in_ok-bytes.bytes.items in
    meets (answer_ready (answer_order c.args.words.now)) _ _ drawn drawn _ (answer_effect name bytes) c.in_ok-bytes.ensures.gives
    (answered_came name bytes c.deref.result.now _ (g.F.Files.held c.answer_files.new.files) (g.F.Files.held c.write_file.new.files) drawn c.new.result c.deref.ensures.value c.in_ok-bytes.ensures.stays c.new.ensures.items c.in_ok-write_file.ensures.puts) (answered_taken name bytes drawn)
