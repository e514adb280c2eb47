use Rattle.std.proofs.Common.{◌≡◌, ◌∙◌, ap, arith, drop, length, vec_len}
use Rattle.std.proofs.lemmas.List.{take_at}
use Rattle.spl_values.specs.Shapes.{ShapeParts}
use Rattle.private_plan.specs.declared.plans.Plan.{Plan}
use Rattle.private_plan.specs.Plans.{plan_of}
use Rattle.provider_core.specs.Cells.{words_in}
use Rattle.provider_core.proofs.CellWidths.{some_words}
use Rattle.provider_core.proofs.KeyDepths.{placed_layout, tree_few, words_fit}
use Rattle.provider_core.proofs.RowSums.{same_spelling}
use Rattle.provider_core.proofs.answering.reply.Goals as goal

pub bytes_of-requires-clause-allowed : goal.bytes_of-requires-clause-allowed
bytes_of-requires-clause-allowed g c =
    let asked = c.args.asked.now in
    let checked = asked.checked in
    let table = c.args.table.now in
    let schema = table.shape.schema in
    let allowed = c.requires.asked.frame.allowed in
    let placed = placed_layout table checked asked.frame c.requires.asked.placed in
    let few = c.accepted_has_cells.ensures.width checked schema c.requires.asked.checked in
    let some = some_words checked.spec schema c.shape.ensures.valid.shape.schema (c.accepted_has_cells.ensures.fits checked schema c.requires.asked.checked) in
    let fit = words_fit table checked asked.frame allowed placed (some, few) in
    let kept : length c.fill_words.new.words ≡ vec_len c.in_ok-words.words = c.fill_words.auto.words ∙ c.deref_mut-3.ensures.len in
    let long = ap length (c.from_vec.ensures ∙ take_at c.fill_words.new.words (drop (length c.fill_words.new.words) c.in_ok-words.words.items) (vec_len c.in_ok-words.words) kept) ∙ kept in
    let size : length c.from_vec.result ≡ words_in (plan_of checked table.shape) asked.frame.round =
    long ∙ c.in_ok-words.ensures.len ∙ c.words_in.ensures ∙ ap (λ (p : Plan). words_in p asked.frame.round) c.in_ok-plan.ensures ∙ ap (λ (s : ShapeParts). words_in (plan_of checked s) asked.frame.round) c.shape-2.ensures.shape in
    record {
      round = allowed.round.0;
      round_end = allowed.round.1;
      some = omega (arith, size, fit.0);
      count = omega (arith, size, fit.1);
    }

pub returns-clause-answer : goal.returns-clause-answer
returns-clause-answer g c =
    let frame = c.args.asked.now.frame in
    let kept : length c.fill_words.new.words ≡ vec_len c.in_ok-words.words = c.fill_words.auto.words ∙ c.deref_mut-3.ensures.len in
    let words = c.from_vec.ensures ∙ take_at c.fill_words.new.words (drop (length c.fill_words.new.words) c.in_ok-words.words.items) (vec_len c.in_ok-words.words) kept ∙ c.fill_words.ensures in
    c.bytes_of.ensures.spelled
    ∙ same_spelling frame.session frame.round c.args.provider c.frame_digest.result _ c.in_ok-digest.digest _ c.from_vec.result _ c.frame_digest.ensures c.in_ok-digest.ensures words

pub first_tree-requires : goal.first_tree-requires
first_tree-requires g c =
    let asked = c.args.asked.now in
    let checked = asked.checked in
    let table = c.args.table.now in
    let branches = c.accepted_has_keys.ensures.branches checked table.shape.schema c.requires.asked.checked in
    let few = tree_few table checked asked.frame c.requires.asked.frame.allowed (placed_layout table checked asked.frame c.requires.asked.placed) branches.1 in
    rw (c.in_ok-plan.ensures, c.shape-2.ensures.shape) few

pub fill_words-requires-clause-placed : goal.fill_words-requires-clause-placed
fill_words-requires-clause-placed g c κs within = placed_layout c.args.table.now c.args.asked.now.checked c.args.asked.now.frame c.requires.asked.placed
