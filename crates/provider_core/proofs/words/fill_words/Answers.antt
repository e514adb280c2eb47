use Rattle.std.proofs.Common.{◌≡◌, ◌≤◌, ◌+◌, ◌*◌, ℕ, Some, cond, length, slice_get, sym, ap, ◌∙◌, arith}
use Rattle.std.proofs.lemmas.Bool.{eq-eqb}
use Rattle.std.proofs.lemmas.List.Elements.{All-from_recursion}
use Rattle.std.proofs.lemmas.Option.{slice_get_within, get_or_from_slice_get}
use Rattle.spl_words.specs.Folds.{fold_words}
use Rattle.key_frames.specs.declared.keys.Key.{Key}
use Rattle.key_frames.specs.Keys.{depth}
use Rattle.key_frames.specs.Trees.{key_share}
use Rattle.private_plan.specs.Rounds.{ones}
use Rattle.session_model.specs.Answers.{entries_of}
use Rattle.count_sum.specs.SumPairs.{sum_pairs}
use Rattle.provider_core.specs.Cells.{first_levels, words_at}
use Rattle.provider_core.proofs.CellWidths.{some_words}
use Rattle.provider_core.proofs.KeyDepths.{depths_exact, depths_within, tree_few}
use Rattle.provider_core.proofs.LevelCells.{few_ones, few_rows}
use Rattle.provider_core.proofs.RoundWords.{first_brings, level_answer, level_cells, level_room, levels_deep, ones_answer, ones_room, second_brings, sum_answer, sum_first, sum_room}
use Rattle.provider_core.proofs.words.fill_words.Goals as goal

-- ---- a sum

pub add_keys-requires-clause-width : goal.add_keys-requires-clause-width
add_keys-requires-clause-width g c κs within =
    let f = c.args.folding.now in
    let asked = f.asked.now in
    let checked = asked.checked in
    let table = f.table.now in
    let long = sum_room table checked asked.frame c.requires.allowed c.requires.placed (sym c.requires.kind ∙ c.in-Sum.is) c.args.words.now c.requires.room in
    let few = c.accepted_has_cells.ensures.width checked table.shape.schema c.requires.checked in
    let some = some_words checked.spec table.shape.schema c.shape.ensures.valid.shape.schema (c.accepted_has_cells.ensures.fits checked table.shape.schema c.requires.checked) in
    (omega (arith, long, some), omega (arith, long, few))

pub add_keys-requires-clause-part : goal.add_keys-requires-clause-part
add_keys-requires-clause-part g c κs within =
    let f = c.args.folding.now in
    let asked = f.asked.now in
    let long = sum_room f.table.now asked.checked asked.frame c.requires.allowed c.requires.placed (sym c.requires.kind ∙ c.in-Sum.is) c.args.words.now c.requires.room in
    let cells = rw c.in-Sum.is at c.requires.cells in
    c.requires.part ∙ cells.width ∙ sym long

pub add_keys-requires-clause-few : goal.add_keys-requires-clause-few
add_keys-requires-clause-few g c κs within =
    let f = c.args.folding.now in
    let cells = rw c.in-Sum.is at c.requires.cells in
    let few = few_rows f.asked.now.checked f.table.now c.args.cells.now.keys c.args.cells.now.cells c.shape.ensures.valid cells.each in
    omega (arith, few)

pub add_keys-requires-clause-bits : goal.add_keys-requires-clause-bits
add_keys-requires-clause-bits g c κs within k d inside j x below =
    let f = c.args.folding.now in
    let asked = f.asked.now in
    let sums = sym c.requires.kind ∙ c.in-Sum.is in
    let first = sum_first f.table.now asked.checked asked.frame c.requires.allowed c.requires.placed sums in
    let exact = depths_exact f.table.now asked.checked asked.frame c.requires.allowed c.requires.placed (λ s. absurd (let e = sym sums ∙ s in cc)) first in
    let here = All-from_recursion (λ (key : Key). depth key ≡ asked.checked.bits) asked.frame.keys exact k d inside in
    let cells = rw c.in-Sum.is at c.requires.cells in
    rw here (cells.below j x below)

pub add_keys-requires-clause-whole : goal.add_keys-requires-clause-whole
add_keys-requires-clause-whole g c κs within =
    let f = c.args.folding.now in
    let asked = f.asked.now in
    let long = sum_room f.table.now asked.checked asked.frame c.requires.allowed c.requires.placed (sym c.requires.kind ∙ c.in-Sum.is) c.args.words.now c.requires.room in
    let cells = rw c.in-Sum.is at c.requires.cells in
    cells.whole ∙ ap (λ n. length c.args.cells.now.keys * n) (cells.width ∙ sym long)

pub returns-in-Sum : goal.returns-in-Sum
returns-in-Sum g c =
    let f = c.args.folding.now in
    let asked = f.asked.now in
    let sums = sym c.requires.kind ∙ c.in-Sum.is in
    let long = sum_room f.table.now asked.checked asked.frame c.requires.allowed c.requires.placed sums c.args.words.now c.requires.room in
    let cells = rw c.in-Sum.is at c.requires.cells in
    sum_answer f.table.now asked.checked asked.frame c.requires.allowed c.requires.placed sums (g.E.Expander.meaning f.expander.now) f.provider c.args.words.now c.add_keys.new.words c.requires.room c.add_keys.auto.words
    (c.add_keys.ensures (sum_pairs asked.checked f.table.now) (rw (← long) at cells.each))

-- ---- points, or an aligned cover

pub fold_levels-requires-clause-some : goal.fold_levels-requires-clause-some
fold_levels-requires-clause-some g c κs within =
    let f = c.args.folding.now in
    let asked = f.asked.now in
    let table = f.table.now in
    let fits = c.accepted_has_cells.ensures.fits asked.checked table.shape.schema c.requires.checked in
    some_words asked.checked.spec table.shape.schema c.shape.ensures.valid.shape.schema fits

pub fold_levels-requires-clause-cells : goal.fold_levels-requires-clause-cells
fold_levels-requires-clause-cells g c κs within =
    let f = c.args.folding.now in
    let asked = f.asked.now in
    let table = f.table.now in
    let has = first_brings table asked.checked asked.frame c.requires.allowed c.requires.placed c.args.kind c.requires.kind c.in-Point.is in
    level_cells table asked.checked asked.frame c.requires.allowed c.requires.placed has c.args.cells.now (rw c.requires.kind at c.requires.cells)

pub fold_levels-requires-clause-deep : goal.fold_levels-requires-clause-deep
fold_levels-requires-clause-deep g c κs within =
    let f = c.args.folding.now in
    let asked = f.asked.now in
    let table = f.table.now in
    levels_deep table asked.checked asked.frame c.requires.allowed c.requires.placed

pub fold_levels-requires-clause-levels : goal.fold_levels-requires-clause-levels
fold_levels-requires-clause-levels g c κs within =
    let f = c.args.folding.now in
    let asked = f.asked.now in
    let table = f.table.now in
    let within = depths_within table asked.checked asked.frame c.requires.allowed c.requires.placed in
    All-from_recursion (λ (key : Key). depth key ≤ first_levels asked.frame.keys) asked.frame.keys within

pub fold_levels-requires-clause-tree : goal.fold_levels-requires-clause-tree
fold_levels-requires-clause-tree g c κs within =
    let f = c.args.folding.now in
    let asked = f.asked.now in
    let table = f.table.now in
    let branches = c.accepted_has_keys.ensures.branches asked.checked table.shape.schema c.requires.checked in
    rw c.requires.tree (tree_few table asked.checked asked.frame c.requires.allowed c.requires.placed branches.1)

pub fold_levels-requires-clause-room : goal.fold_levels-requires-clause-room
fold_levels-requires-clause-room g c κs within =
    let f = c.args.folding.now in
    let asked = f.asked.now in
    let table = f.table.now in
    let has = first_brings table asked.checked asked.frame c.requires.allowed c.requires.placed c.args.kind c.requires.kind c.in-Point.is in
    level_room table asked.checked asked.frame c.requires.allowed c.requires.placed has c.args.words.now c.requires.room

pub returns-in-Point : goal.returns-in-Point
returns-in-Point g c =
    let f = c.args.folding.now in
    let asked = f.asked.now in
    let table = f.table.now in
    let has = first_brings table asked.checked asked.frame c.requires.allowed c.requires.placed c.args.kind c.requires.kind c.in-Point.is in
    let whole = c.fold_levels.auto.words ∙ level_room table asked.checked asked.frame c.requires.allowed c.requires.placed has c.args.words.now c.requires.room in
    level_answer table asked.checked asked.frame c.requires.allowed c.requires.placed has (g.E.Expander.meaning f.expander.now) f.provider f.first_tree c.fold_levels.new.words c.requires.tree whole c.fold_levels.ensures

-- ---- the second round of counts

pub fold_levels-requires-in-Position-clause-some : goal.fold_levels-requires-in-Position-clause-some
fold_levels-requires-in-Position-clause-some g c κs within =
    let f = c.args.folding.now in
    let asked = f.asked.now in
    let table = f.table.now in
    let fits = c.accepted_has_cells.ensures.fits asked.checked table.shape.schema c.requires.checked in
    some_words asked.checked.spec table.shape.schema c.shape.ensures.valid.shape.schema fits

pub fold_levels-requires-in-Position-clause-cells : goal.fold_levels-requires-in-Position-clause-cells
fold_levels-requires-in-Position-clause-cells g c κs within =
    let f = c.args.folding.now in
    let asked = f.asked.now in
    let table = f.table.now in
    let has = second_brings table asked.checked asked.frame c.requires.allowed c.requires.placed c.args.kind c.requires.kind c.in-Position.is c.if-folding-eq2.true in
    level_cells table asked.checked asked.frame c.requires.allowed c.requires.placed has c.args.cells.now (rw c.requires.kind at c.requires.cells)

pub fold_levels-requires-in-Position-clause-deep : goal.fold_levels-requires-in-Position-clause-deep
fold_levels-requires-in-Position-clause-deep g c κs within =
    let f = c.args.folding.now in
    let asked = f.asked.now in
    let table = f.table.now in
    levels_deep table asked.checked asked.frame c.requires.allowed c.requires.placed

pub fold_levels-requires-in-Position-clause-levels : goal.fold_levels-requires-in-Position-clause-levels
fold_levels-requires-in-Position-clause-levels g c κs within =
    let f = c.args.folding.now in
    let asked = f.asked.now in
    let table = f.table.now in
    let within = depths_within table asked.checked asked.frame c.requires.allowed c.requires.placed in
    All-from_recursion (λ (key : Key). depth key ≤ first_levels asked.frame.keys) asked.frame.keys within

pub fold_levels-requires-in-Position-clause-tree : goal.fold_levels-requires-in-Position-clause-tree
fold_levels-requires-in-Position-clause-tree g c κs within =
    let f = c.args.folding.now in
    let asked = f.asked.now in
    let table = f.table.now in
    let branches = c.accepted_has_keys.ensures.branches asked.checked table.shape.schema c.requires.checked in
    rw c.requires.tree (tree_few table asked.checked asked.frame c.requires.allowed c.requires.placed branches.1)

pub fold_levels-requires-in-Position-clause-room : goal.fold_levels-requires-in-Position-clause-room
fold_levels-requires-in-Position-clause-room g c κs within =
    let f = c.args.folding.now in
    let asked = f.asked.now in
    let table = f.table.now in
    let has = second_brings table asked.checked asked.frame c.requires.allowed c.requires.placed c.args.kind c.requires.kind c.in-Position.is c.if-folding-eq2.true in
    level_room table asked.checked asked.frame c.requires.allowed c.requires.placed has c.args.words.now c.requires.room

pub returns-in-Position : goal.returns-in-Position
returns-in-Position g c =
    let f = c.args.folding.now in
    let asked = f.asked.now in
    let table = f.table.now in
    let has = second_brings table asked.checked asked.frame c.requires.allowed c.requires.placed c.args.kind c.requires.kind c.in-Position.is c.if-folding-eq2.true in
    let whole = c.fold_levels-in-Position.auto.words ∙ level_room table asked.checked asked.frame c.requires.allowed c.requires.placed has c.args.words.now c.requires.room in
    level_answer table asked.checked asked.frame c.requires.allowed c.requires.placed has (g.E.Expander.meaning f.expander.now) f.provider f.first_tree c.fold_levels-in-Position.new.words c.requires.tree whole c.fold_levels-in-Position.ensures

-- ---- the first round of counts

pub fold_level-requires-clause-few : goal.fold_level-requires-clause-few
fold_level-requires-clause-few g c κs within =
    let f = c.args.folding.now in
    let asked = f.asked.now in
    let first : asked.frame.round ≡ 1 = omega (arith, c.if-folding-eq2.false, c.requires.allowed.round.0, c.requires.allowed.round.1) in
    let cells = rw (c.in-Position.is, first) at c.requires.cells in
    let few = few_ones asked.checked f.table.now c.args.cells.now.keys c.args.cells.now.cells c.shape.ensures.valid cells.each in
    omega (arith, few)

pub fold_level-requires-clause-room : goal.fold_level-requires-clause-room
fold_level-requires-clause-room g c κs within =
    let f = c.args.folding.now in
    let asked = f.asked.now in
    let first : asked.frame.round ≡ 1 = omega (arith, c.if-folding-eq2.false, c.requires.allowed.round.0, c.requires.allowed.round.1) in
    let cells = rw (c.in-Position.is, first) at c.requires.cells in
    ones_room f.table.now asked.checked asked.frame c.requires.allowed c.requires.placed (sym c.requires.kind ∙ c.in-Position.is) first c.args.words.now c.requires.room ∙ ap (λ n. length asked.frame.keys * n) (sym cells.width)

pub returns-in-Position-2 : goal.returns-in-Position-2
returns-in-Position-2 g c =
    let f = c.args.folding.now in
    let asked = f.asked.now in
    let table = f.table.now in
    let e = g.E.Expander.meaning f.expander.now in
    let counts = sym c.requires.kind ∙ c.in-Position.is in
    let first : asked.frame.round ≡ 1 = omega (arith, c.if-folding-eq2.false, c.requires.allowed.round.0, c.requires.allowed.round.1) in
    let cells = rw (c.in-Position.is, first) at c.requires.cells in
    let exact = All-from_recursion (λ (key : Key). depth key ≡ asked.checked.bits) asked.frame.keys (depths_exact table asked.checked asked.frame c.requires.allowed c.requires.placed (λ s. absurd (let x = sym counts ∙ s in cc)) first) in
    let deep : (j : ℕ) (key : Key) → slice_get asked.frame.keys j ≡ Some key → depth key ≡ asked.checked.bits = λ j key h.
    sym (ap depth (get_or_from_slice_get asked.frame.keys j key key h)) ∙ exact j key (slice_get_within asked.frame.keys j key h) in
    let told = (rw cells.width at c.fold_level.ensures) (entries_of asked.checked table ones) cells.each in
    let whole = c.fold_level.auto.words ∙ ones_room table asked.checked asked.frame c.requires.allowed c.requires.placed counts first c.args.words.now c.requires.room in
    ones_answer table asked.checked asked.frame c.requires.allowed c.requires.placed counts first e f.provider f.first_tree c.fold_level.new.words c.requires.tree whole
    (λ j key h. told j key h ∙ ap (λ b. cond b (fold_words (key_share e f.provider (f.first_tree + j) key) (entries_of asked.checked table ones) 1) (words_at 1 j c.args.words.now)) (eq-eqb (depth key) asked.checked.bits (deep j key h)))
