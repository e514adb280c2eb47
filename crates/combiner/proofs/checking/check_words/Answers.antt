use Rattle.std.proofs.Common.{◌≡◌, ◌%◌, true, false, get_or, ap, sym, ◌∙◌, arith}
use Rattle.combiner.specs.declared.checking.WordKind.{WordKind}
use Rattle.combiner.specs.GoodWords.{is_good, kind_at}
use Rattle.cell_merge.specs.Cells.{block_width}
use Rattle.combiner.proofs.WordKinds.{block_in_columns}
use Rattle.combiner.proofs.Good.{good_here, bad_here, good_end}
use Rattle.combiner.proofs.checking.check_words.Goals as goal

pub is_good-requires : goal.is_good-requires
is_good-requires c = λ column e.
    block_in_columns c.args.columns.now c.args.items.now (c.loop-place.place % block_width c.args.items.now) column c.requires.columns (sym e ∙ c.kind_at-kind.ensures)

pub returns-then-not-is_good : goal.returns-then-not-is_good
returns-then-not-is_good c =
    let told : is_good c.args.columns.now c.args.rows (kind_at c.args.items.now c.loop-place.place) (get_or c.args.words.now c.loop-place.place 0) ≡ false =
    ap (λ (k : WordKind). is_good c.args.columns.now c.args.rows k (get_or c.args.words.now c.loop-place.place 0)) (sym c.kind_at-kind.ensures) ∙ (sym c.is_good.ensures ∙ c.if-not-is_good.true) in
    sym (c.loop-place.invariant ∙ bad_here c.args.columns.now c.args.items.now c.args.rows c.loop-place.place c.args.words.now c.loop-place-test.true told)

pub loop-place-preserved : goal.loop-place-preserved
loop-place-preserved c =
    let told : is_good c.args.columns.now c.args.rows (kind_at c.args.items.now c.loop-place.place) (get_or c.args.words.now c.loop-place.place 0) ≡ true =
    ap (λ (k : WordKind). is_good c.args.columns.now c.args.rows k (get_or c.args.words.now c.loop-place.place 0)) (sym c.kind_at-kind.ensures) ∙ (sym c.is_good.ensures ∙ c.if-not-is_good.false) in
    c.loop-place.invariant ∙ good_here c.args.columns.now c.args.items.now c.args.rows c.loop-place.place c.args.words.now c.loop-place-test.true told

pub returns : goal.returns
returns c = sym (c.loop-place.invariant ∙ good_end c.args.columns.now c.args.items.now c.args.rows c.loop-place.place c.args.words.now (omega arith))
