use Rattle.std.proofs.Common.{◌++◌, refl, arith}
use Rattle.cell_merge.specs.declared.spec.CellItem.TheVariants.{Count}
use Rattle.clear_sql.specs.AnswerText.{results_lines}
use Rattle.clear_sql.proofs.Lines.{fits-at, fits-there, results-more, results-end}
use Rattle.clear_sql.proofs.printing.push_results.Goals as goal

pub loop-i-init : goal.loop-i-init
loop-i-init c = refl

pub bounds-results-i : goal.bounds-results-i
bounds-results-i c = let e = fits-there c.args.columns.now c.args.items.now c.args.results.now c.loop-i.i c.requires.fits c.loop-i-test.true in omega arith

pub loop-i-preserved : goal.loop-i-preserved
loop-i-preserved c =
    results-more c.args.columns.now c.args.items.now c.args.results.now c.loop-i.i Count c.index-results-i.result (c.args.text.now.items ++ results_lines c.args.columns.now c.args.items.now c.args.results.now) c.loop-i.text.items c.push_result.new.text.items
    c.loop-i-test.true (fits-there c.args.columns.now c.args.items.now c.args.results.now c.loop-i.i c.requires.fits c.loop-i-test.true) c.index-results-i.is c.loop-i.invariant c.in_ok-push_result.ensures

pub returns : goal.returns
returns c =
    results-end c.args.columns.now c.args.items.now c.args.results.now c.loop-i.i (c.args.text.now.items ++ results_lines c.args.columns.now c.args.items.now c.args.results.now) c.loop-i.text.items (omega arith) c.loop-i.invariant

pub push_result-requires-clause-fits : goal.push_result-requires-clause-fits
push_result-requires-clause-fits c =
    rw c.index-results-i.is (fits-at c.args.columns.now c.args.items.now c.args.results.now c.loop-i.i Count c.index-results-i.result c.requires.fits c.loop-i-test.true).fits

pub offset_bounds-results-i : goal.offset_bounds-results-i
offset_bounds-results-i c = let e = fits-there c.args.columns.now c.args.items.now c.args.results.now c.loop-i.i c.requires.fits c.loop-i-test.true in omega arith
