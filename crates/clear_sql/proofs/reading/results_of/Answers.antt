use Rattle.std.proofs.Common.{◌+◌, ◌++◌, List, drop, slice_index, ap, sym, ◌∙◌, arith, rules}
use Rattle.cell_merge.specs.declared.spec.CellItem.TheVariants.{Count}
use Rattle.clear_sql.specs.declared.answer.Outcome.{Outcome}
use Rattle.clear_sql.specs.CellAnswers.{outcomes_of, results_of}
use Rattle.clear_sql.proofs.CellAnswers.{width-rest, part_length, item-step, items-end}
use Rattle.clear_sql.proofs.reading.results_of.Goals as goal

pub loop-item-init : goal.loop-item-init
loop-item-init c = record {
  at = omega arith;
  reads = c.requires.words;
  results = ap (λ (l : List Outcome). l ++ outcomes_of c.args.columns.now c.args.items.now (slice_index c.args.block.now 0) (drop 1 c.args.block.now)) (sym c.new-results.ensures.items);
}

pub overflow_add-end : goal.overflow_add-end
overflow_add-end c = let e = width-rest c.args.items.now c.loop-item.item-index Count (omega arith) in omega arith

pub offset_bounds-block-at : goal.offset_bounds-block-at
offset_bounds-block-at c = let e = width-rest c.args.items.now c.loop-item.item-index Count (omega arith) in omega arith

pub slice_bounds-outcome_of-end : goal.slice_bounds-outcome_of-end
slice_bounds-outcome_of-end c = let e = width-rest c.args.items.now c.loop-item.item-index Count (omega arith) in search rules

pub outcome_of-requires-clause-length : goal.outcome_of-requires-clause-length
outcome_of-requires-clause-length c =
    let e = width-rest c.args.items.now c.loop-item.item-index Count (omega arith) in
    part_length c.args.block.now c.loop-item.at _ (c.loop-item.at + c.item_words.result) (omega arith) (omega arith)

pub outcome_of-requires-clause-words : goal.outcome_of-requires-clause-words
outcome_of-requires-clause-words c =
    (item-step c.args.columns.now c.args.items.now c.loop-item.item-index Count (slice_index c.args.block.now 0) c.loop-item.at (c.loop-item.at + c.item_words.result) c.args.block.now (results_of c.args.columns.now c.args.items.now c.args.block.now) c.loop-item.results.items
    (omega arith) (omega arith) c.loop-item.invariant.reads c.loop-item.invariant.results).reads

pub loop-item-preserved : goal.loop-item-preserved
loop-item-preserved c =
    let e = width-rest c.args.items.now c.loop-item.item-index Count (omega arith) in
    let step = item-step c.args.columns.now c.args.items.now c.loop-item.item-index Count (slice_index c.args.block.now 0) c.loop-item.at (c.loop-item.at + c.item_words.result) c.args.block.now (results_of c.args.columns.now c.args.items.now c.args.block.now) c.loop-item.results.items
    (omega arith) (omega arith) c.loop-item.invariant.reads c.loop-item.invariant.results in
    record {
      at = omega arith;
      reads = step.rest;
      results = step.more c.in_ok-outcome.outcome c.in_ok-outcome.ensures
          ∙ ap (λ (l : List Outcome). l ++ outcomes_of c.args.columns.now (drop (c.loop-item.item-index + 1) c.args.items.now) (slice_index c.args.block.now 0) (drop (c.loop-item.at + c.item_words.result) c.args.block.now)) (sym c.in_ok-push.ensures.items);
    }

pub returns : goal.returns
returns c =
    c.from_vec.ensures
    ∙ items-end c.args.columns.now c.args.items.now c.loop-item.item-index (slice_index c.args.block.now 0) c.loop-item.at c.args.block.now (results_of c.args.columns.now c.args.items.now c.args.block.now) c.loop-item.results.items (omega arith) c.loop-item.invariant.results
