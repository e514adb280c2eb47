use Rattle.std.proofs.Common.{◌+◌, ◌-◌, ◌*◌, ◌≤◌, ◌++◌, List, drop, length, ap, sym, ◌∙◌, arith, rules}
use Rattle.cell_merge.specs.Cells.{block_width}
use Rattle.cell_merge.proofs.RowCells.{label_room}
use Rattle.clear_sql.specs.declared.answer.Group.{Group}
use Rattle.clear_sql.specs.CellAnswers.{groups_of}
use Rattle.clear_sql.proofs.CellAnswers.{first-blocks, first-groups, block_small, block-step, blocks-end, part_length}
use Rattle.clear_sql.proofs.reading.groups_of.Goals as goal

pub block_words-words-requires : goal.block_words-words-requires
block_words-words-requires c = let e = block_small c.args.labels (block_width c.args.items.now) (length c.args.cell.now) c.requires.some c.requires.length in omega arith

pub loop-label-init : goal.loop-label-init
loop-label-init c = record {
  reads = first-blocks c.args.columns.now c.args.items.now c.args.labels c.block_words-words.result c.args.cell.now c.requires.words;
  groups = first-groups c.args.columns.now c.args.items.now c.args.labels c.block_words-words.result c.args.cell.now c.new-groups.result.items c.new-groups.ensures.items;
}

pub overflow_mul-at : goal.overflow_mul-at
overflow_mul-at c =
    let room = label_room c.loop-label.label c.args.labels (block_width c.args.items.now) (length c.args.cell.now) c.loop-label-test.true c.requires.length in
    rw c.block_words-words.ensures (search rules)

pub overflow_add-at : goal.overflow_add-at
overflow_add-at c =
    let room = label_room c.loop-label.label c.args.labels (block_width c.args.items.now) (length c.args.cell.now) c.loop-label-test.true c.requires.length in
    rw c.block_words-words.ensures (search rules)

pub offset_bounds-cell-at : goal.offset_bounds-cell-at
offset_bounds-cell-at c =
    let room = label_room c.loop-label.label c.args.labels (block_width c.args.items.now) (length c.args.cell.now) c.loop-label-test.true c.requires.length in
    rw c.block_words-words.ensures (search rules)

pub slice_bounds-push_label-end : goal.slice_bounds-push_label-end
slice_bounds-push_label-end c =
    let room : c.loop-label.label * c.block_words-words.result + c.block_words-words.result ≤ length c.args.cell.now =
    rw c.block_words-words.ensures (label_room c.loop-label.label c.args.labels (block_width c.args.items.now) (length c.args.cell.now) c.loop-label-test.true c.requires.length) in
    search rules

pub push_label-requires-clause-length : goal.push_label-requires-clause-length
push_label-requires-clause-length c =
    let room : c.loop-label.label * c.block_words-words.result + c.block_words-words.result ≤ length c.args.cell.now =
    rw c.block_words-words.ensures (label_room c.loop-label.label c.args.labels (block_width c.args.items.now) (length c.args.cell.now) c.loop-label-test.true c.requires.length) in
    part_length c.args.cell.now (c.loop-label.label * c.block_words-words.result) c.block_words-words.result (c.loop-label.label * c.block_words-words.result + c.block_words-words.result) room (omega arith) ∙ c.block_words-words.ensures

pub push_label-requires-clause-words : goal.push_label-requires-clause-words
push_label-requires-clause-words c =
    (block-step c.args.columns.now c.args.items.now c.loop-label.label c.args.labels c.block_words-words.result c.args.cell.now (groups_of c.args.columns.now c.args.items.now 0 c.args.labels c.args.cell.now) c.loop-label.groups.items
    c.loop-label-test.true c.block_words-words.ensures c.loop-label.invariant.reads c.loop-label.invariant.groups).reads

pub loop-label-preserved : goal.loop-label-preserved
loop-label-preserved c =
    let step = block-step c.args.columns.now c.args.items.now c.loop-label.label c.args.labels c.block_words-words.result c.args.cell.now (groups_of c.args.columns.now c.args.items.now 0 c.args.labels c.args.cell.now) c.loop-label.groups.items
    c.loop-label-test.true c.block_words-words.ensures c.loop-label.invariant.reads c.loop-label.invariant.groups in
    record {
      reads = step.rest;
      groups = step.more
          ∙ ap (λ (l : List Group). l ++ groups_of c.args.columns.now c.args.items.now (c.loop-label.label + 1) (c.args.labels - (c.loop-label.label + 1)) (drop ((c.loop-label.label + 1) * c.block_words-words.result) c.args.cell.now)) (sym c.in_ok-push_label.ensures);
    }

pub returns : goal.returns
returns c =
    c.from_vec.ensures
    ∙ blocks-end c.args.columns.now c.args.items.now c.loop-label.label c.args.labels c.block_words-words.result c.args.cell.now (groups_of c.args.columns.now c.args.items.now 0 c.args.labels c.args.cell.now) c.loop-label.groups.items (omega arith) c.loop-label.invariant.groups
