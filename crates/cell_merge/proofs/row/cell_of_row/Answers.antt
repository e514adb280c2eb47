use Rattle.std.proofs.Common.{◌+◌, ◌*◌, ◌≤◌, [], ◌∷◌, length, replicate, ap, ◌∙◌, arith, rules}
use Rattle.cell_merge.specs.Cells.{block, block_width}
use Rattle.cell_merge.specs.TableRows.{adds_in, row_in}
use Rattle.cell_merge.proofs.RowCells.{label_room, label_zeros, one_label}
use Rattle.cell_merge.proofs.row.cell_of_row.Goals as goal

pub block_words-words-requires : goal.block_words-words-requires
block_words-words-requires c =
    let grouped = rw c.in-Some.is at c.requires.fits.grouped in
    let whole = rw c.in-Some.is at c.requires.out in
    let inside = c.label_in-place.ensures.within c.args.spec.now.labels grouped.1 in
    let room = label_room c.label_in-place.result c.args.spec.now.labels (block_width c.args.spec.now.items) (length c.args.out.now) inside whole in
    rw c.as_slice-items.ensures (omega arith)

pub overflow_mul-at : goal.overflow_mul-at
overflow_mul-at c =
    let grouped = rw c.in-Some.is at c.requires.fits.grouped in
    let whole = rw c.in-Some.is at c.requires.out in
    let inside = c.label_in-place.ensures.within c.args.spec.now.labels grouped.1 in
    let room = label_room c.label_in-place.result c.args.spec.now.labels (block_width c.args.spec.now.items) (length c.args.out.now) inside whole in
    rw (c.block_words-words.ensures, c.as_slice-items.ensures) (search rules)

pub overflow_add-at : goal.overflow_add-at
overflow_add-at c =
    let grouped = rw c.in-Some.is at c.requires.fits.grouped in
    let whole = rw c.in-Some.is at c.requires.out in
    let inside = c.label_in-place.ensures.within c.args.spec.now.labels grouped.1 in
    let room = label_room c.label_in-place.result c.args.spec.now.labels (block_width c.args.spec.now.items) (length c.args.out.now) inside whole in
    rw (c.block_words-words.ensures, c.as_slice-items.ensures) (search rules)

pub offset_bounds-out-at : goal.offset_bounds-out-at
offset_bounds-out-at c =
    let grouped = rw c.in-Some.is at c.requires.fits.grouped in
    let whole = rw c.in-Some.is at c.requires.out in
    let inside = c.label_in-place.ensures.within c.args.spec.now.labels grouped.1 in
    let room = label_room c.label_in-place.result c.args.spec.now.labels (block_width c.args.spec.now.items) (length c.args.out.now) inside whole in
    rw (c.block_words-words.ensures, c.as_slice-items.ensures) (search rules)

pub slice_bounds-row_block-end : goal.slice_bounds-row_block-end
slice_bounds-row_block-end c =
    let grouped = rw c.in-Some.is at c.requires.fits.grouped in
    let whole = rw c.in-Some.is at c.requires.out in
    let inside = c.label_in-place.ensures.within c.args.spec.now.labels grouped.1 in
    let room : c.label_in-place.result * c.block_words-words.result + c.block_words-words.result ≤ length c.args.out.now =
    rw (c.block_words-words.ensures, c.as_slice-items.ensures) (label_room c.label_in-place.result c.args.spec.now.labels (block_width c.args.spec.now.items) (length c.args.out.now) inside whole) in
    let len = c.fill.ensures.len in
    search rules

pub row_block-requires-in-Some-clause-zeros : goal.row_block-requires-in-Some-clause-zeros
row_block-requires-in-Some-clause-zeros c =
    let grouped = rw c.in-Some.is at c.requires.fits.grouped in
    let whole = rw c.in-Some.is at c.requires.out in
    let inside = c.label_in-place.ensures.within c.args.spec.now.labels grouped.1 in
    rw (c.block_words-words.ensures, c.as_slice-items.ensures)
    (label_zeros c.label_in-place.result c.args.spec.now.labels (block_width c.args.spec.now.items) (length c.args.out.now) c.fill.new.self inside whole (c.fill.ensures.after (λ y e. e)))

pub returns-in-Some : goal.returns-in-Some
returns-in-Some c =
    let grouped = rw c.in-Some.is at c.requires.fits.grouped in
    let whole = rw c.in-Some.is at c.requires.out in
    let inside = c.label_in-place.ensures.within c.args.spec.now.labels grouped.1 in
    let place = c.label_in-place.ensures.label c.args.spec.now.labels grouped.1 in
    rw c.in-Some.is
    (one_label (adds_in c.args.table.now.shape.schema.columns) c.args.spec.now.items c.in-Some.column c.args.spec.now.labels c.label_in-place.result c.block_words-words.result (row_in c.args.table.now c.args.row) c.fill.new.self c.row_block-in-Some.new.out
    place inside (c.block_words-words.ensures ∙ ap (λ l. block_width l) c.as_slice-items.ensures) (c.fill.ensures.after (λ y e. e) ∙ ap (λ n. replicate n 0) whole)
    (c.row_block-in-Some.ensures ∙ ap (λ l. block (adds_in c.args.table.now.shape.schema.columns) l (row_in c.args.table.now c.args.row ∷ [])) c.as_slice-items.ensures))
