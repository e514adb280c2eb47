use Rattle.std.proofs.Common.{rules, ◌≡◌, ◌≢◌, Some, length, take, drop, ◌-◌, ◌∷◌, ◌++◌, [], refl}
use Rattle.std.specs.List.{slice_get}
use Rattle.cell_merge.specs.Cells.{cell_width, merge}
use Rattle.keyed_rows.proofs.Runs.{merged_last, pair_behind}
use Rattle.keyed_rows.proofs.merged.put_cell.Goals as goal

pub returns-then-eq : goal.returns-then-eq
returns-then-eq c = λ done are.
    let keys = c.args.keys.now.items in
    let cells = c.args.cells.now.items in
    let own = c.args.cell.now in
    let spec = c.args.spec.now in
    let same : slice_get keys (length keys - 1) ≡ Some c.args.key = search rules in
    let wide = c.requires.cell in
    let start : c.len.result - length own ≡ length cells - cell_width spec = search rules in
    let end : c.args.cells.now.len ≡ length cells = search rules in
    let now : c.deref_mut.result.now ≡ cells = c.deref_mut.ensures.value in
    let merged : c.merge_into.new.into ≡ merge spec (take (length cells - (c.len.result - length own)) (drop (c.len.result - length own) cells)) own = rw (← now) c.merge_into.ensures in
    rw now (merged_last spec (cell_width spec) keys cells done (c.args.key, own) are wide (c.len.result - length own) c.args.cells.now.len c.merge_into.new.into refl same start end merged)

pub returns : goal.returns
returns c = λ done are.
    let differ : slice_get c.args.keys.now.items (length c.args.keys.now.items - 1) ≢ Some c.args.key = search rules in
    let keys : c.push.new.self.items ≡ c.args.keys.now.items ++ c.args.key ∷ [] = search rules in
    let cells : c.extend_from_slice.new.self.items ≡ c.args.cells.now.items ++ c.args.cell.now = search rules in
    rw (keys, cells) (pair_behind c.args.spec.now _ c.args.keys.now.items c.args.cells.now.items done (c.args.key, c.args.cell.now) are c.requires.cell differ)
