use Rattle.std.proofs.Common.{◌≡◌, [], ◌∷◌, ◌++◌, refl, arith}
use Rattle.cell_runs.specs.Runs.{put_behind}
use Rattle.cell_runs.proofs.Moving.{put_first, put_other, put_moved, put_merged}
use Rattle.cell_runs.proofs.runs.add_cell.Goals as goal
use Rattle.cell_runs.proofs.runs.add_cell.Goals.{then-kept-gt0+else-keys-kept, else-kept-gt0}

pub returns-then-keys-kept-clause-moved : goal.returns-then-keys-kept-clause-moved
returns-then-keys-kept-clause-moved c = λ done left p m.
    put_merged c.args.words c.args.kept c.args.place c.args.keys.now c.args.cells.now done left p c.requires.whole c.requires.kept c.requires.place m
    c.args.spec.now c.merge_cells.new.cells c.requires.words (omega arith) c.if-keys-kept.true c.merge_cells.ensures

pub returns-clause-moved : goal.returns-clause-moved
returns-clause-moved c = λ done left p m.
    let alone : put_behind c.args.spec.now done p ≡ done ++ p ∷ [] = elim c.if-kept-gt0.branch [
      | then-kept-gt0+else-keys-kept w ↦ put_other c.args.words c.args.kept c.args.place c.args.keys.now c.args.cells.now done left p c.requires.whole c.requires.kept c.requires.place m c.args.spec.now (omega arith) w.if-keys-kept.false
      | else-kept-gt0 w ↦ put_first c.args.words c.args.kept c.args.place c.args.keys.now c.args.cells.now done left p c.requires.whole c.requires.kept c.requires.place m c.args.spec.now (omega arith)
    ] in
    put_moved c.args.words c.args.kept c.args.place c.args.keys.now c.args.cells.now done left p c.requires.whole c.requires.kept c.requires.place m
    c.args.spec.now _ _ alone refl c.copy_within.ensures.after
