use Rattle.std.proofs.Common.{◌≡◌, List, ℕ, sym, arith, append_assoc}
use Rattle.spl_values.proofs.ShapePrinting.{labels-first, labels-more}
use Rattle.spl_values.proofs.shape_printer.labels_text.Goals as goal
use Rattle.spl_values.proofs.shape_printer.labels_text.Goals.{then-place-gt0+in_ok-push, else-place-gt0}

pub loop-place-preserved : goal.loop-place-preserved
loop-place-preserved c =
    let label : List ℕ = c.index-labels-place.result in
    elim c.if-place-gt0.branch [
      | then-place-gt0+in_ok-push w ↦
          rw (c.in_ok-extend_from_slice.ensures.items, c.as_bytes.ensures, w.text-is, w.in_ok-push.ensures.items, c.loop-place.invariant, append_assoc)
          (sym (labels-more c.args.labels.now c.loop-place.place label w.if-place-gt0.true c.loop-place-test.true c.index-labels-place.is))
      | else-place-gt0 w ↦
          let first : c.loop-place.place ≡ 0 = omega (arith, w.if-place-gt0.false) in
          let some = rw first at c.loop-place-test.true in
          let is = rw first at c.index-labels-place.is in
          rw (c.in_ok-extend_from_slice.ensures.items, c.as_bytes.ensures, w.text-is, c.loop-place.invariant, first)
          (sym (labels-first c.args.labels.now label some is))
    ]
