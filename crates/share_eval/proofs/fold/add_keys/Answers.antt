use Rattle.std.proofs.Common.{◌≡◌, ◌+◌, ◌-◌, ◌*◌, ◌<◌, slice_index, take, drop, ap, ◌∙◌, arith}
use Rattle.std.proofs.lemmas.List.{get_or-take, get_or-drop}
use Rattle.std.proofs.Math.Facts.{Fits-lt-pow}
use Rattle.spl_words.specs.Words.{plus}
use Rattle.share_eval.specs.Sums.{share_times_word}
use Rattle.share_eval.proofs.SumLemmas.{none_added, one_added, sum_below-add-one}
use Rattle.share_eval.proofs.fold.add_keys.Goals as goal

pub loop-i-init : goal.loop-i-init
loop-i-init g c k h = none_added _ _ (Fits-lt-pow (c.type_inv.out k))

pub loop-i-preserved : goal.loop-i-preserved
loop-i-preserved g c k h =
    let i = c.loop-i.i in
    let w = c.args.width in
    let cells = c.args.cells.now in
    let term = share_times_word (g.F.ShareFn.word c.args.f.now) c.args.keys.now cells w k in
    let inside : k < (i + 1) * w - i * w = omega arith in
    let row : slice_index (take ((i + 1) * w - i * w) (drop (i * w) cells)) k ≡ slice_index cells (i * w + k) =
    get_or-take ((i + 1) * w - i * w) (drop (i * w) cells) k 0 inside ∙ get_or-drop (i * w) cells k 0 in
    let one : c.share.result * slice_index (take ((i + 1) * w - i * w) (drop (i * w) cells)) k ≡ term i =
    ap (λ r. c.share.result * r) row ∙ ap (λ s. s * slice_index cells (i * w + k)) c.share.ensures in
    let more = c.add_row.ensures k (omega arith) in
    rw (sum_below-add-one term i)
    (one_added _ _ _ _ _ (c.loop-i.invariant k h) (more ∙ ap (λ t. plus (slice_index c.loop-i.out k) t) one))
