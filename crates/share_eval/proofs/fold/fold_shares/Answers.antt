use Rattle.std.proofs.Common.{rules}
use Rattle.share_eval.proofs.Entries.{from_zeros}
use Rattle.share_eval.proofs.fold.fold_shares.Goals as goal

pub returns : goal.returns
returns g c = from_zeros (g.F.ShareFn.word c.args.f.now) c.args.keys.now c.args.cells.now c.args.width c.fill.new.self c.add_keys.new.out (λ k h. search rules) c.add_keys.ensures
