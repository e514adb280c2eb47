use Rattle.std.proofs.Common.{◌≡◌, length, IfSome}
use Rattle.client_rounds.proofs.Drawing.{Drew}
use Rattle.client_rounds.proofs.draws.draw_roots.Given as goal

abbrev pub invariant-loop : goal.invariant-loop
invariant-loop g l = record {
  same : g.R.Draw.faults l.draw ≡ g.R.Draw.faults l.fn.draw;
  told : IfSome (g.R.Draw.words l.fn.draw) (λ ws. Drew ws l.count l.counter (g.R.Draw.words l.draw) l.roots);
  count : length l.roots ≡ l.counter;
}
