use Rattle.spl_words.specs.declared.provider.Provider.TheVariants.{Zero, One}
use Rattle.client_rounds.proofs.KeyLoop.{Made}
use Rattle.client_rounds.proofs.rounds.key_lists.Given as goal

abbrev pub invariant-loop-i : goal.invariant-loop-i
invariant-loop-i g l = record {
  zero : Made (g.E.Expander.meaning l.expander) Zero l.first_tree l.secrets l.roots l.i l.zeros;
  one : Made (g.E.Expander.meaning l.expander) One l.first_tree l.secrets l.roots l.i l.ones;
}
