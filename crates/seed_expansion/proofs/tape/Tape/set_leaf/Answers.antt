use Rattle.std.proofs.Common.{◌^◌, ◌<◌, arith}
use Rattle.std.specs.BTreeMap.{get, is_at}
use Rattle.seed_expansion.specs.Tapes.{place_cmp}
use Rattle.seed_expansion.proofs.TapeWords.{set_word}
use Rattle.seed_expansion.proofs.tape.Tape.set_leaf.Goals as goal

pub invariant_of-self-2 : goal.invariant_of-self-2
invariant_of-self-2 c =
    let fits : c.args.word < 2 ^ 64 = omega (arith, c.ranges.word.fits) in
    record {
      blocks = c.self.invariant.blocks;
      leaves = λ q seed. set_word (is_at (place_cmp c.args.place) q) (get place_cmp c.insert.new.self q) (get place_cmp c.self.inside.leaves q) c.args.word (2 ^ 64) (c.in_ok-insert.ensures.updates.0 q) (c.self.invariant.leaves q seed) fits;
    }
