use Rattle.std.proofs.Common.{◌^◌, ◌<◌, rules}
use Rattle.std.specs.BTreeMap.{get, is_at}
use Rattle.seed_expansion.specs.Tapes.{place_cmp}
use Rattle.seed_expansion.proofs.TapeWords.{set_words, of_two}
use Rattle.seed_expansion.proofs.tape.Tape.set_block.Goals as goal

pub invariant_of-self-2 : goal.invariant_of-self-2
invariant_of-self-2 c =
    let l : c.args.block.word_l < 2 ^ 64 = search rules in
    let r : c.args.block.word_r < 2 ^ 64 = search rules in
    record {
      blocks = λ q seed d. set_words (is_at (place_cmp c.args.place) q) d (get place_cmp c.insert.new.self q) (get place_cmp c.self.inside.blocks q) c.args.block (2 ^ 64) (c.in_ok-insert.ensures.updates.0 q) (c.self.invariant.blocks q seed d) (of_two c.args.block (2 ^ 64) l r d);
      leaves = c.self.invariant.leaves;
    }
