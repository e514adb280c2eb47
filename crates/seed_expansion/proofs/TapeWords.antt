-- An entry that is set keeps the words of a tape below their bound.
use Rattle.std.proofs.Common.{◌≡◌, ℕ, ◌<◌, Bool, true, false, cond, subst, sym}
use Rattle.std.specs.Prelude.{Option, Some}
use Rattle.seed_expansion.specs.declared.nodes.Block.{Block}
use Rattle.seed_expansion.specs.Walk.{word_at}
use Rattle.seed_expansion.specs.Tapes.{or_no_block, or_no_word}

either_word : (b : Bool) (o : Option ℕ) (w bound : ℕ) → or_no_word o < bound → w < bound → or_no_word (cond b (Some w) o) < bound
either_word true o w bound h k = k
either_word false o w bound h k = h

pub set_word : (b : Bool) (n o : Option ℕ) (w bound : ℕ) → n ≡ cond b (Some w) o → or_no_word o < bound → w < bound → or_no_word n < bound
set_word b n o w bound e h k = subst (λ x. or_no_word x < bound) (sym e) (either_word b o w bound h k)

either_block : (b d : Bool) (o : Option Block) (w : Block) (bound : ℕ) → word_at d (or_no_block o) < bound → word_at d w < bound → word_at d (or_no_block (cond b (Some w) o)) < bound
either_block true d o w bound h k = k
either_block false d o w bound h k = h

pub set_words : (b d : Bool) (n o : Option Block) (w : Block) (bound : ℕ) → n ≡ cond b (Some w) o → word_at d (or_no_block o) < bound → word_at d w < bound → word_at d (or_no_block n) < bound
set_words b d n o w bound e h k = subst (λ x. word_at d (or_no_block x) < bound) (sym e) (either_block b d o w bound h k)

pub of_two : (block : Block) (bound : ℕ) → block.word_l < bound → block.word_r < bound → (d : Bool) → word_at d block < bound
of_two block bound l r false = l
of_two block bound l r true = r
