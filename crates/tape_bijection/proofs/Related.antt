-- Two tapes under which provider p has one key.
use Rattle.std.proofs.Common.{◌≡◌, ℕ, zero, suc, ◌+◌, ◌^◌, ◌<◌, ◌≤◌, Bool, true, false, not, ◌&&◌, refl, sym, ap, ap₂, ◌∙◌, arith, add-one, subst}
use Rattle.std.specs.Int.Bits.{bit_xor}
use Rattle.std.proofs.lemmas.Nat.{xor_comm}
use Rattle.spl_words.specs.declared.provider.Provider.{Provider}
use Rattle.spl_words.specs.declared.provider.Provider.TheVariants.{Zero, One}
use Rattle.seed_expansion.specs.declared.nodes.Node.{Node}
use Rattle.seed_expansion.specs.declared.nodes.Block.{Block}
use Rattle.seed_expansion.specs.declared.nodes.Correction.{Correction}
use Rattle.spl_words.specs.Secrets.{Secret}
use Rattle.seed_expansion.specs.Expanders.{Meaning, IsTape}
use Rattle.seed_expansion.specs.Leaves.{last_word}
use Rattle.seed_expansion.specs.Walk.{differ, child, bit_at, corrected_bit_at, correction, correction_of, node, path, place, side, prefix}
use Rattle.tape_bijection.specs.Moves.{moved, moved_word, kept_bit}
use Rattle.seed_expansion.proofs.Steps.{xor_first, xor_second}
use Rattle.seed_expansion.proofs.Walk.{held, held-suc, step_of, path-more}

-- ---- one level

back_bit : (x c t : Bool) → differ (differ x (differ (differ c x) t)) t ≡ c
back_bit false false false = refl
back_bit false false true = refl
back_bit false true false = refl
back_bit false true true = refl
back_bit true false false = refl
back_bit true false true = refl
back_bit true true false = refl
back_bit true true true = refl

forth_bit : (x y t : Bool) → differ (differ (differ (differ x y) t) x) t ≡ y
forth_bit false false false = refl
forth_bit false false true = refl
forth_bit false true false = refl
forth_bit false true true = refl
forth_bit true false false = refl
forth_bit true false true = refl
forth_bit true true false = refl
forth_bit true true true = refl

differ_comm : (x y : Bool) → differ x y ≡ differ y x
differ_comm false false = refl
differ_comm false true = refl
differ_comm true false = refl
differ_comm true true = refl

pub same_correction : (c d : Correction) → c.seed ≡ d.seed → c.bit_l ≡ d.bit_l → c.bit_r ≡ d.bit_r → c ≡ d
same_correction c d p q r =
    let make : ℕ → Bool → Bool → Correction = λ s x y. record { seed = s; bit_l = x; bit_r = y } in
    ap (λ s. make s c.bit_l c.bit_r) p ∙ ap (λ x. make d.seed x c.bit_r) q ∙ ap (make d.seed d.bit_l) r

pub same_block : (c d : Block) → c.seed_l ≡ d.seed_l → c.bit_l ≡ d.bit_l → c.word_l ≡ d.word_l → c.seed_r ≡ d.seed_r → c.bit_r ≡ d.bit_r → c.word_r ≡ d.word_r → c ≡ d
same_block c d p q r x y z =
    let make : ℕ → Bool → ℕ → ℕ → Bool → ℕ → Block = λ s t w a b v. record { seed_l = s; bit_l = t; word_l = w; seed_r = a; bit_r = b; word_r = v } in
    ap (λ s. make s c.bit_l c.word_l c.seed_r c.bit_r c.word_r) p
    ∙ ap (λ t. make d.seed_l t c.word_l c.seed_r c.bit_r c.word_r) q
    ∙ ap (λ w. make d.seed_l d.bit_l w c.seed_r c.bit_r c.word_r) r
    ∙ ap (λ s. make d.seed_l d.bit_l d.word_l s c.bit_r c.word_r) x
    ∙ ap (λ t. make d.seed_l d.bit_l d.word_l d.seed_r t c.word_r) y
    ∙ ap (make d.seed_l d.bit_l d.word_l d.seed_r d.bit_r) z

pub correction_comm : (keep : Bool) (a b : Block) → correction keep a b ≡ correction keep b a
unfolding correction
correction_comm false a b = same_correction _ _ (xor_comm a.seed_r b.seed_r) (ap (λ t. differ t true) (differ_comm a.bit_l b.bit_l)) (ap (λ t. differ t false) (differ_comm a.bit_r b.bit_r))
correction_comm true a b = same_correction _ _ (xor_comm a.seed_l b.seed_l) (ap (λ t. differ t false) (differ_comm a.bit_l b.bit_l)) (ap (λ t. differ t true) (differ_comm a.bit_r b.bit_r))

-- the moved block has the correction c with q
pub correction_back : (keep keep2 : Bool) (c : Correction) (b q : Block) (words : Bool → ℕ) → correction keep2 q (moved keep keep2 c b q words) ≡ c
unfolding correction moved
correction_back keep false c b q words = same_correction _ _ (xor_second c.seed q.seed_r) (back_bit q.bit_l c.bit_l true) (back_bit q.bit_r c.bit_r false)
correction_back keep true c b q words = same_correction _ _ (xor_second c.seed q.seed_l) (back_bit q.bit_l c.bit_l false) (back_bit q.bit_r c.bit_r true)

xor_third : (a b : ℕ) → bit_xor (bit_xor a b) a ≡ b
xor_third a b = xor_comm (bit_xor a b) a ∙ xor_first a b

-- moving back gives the block that stood there
pub moved_back : (keep keep2 : Bool) (c : Correction) (b q0 q : Block) (w v : Bool → ℕ) → v false ≡ b.word_l → v true ≡ b.word_r → moved keep2 keep (correction keep q b) (moved keep keep2 c b q0 w) q v ≡ b
unfolding correction moved
moved_back false false c b q0 q w v l r = same_block _ _ refl (forth_bit q.bit_l b.bit_l true) l (xor_third q.seed_r b.seed_r) (forth_bit q.bit_r b.bit_r false) r
moved_back false true c b q0 q w v l r = same_block _ _ refl (forth_bit q.bit_l b.bit_l true) l (xor_third q.seed_r b.seed_r) (forth_bit q.bit_r b.bit_r false) r
moved_back true false c b q0 q w v l r = same_block _ _ (xor_third q.seed_l b.seed_l) (forth_bit q.bit_l b.bit_l false) l refl (forth_bit q.bit_r b.bit_r true) r
moved_back true true c b q0 q w v l r = same_block _ _ (xor_third q.seed_l b.seed_l) (forth_bit q.bit_l b.bit_l false) l refl (forth_bit q.bit_r b.bit_r true) r

-- the key's word that the moved word has with w
pub word_back_zero : (t : Bool) (w v goal : ℕ) → v < 2 ^ 64 → last_word goal t (not t) w (moved_word Zero t w v goal) ≡ v
unfolding last_word moved_word
word_back_zero false w v goal h = omega arith
word_back_zero true w v goal h = omega arith

pub word_back_one : (t : Bool) (w v goal : ℕ) → v < 2 ^ 64 → last_word goal (not t) t (moved_word One t w v goal) w ≡ v
unfolding last_word moved_word
word_back_one false w v goal h = omega arith
word_back_one true w v goal h = omega arith

pub word_forth_zero : (t : Bool) (w x goal : ℕ) → x < 2 ^ 64 → moved_word Zero t w (last_word goal t (not t) w x) goal ≡ x
unfolding last_word moved_word
word_forth_zero false w x goal h = omega arith
word_forth_zero true w x goal h = omega arith

pub word_forth_one : (t : Bool) (w x goal : ℕ) → x < 2 ^ 64 → moved_word One t w (last_word goal (not t) t x w) goal ≡ x
unfolding last_word moved_word
word_forth_one false w x goal h = omega arith
word_forth_one true w x goal h = omega arith

-- ---- tapes

module _ (e : Meaning) (tape : IsTape e) (tree : ℕ) (s : Secret) where
  -- what is made of two nodes over a tape hangs on their bits alone
  pub any_correction : (i : ℕ) (m n : Node × Node) → correction_of e tree s i m ≡ correction_of e tree s i n
  unfolding correction_of
  any_correction i m n =
      ap₂ (correction (side s.depth s.alpha i))
      (tape.blocks (place tree Zero s.depth s.alpha i) m.0.seed n.0.seed)
      (tape.blocks (place tree One s.depth s.alpha i) m.1.seed n.1.seed)

-- the bit of provider p's child on the side of x, over a tape
abbrev pub tape_step : Meaning → Provider → ℕ → ℕ → ℕ → ℕ → Correction → Bool → Bool
tape_step e p tree depth x i c t =
    let d = side depth x i in
    differ (bit_at d (e.block (place tree p depth x i) 0)) (t && corrected_bit_at d c)

abbrev pub no_nodes : Node × Node
no_nodes = (record { seed = 0; bit = false }, record { seed = 0; bit = false })

abbrev pub own_bit : Provider → Node × Node → Bool
own_bit Zero n = n.0.bit
own_bit One n = n.1.bit

abbrev pub own_node : Provider → Node × Node → Node
own_node Zero n = n.0
own_node One n = n.1

module _ (e : Meaning) (tape : IsTape e) (p : Provider) (tree : ℕ) (s : Secret) (roots : ℕ × ℕ) where
  step-tape : (x i : ℕ) (n : Node) → (step_of e tree s roots p (side s.depth x i) (prefix s.depth x i) i n).bit ≡ tape_step e p tree s.depth x i (correction_of e tree s i no_nodes) n.bit
  unfolding step_of child
  step-tape x i n =
      let d = side s.depth x i in
      ap (λ b. differ (bit_at d b) (n.bit && corrected_bit_at d (correction_of e tree s i (path e tree s roots i)))) (tape.blocks (place tree p s.depth x i) n.seed 0)
      ∙ ap (λ z. differ (bit_at d (e.block (place tree p s.depth x i) 0)) (n.bit && corrected_bit_at d z)) (any_correction e tape tree s i (path e tree s roots i) no_nodes)

  own-more : (i : ℕ) → own_node p (path e tree s roots (i + 1)) ≡ step_of e tree s roots p (side s.depth s.alpha i) (prefix s.depth s.alpha i) i (own_node p (path e tree s roots i))
  own-more i = own_of p
    where
      own_of : (r : Provider) → own_node r (path e tree s roots (i + 1)) ≡ step_of e tree s roots r (side s.depth s.alpha i) (prefix s.depth s.alpha i) i (own_node r (path e tree s roots i))
      own_of Zero = ap (λ m. m.0) (path-more e tree s roots i)
      own_of One = ap (λ m. m.1) (path-more e tree s roots i)

pub own_bits : (p : Provider) (n : Node × Node) → (own_node p n).bit ≡ own_bit p n
own_bits Zero n = refl
own_bits One n = refl

-- one provider's entries are the same in two tapes, and so are the corrections of two secrets
pub record Related (e e2 : Meaning) (p : Provider) (tree : ℕ) (s s2 : Secret) : Type 0 where
  pub blocks : (i pre sd : ℕ) → e.block (record { tree = tree; provider = p; level = i; prefix = pre }) sd ≡ e2.block (record { tree = tree; provider = p; level = i; prefix = pre }) sd
  pub leaves : (i pre sd : ℕ) → e.leaf (record { tree = tree; provider = p; level = i; prefix = pre }) sd ≡ e2.leaf (record { tree = tree; provider = p; level = i; prefix = pre }) sd
  pub depths : s2.depth ≡ s.depth
  pub same_corrections : (i : ℕ) → i < s.depth → correction_of e tree s i no_nodes ≡ correction_of e2 tree s2 i no_nodes

-- p's bits on the second path are those that the first key gives
module _ (e e2 : Meaning) (tape : IsTape e) (tape2 : IsTape e2) (p : Provider) (tree : ℕ) (s s2 : Secret) (related : Related e e2 p tree s s2) (roots : ℕ × ℕ) where
  kept-more : (i : ℕ) → i < s.depth → kept_bit e p tree s s2 (i + 1) ≡ tape_step e p tree s.depth s2.alpha i (correction_of e tree s i no_nodes) (kept_bit e p tree s s2 i)
  unfolding kept_bit
  kept-more i h =
      ap (λ n. n.bit) (held-suc e tree s (0, 0) s.depth p 0 s2.alpha i h)
      ∙ step-tape e tape p tree s (0, 0) s2.alpha i (held e tree s (0, 0) s.depth p 0 s2.alpha i)

  path-more2 : (i : ℕ) → own_bit p (path e2 tree s2 roots (i + 1)) ≡ tape_step e2 p tree s2.depth s2.alpha i (correction_of e2 tree s2 i no_nodes) (own_bit p (path e2 tree s2 roots i))
  path-more2 i =
      sym (own_bits p (path e2 tree s2 roots (i + 1)))
      ∙ ap (λ n. n.bit) (own-more e2 tape2 p tree s2 roots i)
      ∙ step-tape e2 tape2 p tree s2 roots s2.alpha i (own_node p (path e2 tree s2 roots i))
      ∙ ap (tape_step e2 p tree s2.depth s2.alpha i (correction_of e2 tree s2 i no_nodes)) (own_bits p (path e2 tree s2 roots i))

  pub bits_kept : (i : ℕ) → i ≤ s.depth → own_bit p (path e2 tree s2 roots i) ≡ kept_bit e p tree s s2 i
  unfolding kept_bit path node
  bits_kept zero h = base p
    where
      base : (r : Provider) → own_bit r (path e2 tree s2 roots 0) ≡ kept_bit e r tree s s2 0
      base Zero = refl
      base One = refl
  bits_kept (suc i) h =
      let lt : i < s.depth = omega arith in
      let t = own_bit p (path e2 tree s2 roots i) in
      subst (λ k. own_bit p (path e2 tree s2 roots k) ≡ kept_bit e p tree s s2 k) (add-one i)
      (path-more2 i
      ∙ ap (λ k. tape_step e2 p tree k s2.alpha i (correction_of e2 tree s2 i no_nodes) t) related.depths
      ∙ ap (λ b. differ (bit_at (side s.depth s2.alpha i) b) (t && corrected_bit_at (side s.depth s2.alpha i) (correction_of e2 tree s2 i no_nodes))) (sym (related.blocks i (prefix s.depth s2.alpha i) 0))
      ∙ ap (λ c. tape_step e p tree s.depth s2.alpha i c t) (sym (related.same_corrections i lt))
      ∙ ap (tape_step e p tree s.depth s2.alpha i (correction_of e tree s i no_nodes)) (bits_kept i (omega arith))
      ∙ sym (kept-more i lt))
