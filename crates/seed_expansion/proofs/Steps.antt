-- One level of a tree, and its leaf.
use Rattle.std.proofs.Common.{◌≡◌, ℕ, ◌%◌, ◌^◌, Bool, true, false, not, cond, ◌&&◌, refl, sym, ap, ◌∙◌, arith}
use Rattle.std.specs.Int.Bits.{bit_xor, xor_self, xor_zero_l, xor_zero_r}
use lib.Bits.{xor_assoc}
use Rattle.std.proofs.lemmas.Nat.{xor_comm}
use Rattle.spl_words.specs.declared.provider.Provider.TheVariants.{Zero, One}
use Rattle.seed_expansion.specs.declared.nodes.Node.{Node}
use Rattle.seed_expansion.specs.declared.nodes.Block.{Block}
use Rattle.spl_words.specs.Words.{plus}
use Rattle.seed_expansion.specs.Walk.{child, correction, differ}
use Rattle.seed_expansion.specs.Leaves.{last_word, leaf_share}

pub xor_first : (a b : ℕ) → bit_xor a (bit_xor a b) ≡ b
xor_first a b = sym (xor_assoc a a b) ∙ ap (λ z. bit_xor z b) (xor_self a) ∙ xor_zero_l b

pub xor_second : (a b : ℕ) → bit_xor b (bit_xor a b) ≡ a
xor_second a b = ap (λ z. bit_xor b z) (xor_comm a b) ∙ xor_first b a

-- two bits on the side that alpha takes stay opposite, and on the other side they become equal
kept_bits : (t x y : Bool) → differ y (not t && differ (differ x y) true) ≡ not (differ x (t && differ (differ x y) true))
kept_bits false false false = refl
kept_bits false false true = refl
kept_bits false true false = refl
kept_bits false true true = refl
kept_bits true false false = refl
kept_bits true false true = refl
kept_bits true true false = refl
kept_bits true true true = refl

lost_bits : (t x y : Bool) → differ x (t && differ (differ x y) false) ≡ differ y (not t && differ (differ x y) false)
lost_bits false false false = refl
lost_bits false false true = refl
lost_bits false true false = refl
lost_bits false true true = refl
lost_bits true false false = refl
lost_bits true false true = refl
lost_bits true true false = refl
lost_bits true true true = refl

lost_seeds : (t : Bool) (x y : ℕ) → bit_xor x (cond t (bit_xor x y) 0) ≡ bit_xor y (cond (not t) (bit_xor x y) 0)
lost_seeds false x y = xor_zero_r x ∙ sym (xor_second x y)
lost_seeds true x y = xor_first x y ∙ sym (xor_zero_r y)

pub child_keeps : (d t : Bool) (b0 b1 : Block) → (child d (not t) b1 (correction d b0 b1)).bit ≡ not (child d t b0 (correction d b0 b1)).bit
unfolding child correction
child_keeps false t b0 b1 = kept_bits t b0.bit_l b1.bit_l
child_keeps true t b0 b1 = kept_bits t b0.bit_r b1.bit_r

same_node : (m n : Node) → m.seed ≡ n.seed → m.bit ≡ n.bit → m ≡ n
same_node m n p q =
    let make : ℕ → Bool → Node = λ s b. record { seed = s; bit = b } in
    ap (λ s. make s m.bit) p ∙ ap (make n.seed) q

pub child_loses : (d t : Bool) (b0 b1 : Block) → child (not d) t b0 (correction d b0 b1) ≡ child (not d) (not t) b1 (correction d b0 b1)
unfolding child correction
child_loses false t b0 b1 = same_node _ _ (lost_seeds t b0.seed_r b1.seed_r) (lost_bits t b0.bit_r b1.bit_r)
child_loses true t b0 b1 = same_node _ _ (lost_seeds t b0.seed_l b1.seed_l) (lost_bits t b0.bit_l b1.bit_l)

-- at alpha's leaf the shares add to beta
pub leaf_adds : (t : Bool) (w0 w1 beta : ℕ) → plus (leaf_share Zero t w0 (last_word beta t (not t) w0 w1)) (leaf_share One (not t) w1 (last_word beta t (not t) w0 w1)) ≡ beta % 2 ^ 64
unfolding leaf_share last_word
leaf_adds false w0 w1 beta = omega arith
leaf_adds true w0 w1 beta = omega arith

-- at any other leaf both have one node
pub leaf_cancels : (t : Bool) (w last : ℕ) → plus (leaf_share Zero t w last) (leaf_share One t w last) ≡ 0
unfolding leaf_share
leaf_cancels false w last = omega arith
leaf_cancels true w last = omega arith
