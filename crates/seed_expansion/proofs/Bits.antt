-- Prefixes and sides of numbers.
use Rattle.std.proofs.Common.{◌≡◌, ◌≢◌, ◌⊎◌, inl, inr, ℕ, ◌+◌, ◌-◌, ◌/◌, ◌%◌, ◌^◌, ◌<◌, Bool, true, false, not, refl, sym, ap, ◌∙◌, arith, eqb, ltb}
use Rattle.std.proofs.lemmas.Nat.{shr-shr}
use Rattle.std.proofs.Math.Nat.{div-eq_of_lt}
use Rattle.std.proofs.lemmas.Bool.Decides.{nat_tests}
use Rattle.seed_expansion.specs.Walk.{prefix, side}

pub prefix_half : (depth x i : ℕ) → i < depth → prefix depth x i ≡ prefix depth x (i + 1) / 2
prefix_half depth x i h =
    let e : depth - i ≡ (depth - (i + 1)) + 1 = omega arith in
    ap (λ k. x / 2 ^ k) e ∙ sym (shr-shr x (depth - (i + 1)) 1)

pub prefix_all : (depth x : ℕ) → prefix depth x depth ≡ x
prefix_all depth x =
    let k : depth - depth ≡ 0 = omega arith in
    ap (λ j. x / 2 ^ j) k ∙ omega arith

pub prefix_none : (depth x : ℕ) → x < 2 ^ depth → prefix depth x 0 ≡ 0
prefix_none depth x h =
    let k : depth - 0 ≡ depth = omega arith in
    ap (λ j. x / 2 ^ j) k ∙ div-eq_of_lt h

half_same : (p q : ℕ) → p / 2 ≡ q / 2 → eqb (p % 2) 1 ≡ eqb (q % 2) 1 → p ≡ q
half_same p q e h = grind (arith, nat_tests)

half_turned : (p q : ℕ) → p / 2 ≡ q / 2 → eqb (p % 2) 1 ≡ not (eqb (q % 2) 1) → ltb p q ≡ eqb (q % 2) 1
half_turned p q e h = grind (arith, nat_tests)

half_other : (p q : ℕ) → p / 2 ≢ q / 2 → ltb p q ≡ ltb (p / 2) (q / 2)
half_other p q h = grind (arith, nat_tests)

pub same_bools : (a b : Bool) → (a ≡ b) ⊎ (a ≡ not b)
same_bools false false = inl refl
same_bools false true = inr refl
same_bools true false = inr refl
same_bools true true = inl refl

not_same : (a : Bool) → not a ≢ a
not_same false h = cc
not_same true h = cc

module _ (depth x a i : ℕ) where
  pub next_same : i < depth → prefix depth x i ≡ prefix depth a i → side depth x i ≡ side depth a i → prefix depth x (i + 1) ≡ prefix depth a (i + 1)
  next_same h e d = half_same (prefix depth x (i + 1)) (prefix depth a (i + 1)) (sym (prefix_half depth x i h) ∙ e ∙ prefix_half depth a i h) d

  pub next_turned : side depth x i ≡ not (side depth a i) → prefix depth x (i + 1) ≢ prefix depth a (i + 1)
  next_turned d q = not_same (side depth a i) (sym d ∙ ap (λ y. eqb (y % 2) 1) q)

  pub next_other : i < depth → prefix depth x i ≢ prefix depth a i → prefix depth x (i + 1) ≢ prefix depth a (i + 1)
  next_other h ne q = ne (prefix_half depth x i h ∙ ap (λ y. y / 2) q ∙ sym (prefix_half depth a i h))

  pub below_turned : i < depth → prefix depth x i ≡ prefix depth a i → side depth x i ≡ not (side depth a i) → ltb (prefix depth x (i + 1)) (prefix depth a (i + 1)) ≡ side depth a i
  below_turned h e d = half_turned (prefix depth x (i + 1)) (prefix depth a (i + 1)) (sym (prefix_half depth x i h) ∙ e ∙ prefix_half depth a i h) d

  pub below_other : i < depth → prefix depth x i ≢ prefix depth a i → ltb (prefix depth x (i + 1)) (prefix depth a (i + 1)) ≡ ltb (prefix depth x i) (prefix depth a i)
  below_other h ne =
      half_other (prefix depth x (i + 1)) (prefix depth a (i + 1)) (λ q. ne (prefix_half depth x i h ∙ q ∙ sym (prefix_half depth a i h)))
      ∙ ap (λ y. ltb y (prefix depth a (i + 1) / 2)) (sym (prefix_half depth x i h)) ∙ ap (ltb (prefix depth x i)) (sym (prefix_half depth a i h))
