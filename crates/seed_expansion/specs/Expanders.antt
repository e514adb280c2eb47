-- Expanders: what a node's seed expands to.
use Rattle.std.specs.Prelude.{◌≡◌, ℕ}
use Rattle.seed_expansion.specs.declared.nodes.Place.{Place}
use Rattle.seed_expansion.specs.declared.nodes.Block.{Block}

-- what an expander gives: a block and a leaf word for each place and seed
pub record Meaning : Type 0 where
  pub block : Place → ℕ → Block
  pub leaf : Place → ℕ → ℕ

-- pure: at one seed all places give the same
pub record IsPure (e : Meaning) : Type 0 where
  pub blocks : (p q : Place) (s : ℕ) → e.block p s ≡ e.block q s
  pub leaves : (p q : Place) (s : ℕ) → e.leaf p s ≡ e.leaf q s

-- a tape: at one place all seeds give the same
pub record IsTape (e : Meaning) : Type 0 where
  pub blocks : (p : Place) (s t : ℕ) → e.block p s ≡ e.block p t
  pub leaves : (p : Place) (s t : ℕ) → e.leaf p s ≡ e.leaf p t
