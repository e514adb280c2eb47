-- Expanders whose seeds are such as keys have.
use Rattle.std.specs.Prelude.{ℕ, ◌^◌, ◌<◌}
use Rattle.seed_expansion.specs.declared.nodes.Place.{Place}
use Rattle.seed_expansion.specs.Expanders.{Meaning}

-- every seed that it gives has at most 128 bits
pub record GivesSeeds (e : Meaning) : Type 0 where
  pub left : (p : Place) (s : ℕ) → (e.block p s).seed_l < 2 ^ 128
  pub right : (p : Place) (s : ℕ) → (e.block p s).seed_r < 2 ^ 128
