-- Laws of connections.
use Rattle.std.specs.Prelude.{◌≡◌, ℕ, List, map}
use Rattle.spl_outside.specs.Wire.{Wire}
use Rattle.serve_core.specs.Serving.{Exchange, Serves}
use Rattle.serve_core.specs.declared.end.ServeEnd.{ServeEnd}
use Rattle.serve_core.specs.declared.end.ServeEnd.TheVariants as end

-- the connection wasn't lost, and memory wasn't wanting
abbrev pub IsWhole : ServeEnd → Type 0
IsWhole end.Lost = ⊥
IsWhole end.OutOfMemory = ⊥
IsWhole _ = Unit {0}

-- the frames of the requests
abbrev pub frames : List Exchange → List (List ℕ)
frames xs = map (λ x. x.frame) xs

-- an input has one end that is whole, behind the same requests
abbrev pub ConnectionsEndOnce : Type 0
ConnectionsEndOnce = (reply : List ℕ → List ℕ) (most : ℕ) (w n m : Wire) (e d : ServeEnd) (a : Serves reply most w e n) (b : Serves reply most w d m) → IsWhole e → IsWhole d
    → (e ≡ d) × (frames a.exchanges ≡ frames b.exchanges)
