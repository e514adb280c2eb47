-- Laws of frames on a wire.
use Rattle.std.specs.Prelude.{◌≡◌, ◌⊎◌, ℕ, ◌≤◌, ◌<◌, ◌^◌, List, ◌++◌, length, All}
use Rattle.wire_frames.specs.Framing.{framed, all_framed, BeginsTooLong, EndsInside}

-- each of these frames has at most so many bytes
abbrev pub AreShort : ℕ → List (List ℕ) → Type 0
AreShort longest frames = All (λ frame. length frame ≤ longest) frames

-- input that goes on with a whole frame of at most so many bytes
abbrev pub GoesOn : ℕ → List ℕ → Type 0
GoesOn longest input = (frame : List ℕ) × (more : List ℕ) × (length frame ≤ longest) × (input ≡ framed frame ++ more)

-- an input is read as frames in one way: of two readings one goes on where the other ended, or they are the same
abbrev pub FramesAreReadOnce : Type 0
FramesAreReadOnce = (longest : ℕ) (xs ys : List (List ℕ)) (r s : List ℕ) → longest < 2 ^ 32 → AreShort longest xs → AreShort longest ys → all_framed xs ++ r ≡ all_framed ys ++ s
    → ((xs ≡ ys) × (r ≡ s)) ⊎ (((length xs < length ys) × GoesOn longest r) ⊎ ((length ys < length xs) × GoesOn longest s))

-- input with no byte doesn't go on with a frame
abbrev pub NoneDoesNotGoOn : Type 0
NoneDoesNotGoOn = (longest : ℕ) (input : List ℕ) → length input ≡ 0 → GoesOn longest input → ⊥

-- nor does input that ends inside one
abbrev pub PartDoesNotGoOn : Type 0
PartDoesNotGoOn = (longest had needed : ℕ) (input : List ℕ) → longest < 2 ^ 32 → EndsInside longest input had needed → GoesOn longest input → ⊥

-- nor does input that begins with too long a length
abbrev pub TooLongDoesNotGoOn : Type 0
TooLongDoesNotGoOn = (longest n : ℕ) (input : List ℕ) → longest < 2 ^ 32 → BeginsTooLong longest input n → GoesOn longest input → ⊥

-- input that begins with too long a length doesn't end inside it or a frame
abbrev pub TooLongIsNoPart : Type 0
TooLongIsNoPart = (longest n had needed : ℕ) (input : List ℕ) → longest < 2 ^ 32 → BeginsTooLong longest input n → EndsInside longest input had needed → ⊥

-- an input ends inside a frame in one way
abbrev pub PartIsOne : Type 0
PartIsOne = (longest had needed had_too needed_too : ℕ) (input : List ℕ) → longest < 2 ^ 32 → EndsInside longest input had needed → EndsInside longest input had_too needed_too
    → (had ≡ had_too) × (needed ≡ needed_too)

-- an input begins with one length
abbrev pub TooLongIsOne : Type 0
TooLongIsOne = (longest n n_too : ℕ) (input : List ℕ) → BeginsTooLong longest input n → BeginsTooLong longest input n_too → n ≡ n_too
