-- What a command owes that stops before it is done.
use Rattle.std.proofs.Common.{◌≡◌, ℕ, List, [], drop, Option, Some, None, Result, Ok, Err, refl, sym, subst, arith}
use Rattle.std.specs.Prelude.{IfSome, IfErr}
use Rattle.std.specs.Global.{Vec}
use Rattle.spl_outside.specs.Causes.{Counts}
use Rattle.spl_outside.specs.Content.{FileMap, LeftAfter}
use Rattle.splinter_status.specs.Phases.{EndsAtFiles, InputGives}
use Rattle.splinter_status.specs.declared.stops.Refusal.{Refusal}
use Rattle.splinter_status.specs.declared.stops.InputStop.{InputStop}
use Rattle.splinter_status.specs.declared.stops.InputStop.TheVariants as input
use Rattle.splinter_status.specs.declared.stops.Stopped.{Stopped}
use Rattle.splinter_status.specs.declared.stops.Stopped.TheVariants as stopped
use Rattle.splinter_steps.specs.Outputs.{IsLate}
use Rattle.splinter_steps.specs.Writes.{put_all, Puts}
use Rattle.splinter_commands.specs.Effects.{Effect, draws, outputs}
use Rattle.splinter_commands.specs.Meets.{Meets, Ends, FilesFailed, Takes, TakesSome, IsTold, IsDrawing}

-- some words to come
pub any_words : (words : Option (List ℕ)) → (ws : List ℕ) × IsTold words ws
any_words None = ([], tt)
any_words (Some ws) = (ws, refl)

-- ---- before it is ready

ends_early : {X : Type 0} (view : X → Effect) (s : InputStop) (ready : Result Effect Refusal) (ws : List ℕ) (m : FileMap) → InputGives view (Err s) ready → Ends (Err (stopped.Input s)) ready ws m (Some m)
ends_early view (input.Refused r) ready ws m gives = (gives, refl)
ends_early view input.FileFault ready ws m gives = refl
ends_early view input.OutOfMemory ready ws m gives = refl

takes_none : (count : ℕ) (s : InputStop) (words : Option (List ℕ)) → IfSome words (λ ws. Takes (Err (stopped.Input s)) count ws words)
takes_none count s None = tt
takes_none count s (Some ws) = refl

early_in : {X : Type 0} (view : X → Effect) (ready : FileMap → Result Effect Refusal) (files : Option FileMap) (words : Option (List ℕ)) (s : InputStop)
    → IfSome files (λ m. InputGives view (Err s) (ready m)) → IfSome files (λ m. Meets (ready m) m files words words (Err (stopped.Input s)))
early_in view ready None words s gives = tt
early_in view ready (Some m) words s gives =
    let some = any_words words in
    record {
      ends = (some.0, (some.1, ends_early view s (ready m) some.0 m gives));
      takes = takes_none (draws (ready m)) s words;
    }

-- nothing was drawn and nothing written
pub early : {X : Type 0} (view : X → Effect) (ready : FileMap → Result Effect Refusal) (files held : Option FileMap) (words : Option (List ℕ)) (s : InputStop) (r : Result (Vec ℕ) Stopped)
    → r ≡ Err (stopped.Input s) → held ≡ files → IfSome files (λ m. InputGives view (Err s) (ready m)) → IfSome files (λ m. Meets (ready m) m held words words r)
early view ready files held words s r is stays gives =
    subst (λ k. IfSome files (λ m. Meets (ready m) m k words words r)) (sym stays)
    (subst (λ (q : Result (Vec ℕ) Stopped). IfSome files (λ m. Meets (ready m) m files words words q)) (sym is) (early_in view ready files words s gives))

-- ---- once it is ready

-- what a command came to over files that make it ready
abbrev pub Came : Option FileMap → Option FileMap → Option (List ℕ) → Effect → Result (Vec ℕ) Stopped → Type 0
Came files held words x r = IfSome files (λ m. (ws : List ℕ) × (IsTold words ws × Ends r (Ok x) ws m held))

-- it is what the command owes
pub meets : (ready : FileMap → Result Effect Refusal) (files held : Option FileMap) (words left : Option (List ℕ)) (r : Result (Vec ℕ) Stopped) (x : Effect) → IfSome files (λ m. ready m ≡ Ok x)
    → Came files held words x r → IfSome words (λ ws. Takes r x.draws ws left) → IfSome files (λ m. Meets (ready m) m held words left r)
meets ready None held words left r x is came takes = tt
meets ready (Some m) held words left r x is came takes = subst (λ k. Meets k m held words left r) (sym is) (record { ends = came; takes = takes })

ends_drawing : (s : Stopped) (x : Effect) (ws : List ℕ) (m : FileMap) (held : Option FileMap) → IsDrawing s → held ≡ Some m → Ends (Err s) (Ok x) ws m held
unfolding put_all
ends_drawing (stopped.Input s) x ws m held drawing stays = absurd drawing
ends_drawing stopped.DrawFault x ws m held drawing stays = (refl, stays)
ends_drawing stopped.FileFault x ws m held drawing stays = absurd drawing
ends_drawing stopped.OutOfMemory x ws m held drawing stays = (0, stays)

came_drawing : (files held : Option FileMap) (words : Option (List ℕ)) (s : Stopped) (x : Effect) → IsDrawing s → held ≡ files → Came files held words x (Err s)
came_drawing None held words s x drawing stays = tt
came_drawing (Some m) held words s x drawing stays = let some = any_words words in (some.0, (some.1, ends_drawing s x some.0 m held drawing stays))

takes_drawing : (count : ℕ) (s : Stopped) (words left : Option (List ℕ)) → IsDrawing s → IfSome words (λ ws. LeftAfter count ws left) → IfSome words (λ ws. Takes (Err s) count ws left)
takes_drawing count s None left drawing drawn = tt
takes_drawing count (stopped.Input s) (Some ws) left drawing drawn = absurd drawing
takes_drawing count stopped.DrawFault (Some ws) left drawing drawn = drawn
takes_drawing count stopped.FileFault (Some ws) left drawing drawn = absurd drawing
takes_drawing count stopped.OutOfMemory (Some ws) left drawing drawn = drawn

-- no more than its words were drawn, and no file was written
pub undrawn : (ready : FileMap → Result Effect Refusal) (files held : Option FileMap) (words left : Option (List ℕ)) (s : Stopped) (r : Result (Vec ℕ) Stopped) (x : Effect) → r ≡ Err s → IsDrawing s
    → IfSome files (λ m. ready m ≡ Ok x) → IfSome words (λ ws. LeftAfter x.draws ws left) → held ≡ files → IfSome files (λ m. Meets (ready m) m held words left r)
undrawn ready files held words left s r x same drawing is drawn stays =
    subst (λ (q : Result (Vec ℕ) Stopped). IfSome files (λ m. Meets (ready m) m held words left q)) (sym same)
    (meets ready files held words left (Err s) x is (came_drawing files held words s x drawing stays) (takes_drawing x.draws s words left drawing drawn))

ends_writing : (s : Stopped) (x : Effect) (ws : List ℕ) (m : FileMap) (held : Option FileMap) → IsLate s → Puts (outputs x ws) m held (Err s) → Ends (Err s) (Ok x) ws m held
ends_writing (stopped.Input s) x ws m held late puts = absurd late
ends_writing stopped.DrawFault x ws m held late puts = absurd late
ends_writing stopped.FileFault x ws m held late puts = puts
ends_writing stopped.OutOfMemory x ws m held late puts = (puts.0, puts.1.1)

takes_writing : (count : ℕ) (s : Stopped) (words left : Option (List ℕ)) → IsLate s → IfSome words (λ ws. left ≡ Some (drop count ws)) → IfSome words (λ ws. Takes (Err s) count ws left)
takes_writing count s None left late drawn = tt
takes_writing count (stopped.Input s) (Some ws) left late drawn = absurd late
takes_writing count stopped.DrawFault (Some ws) left late drawn = absurd late
takes_writing count stopped.FileFault (Some ws) left late drawn = drawn
takes_writing count stopped.OutOfMemory (Some ws) left late drawn = (count, (omega arith, drawn))

-- what was written of the files, of which these are those
abbrev pub Wrote : Option FileMap → Option FileMap → Option (List ℕ) → Effect → Result (Unit {0}) Stopped → Type 0
Wrote files held words x r = IfSome files (λ m. (ws : List ℕ) × (IsTold words ws × Puts (outputs x ws) m held r))

came_writing : (files held : Option FileMap) (words : Option (List ℕ)) (s : Stopped) (x : Effect) → IsLate s → Wrote files held words x (Err s) → Came files held words x (Err s)
came_writing None held words s x late wrote = tt
came_writing (Some m) held words s x late wrote = (wrote.0, (wrote.1.0, ends_writing s x wrote.0 m held late wrote.1.1))

-- all of its words were drawn, and not all of its files written
pub unwritten : (ready : FileMap → Result Effect Refusal) (files held : Option FileMap) (words left : Option (List ℕ)) (s : Stopped) (r : Result (Vec ℕ) Stopped) (x : Effect) → r ≡ Err s → IsLate s
    → IfSome files (λ m. ready m ≡ Ok x) → IfSome words (λ ws. left ≡ Some (drop x.draws ws)) → Wrote files held words x (Err s) → IfSome files (λ m. Meets (ready m) m held words left r)
unwritten ready files held words left s r x same late is drawn wrote =
    subst (λ (q : Result (Vec ℕ) Stopped). IfSome files (λ m. Meets (ready m) m held words left q)) (sym same)
    (meets ready files held words left (Err s) x is (came_writing files held words s x late wrote) (takes_writing x.draws s words left late drawn))

-- ---- counts of faults

-- of the words to come none was taken
pub takes_nothing : (words : Option (List ℕ)) → TakesSome words words
takes_nothing None = tt
takes_nothing (Some ws) = (0, refl)

-- or some first ones were
pub takes_front : (count : ℕ) (words left : Option (List ℕ)) → IfSome words (λ ws. left ≡ Some (drop count ws)) → TakesSome words left
takes_front count None left took = tt
takes_front count (Some ws) left took = (count, took)

counts_as : (before now : ℕ) (P Q : Type 0) → (P → Q) → (Q → P) → Counts before now P → Counts before now Q
counts_as before now P Q to from counts = record {
  cause = record { later = counts.cause.later; cause = λ q. counts.cause.cause (from q) };
  quiet = λ none. counts.quiet (λ p. none (to p));
}

-- a call that didn't fail, and then others
pub counts_next : (before mid now : ℕ) (P Q R : Type 0) → (P → ⊥) → (Q → R) → (R → Q) → Counts before mid P → Counts mid now Q → Counts before now R
counts_next before mid now P Q R none to from first second = counts_as before now Q R to from (subst (λ n. Counts n now Q) (first.quiet none) second)

no_file : (s : Stopped) → IsDrawing s → FilesFailed (Err s) → ⊥
no_file (stopped.Input s) drawing failed = drawing
no_file stopped.DrawFault drawing failed = failed
no_file stopped.FileFault drawing failed = drawing
no_file stopped.OutOfMemory drawing failed = failed

-- no file failed where a draw did, or memory was short
pub counts_drawing : (before now : ℕ) (P : Type 0) (s : Stopped) (r : Result (Vec ℕ) Stopped) → r ≡ Err s → IsDrawing s → (P → ⊥) → Counts before now P → Counts before now (FilesFailed r)
counts_drawing before now P s r is drawing none counts =
    counts_as before now P (FilesFailed r) (λ p. absurd (none p)) (λ failed. absurd (no_file s drawing (subst FilesFailed is failed))) counts

late_file : (s : Stopped) → IsLate s → FilesFailed (Err s) → s ≡ stopped.FileFault
late_file (stopped.Input s) late failed = absurd late
late_file stopped.DrawFault late failed = absurd late
late_file stopped.FileFault late failed = refl
late_file stopped.OutOfMemory late failed = absurd failed

-- a file failed where it wasn't written
pub counts_writing : (before mid now : ℕ) (P Q : Type 0) (s : Stopped) (r : Result (Vec ℕ) Stopped) → r ≡ Err s → IsLate s → (P → ⊥) → (Q → s ≡ stopped.FileFault) → (s ≡ stopped.FileFault → Q) → Counts before mid P → Counts mid now Q
    → Counts before now (FilesFailed r)
counts_writing before mid now P Q s r is late none to from first second =
    counts_next before mid now P Q (FilesFailed r) none (λ q. subst FilesFailed (sym is) (subst (λ k. FilesFailed (Err k)) (sym (to q)) tt)) (λ failed. from (late_file s late (subst FilesFailed is failed))) first second

-- ---- how it ends

ends_drawn : (s : Stopped) → IsDrawing s → EndsAtFiles s
ends_drawn (stopped.Input s) h = absurd h
ends_drawn stopped.DrawFault h = tt
ends_drawn stopped.FileFault h = tt
ends_drawn stopped.OutOfMemory h = tt

ends_written : (s : Stopped) → IsLate s → EndsAtFiles s
ends_written (stopped.Input s) h = absurd h
ends_written stopped.DrawFault h = tt
ends_written stopped.FileFault h = tt
ends_written stopped.OutOfMemory h = tt

-- a stop that comes late is no refusal
pub drawing_ends : {T : Type 0} (s : Stopped) (r : Result T Stopped) → r ≡ Err s → IsDrawing s → IfErr r EndsAtFiles
drawing_ends s r is drawing = subst (λ q. IfErr q EndsAtFiles) (sym is) (ends_drawn s drawing)

pub writing_ends : {T : Type 0} (s : Stopped) (r : Result T Stopped) → r ≡ Err s → IsLate s → IfErr r EndsAtFiles
writing_ends s r is late = subst (λ q. IfErr q EndsAtFiles) (sym is) (ends_written s late)
