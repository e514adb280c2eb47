-- What a run leaves in the files and takes of the words to come.
use Rattle.std.proofs.Common.{◌≡◌, ◌≢◌, ◌⊎◌, ℕ, zero, suc, List, [], ◌∷◌, length, map, take, Option, Some, Result, Ok, Err, refl, sym, subst, ap, ◌∙◌, inl, inr, arith}
use Rattle.std.specs.Prelude.{IfSome, IsErr, IsErrOf, IsOkAnd}
use Rattle.std.specs.FinMap.{insert}
use Rattle.std.specs.Global.{Vec}
use Rattle.std.proofs.lemmas.List.{take_all}
use Rattle.std.proofs.lemmas.Simd.{map-map}
use Rattle.spl_outside.specs.Causes.{Rose}
use Rattle.spl_outside.specs.Content.{FileMap, KeepsBut, LeftAfter}
use Rattle.spl_outside.proofs.Lookup.{insert_keeps}
use Rattle.splinter_status.specs.declared.status.Status.{Status}
use Rattle.splinter_status.specs.declared.status.Status.TheVariants as status
use Rattle.splinter_status.specs.declared.stops.Refusal.{Refusal}
use Rattle.splinter_status.specs.declared.stops.Refusal.TheVariants as refusal
use Rattle.splinter_status.specs.declared.stops.InputStop.{InputStop}
use Rattle.splinter_status.specs.declared.stops.InputStop.TheVariants as input
use Rattle.splinter_status.specs.declared.stops.Stopped.{Stopped}
use Rattle.splinter_status.specs.declared.stops.Stopped.TheVariants as stopped
use Rattle.splinter_status.specs.Ends.{EndsAs, status_of}
use Rattle.splinter_steps.specs.Writes.{put_all, PutsSome}
use Rattle.splinter_steps.proofs.Puts.{but_first, but_one, but_then}
use Rattle.splinter_commands.specs.Effects.{Effect, File, draws, names, outputs}
use Rattle.splinter_commands.specs.Meets.{Ends, FilesFailed, Takes}
use Rattle.splinter_cli.specs.Worlds.{DrawFailed, ReadFailed, Unchanged, World, WriteFailed}
use Rattle.splinter_cli.specs.Runs.{CallsFor, DoesAll, DoesFirst, ended, Leaves}

-- what is known of what a command came to, over these words to come
pub record Known (outcome : Result (Vec ℕ) Stopped) (ready : Result Effect Refusal) (ws : List ℕ) (m : FileMap) (before after : World) : Type 0 where
  pub ends : Ends outcome ready ws m after.held
  pub takes : IfSome before.words (λ vs. Takes outcome (draws ready) vs after.words)
  pub early : (s : InputStop) → outcome ≡ Err (stopped.Input s) → Unchanged before after
  pub unwritten : outcome ≡ Err stopped.DrawFault → after.held ≡ before.held
  pub files : FilesFailed outcome → Rose before.file_faults after.file_faults
  pub draws_rose : IsErrOf outcome stopped.DrawFault → Rose before.draw_faults after.draw_faults

module _ (ws : List ℕ) (m : FileMap) (before after : World) where
  done_all : (ready : Result Effect Refusal) (text : Vec ℕ) → Known (Ok text) ready ws m before after → IsOkAnd ready (λ x. DoesAll x ws m before after)
  done_all (Ok x) text k = (k.ends.1, k.takes)
  done_all (Err r) text k = k.ends

  write_failed : (ready : Result Effect Refusal) → Known (Err stopped.FileFault) ready ws m before after → IsOkAnd ready (λ x. WriteFailed x ws m before after)
  write_failed (Ok x) k = record { rose = k.files tt; drawn = k.takes; files = k.ends }
  write_failed (Err r) k = k.ends

  none_first : (ready : Result Effect Refusal) → after.held ≡ Some m → DoesFirst ready ws m after
  unfolding put_all
  none_first (Ok x) stays = (0, stays)
  none_first (Err r) stays = stays

  some_first : (ready : Result Effect Refusal) → Known (Err stopped.OutOfMemory) ready ws m before after → DoesFirst ready ws m after
  some_first (Ok x) k = k.ends
  some_first (Err r) k = absurd k.ends

  all_first : (ready : Result Effect Refusal) (text : Vec ℕ) → Known (Ok text) ready ws m before after → DoesFirst ready ws m after
  all_first (Ok x) text k =
      let all = take_all (length (outputs x ws)) (outputs x ws) (omega arith) in
      (length (outputs x ws), k.ends.1 ∙ ap (λ os. Some (put_all os m)) (sym all))
  all_first (Err r) text k = absurd k.ends

  read_failed : (ready : Result Effect Refusal) → Known (Err (stopped.Input input.FileFault)) ready ws m before after → ReadFailed before after
  read_failed ready k = record { rose = k.files tt; unchanged = k.early input.FileFault refl }

  draw_stopped : (ready : Result Effect Refusal) → Known (Err stopped.DrawFault) ready ws m before after → DrawFailed before after
  draw_stopped ready k = record { rose = k.draws_rose refl; files = k.unwritten refl }

  refused : (ready : Result Effect Refusal) (r : Refusal) → CallsFor (status_of r) ready → Unchanged before after → Leaves (status_of r) ready ws m before after
  refused ready refusal.Usage calls stays = (calls, stays)
  refused ready (refusal.Query f) calls stays = (calls, stays)
  refused ready (refusal.Param f) calls stays = (calls, stays)
  refused ready (refusal.Shape f) calls stays = (calls, stays)
  refused ready (refusal.Table f) calls stays = (calls, stays)
  refused ready (refusal.SumBound n c at) calls stays = (calls, stays)
  refused ready (refusal.Frame n f) calls stays = (calls, stays)
  refused ready (refusal.Differ d) calls stays = (calls, stays)
  refused ready (refusal.BadWord i w) calls stays = (calls, stays)
  refused ready (refusal.MissingFile n) calls stays = (calls, stays)
  refused ready (refusal.FileTooLong n) calls stays = (calls, stays)
  refused ready (refusal.SameProvider p) calls stays = (calls, stays)
  refused ready (refusal.NotBuilt p) calls stays = (calls, stays)

  -- with the command's own status
  by_own : (ready : Result Effect Refusal) (outcome : Result (Vec ℕ) Stopped) → Known outcome ready ws m before after → Leaves (ended outcome) ready ws m before after
  by_own ready (Ok text) k = done_all ready text k
  by_own ready (Err (stopped.Input (input.Refused r))) k = refused ready r (r, (k.ends.0, refl)) (k.early (input.Refused r) refl)
  by_own ready (Err (stopped.Input input.FileFault)) k = inl (read_failed ready k)
  by_own ready (Err (stopped.Input input.OutOfMemory)) k = inl (none_first ready k.ends)
  by_own ready (Err stopped.DrawFault) k = (k.ends.0, draw_stopped ready k)
  by_own ready (Err stopped.FileFault) k = inr (write_failed ready k)
  by_own ready (Err stopped.OutOfMemory) k = inl (some_first ready k)

  cut_done : (ready : Result Effect Refusal) (text : Vec ℕ) → Known (Ok text) ready ws m before after → IsOkAnd ready (λ x. DoesAll x ws m before after ⊎ WriteFailed x ws m before after)
  cut_done (Ok x) text k = inl (k.ends.1, k.takes)
  cut_done (Err r) text k = k.ends

  cut_write : (ready : Result Effect Refusal) → Known (Err stopped.FileFault) ready ws m before after → IsOkAnd ready (λ x. DoesAll x ws m before after ⊎ WriteFailed x ws m before after)
  cut_write (Ok x) k = inr (record { rose = k.files tt; drawn = k.takes; files = k.ends })
  cut_write (Err r) k = k.ends

  is_err : (ready : Result Effect Refusal) (r : Refusal) → ready ≡ Err r → IsErr ready
  is_err ready r is = subst IsErr (sym is) refl

  -- where its text or line wasn't printed
  by_output : (ready : Result Effect Refusal) (outcome : Result (Vec ℕ) Stopped) → ended outcome ≢ status.OutOfMemory → Known outcome ready ws m before after → Leaves status.OutputFault ready ws m before after
  by_output ready (Ok text) noted k = inr (inr (inr (cut_done ready text k)))
  by_output ready (Err (stopped.Input (input.Refused r))) noted k = inl (is_err ready r k.ends.0, k.early (input.Refused r) refl)
  by_output ready (Err (stopped.Input input.FileFault)) noted k = inr (inl (read_failed ready k))
  by_output ready (Err (stopped.Input input.OutOfMemory)) noted k = absurd (noted refl)
  by_output ready (Err stopped.DrawFault) noted k = inr (inr (inl (k.ends.0, draw_stopped ready k)))
  by_output ready (Err stopped.FileFault) noted k = inr (inr (inr (cut_write ready k)))
  by_output ready (Err stopped.OutOfMemory) noted k = absurd (noted refl)

  -- where there was no memory for it
  by_memory : (ready : Result Effect Refusal) (outcome : Result (Vec ℕ) Stopped) → Known outcome ready ws m before after → Leaves status.OutOfMemory ready ws m before after
  by_memory ready (Ok text) k = inl (all_first ready text k)
  by_memory ready (Err (stopped.Input (input.Refused r))) k = inl (none_first ready k.ends.1)
  by_memory ready (Err (stopped.Input input.FileFault)) k = inl (none_first ready k.ends)
  by_memory ready (Err (stopped.Input input.OutOfMemory)) k = inl (none_first ready k.ends)
  by_memory ready (Err stopped.DrawFault) k = inl (none_first ready k.ends.1)
  by_memory ready (Err stopped.FileFault) k = inr (write_failed ready k)
  by_memory ready (Err stopped.OutOfMemory) k = inl (some_first ready k)

  pub leaves : (ready : Result Effect Refusal) (outcome : Result (Vec ℕ) Stopped) (result : Status) → EndsAs (ended outcome) result → (ended outcome ≡ status.OutOfMemory → result ≡ status.OutOfMemory)
      → Known outcome ready ws m before after → Leaves result ready ws m before after
  leaves ready outcome result (inl is) quiet k = subst (λ own. Leaves own ready ws m before after) (sym is) (by_own ready outcome k)
  leaves ready outcome result (inr (inl is)) quiet k =
      subst (λ own. Leaves own ready ws m before after) (sym is) (by_output ready outcome (λ e. let both : status.OutputFault ≡ status.OutOfMemory = sym is ∙ quiet e in absurd cc) k)
  leaves ready outcome result (inr (inr is)) quiet k = subst (λ own. Leaves own ready ws m before after) (sym is) (by_memory ready outcome k)

-- ---- words

-- no more words were drawn than are the command's
pub takes_few : (outcome : Result (Vec ℕ) Stopped) (count : ℕ) (ws : List ℕ) (left : Option (List ℕ)) → Takes outcome count ws left → LeftAfter count ws left
takes_few (Ok text) count ws left took = (count, (omega arith, took))
takes_few (Err (stopped.Input s)) count ws left took = (0, (omega arith, took))
takes_few (Err stopped.FileFault) count ws left took = (count, (omega arith, took))
takes_few (Err stopped.DrawFault) count ws left took = took
takes_few (Err stopped.OutOfMemory) count ws left took = took

-- ---- other names

-- the names of files
abbrev pub named : List (List ℕ × List ℕ) → List (List ℕ)
named os = map (λ (o : List ℕ × List ℕ). o.0) os

keeps_same : (kept : List (List ℕ)) (m : FileMap) (now : Option FileMap) → now ≡ Some m → KeepsBut kept m now
keeps_same kept m now same = subst (λ k. KeepsBut kept m k) (sym same) (λ q other. refl)

keeps_more : (o : List ℕ × List ℕ) (os : List (List ℕ × List ℕ)) (m : FileMap) (now : Option FileMap) → KeepsBut (named os) (insert m o.0 o.1) now → KeepsBut (named (o ∷ os)) m now
keeps_more o os m now rest = but_then (Some m) (Some (insert m o.0 o.1)) now o.0 (named os) (but_one (Some m) (Some (insert m o.0 o.1)) o.0 (λ q other. insert_keeps m o.0 o.1 q other)) rest

all_keep : (os : List (List ℕ × List ℕ)) (m : FileMap) (now : Option FileMap) → now ≡ Some (put_all os m) → KeepsBut (named os) m now
unfolding put_all
all_keep [] m now is = keeps_same [] m now is
all_keep (o ∷ os) m now is = keeps_more o os m now (all_keep os (insert m o.0 o.1) now is)

some_keep : (os : List (List ℕ × List ℕ)) (m : FileMap) (now : Option FileMap) → PutsSome os m now → KeepsBut (named os) m now
unfolding PutsSome
some_keep [] m now is = keeps_same [] m now is
some_keep (o ∷ os) m now (inl first) = but_first (Some m) now o.0 (named os) (but_one (Some m) now o.0 first)
some_keep (o ∷ os) m now (inr rest) = keeps_more o os m now (some_keep os (insert m o.0 o.1) now rest)

first_keep : (count : ℕ) (os : List (List ℕ × List ℕ)) (m : FileMap) (now : Option FileMap) → now ≡ Some (put_all (take count os) m) → KeepsBut (named os) m now
unfolding put_all
first_keep zero [] m now is = keeps_same [] m now is
first_keep zero (o ∷ os) m now is = keeps_same (named (o ∷ os)) m now is
first_keep (suc count) [] m now is = keeps_same [] m now is
first_keep (suc count) (o ∷ os) m now is = keeps_more o os m now (first_keep count os (insert m o.0 o.1) now is)

names_are : (x : Effect) (ws : List ℕ) → named (outputs x ws) ≡ names (Ok x)
names_are x ws = map-map (λ (o : List ℕ × List ℕ). o.0) (λ (f : File). (f.0, f.1 ws)) x.files

own_names : (x : Effect) (ws : List ℕ) (m : FileMap) (now : Option FileMap) → KeepsBut (named (outputs x ws)) m now → KeepsBut (names (Ok x)) m now
own_names x ws m now keeps = subst (λ kept. KeepsBut kept m now) (names_are x ws) keeps

-- no name but the command's changed
pub keeps : (ready : Result Effect Refusal) (outcome : Result (Vec ℕ) Stopped) (ws : List ℕ) (m : FileMap) (now : Option FileMap) → Ends outcome ready ws m now → KeepsBut (names ready) m now
keeps (Ok x) (Ok text) ws m now ends = own_names x ws m now (all_keep (outputs x ws) m now ends.1)
keeps (Err r) (Ok text) ws m now ends = absurd ends
keeps ready (Err (stopped.Input (input.Refused r))) ws m now ends = keeps_same (names ready) m now ends.1
keeps ready (Err (stopped.Input input.FileFault)) ws m now ends = keeps_same (names ready) m now ends
keeps ready (Err (stopped.Input input.OutOfMemory)) ws m now ends = keeps_same (names ready) m now ends
keeps ready (Err stopped.DrawFault) ws m now ends = keeps_same (names ready) m now ends.1
keeps (Ok x) (Err stopped.FileFault) ws m now ends = own_names x ws m now (some_keep (outputs x ws) m now ends)
keeps (Err r) (Err stopped.FileFault) ws m now ends = absurd ends
keeps (Ok x) (Err stopped.OutOfMemory) ws m now ends = own_names x ws m now (first_keep ends.0 (outputs x ws) m now ends.1)
keeps (Err r) (Err stopped.OutOfMemory) ws m now ends = absurd ends
