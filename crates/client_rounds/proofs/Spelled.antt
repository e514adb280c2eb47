-- The bytes of a first round are those of its key frames and of its note.
use Rattle.std.proofs.Common.{◌≡◌, ℕ, zero, suc, ◌+◌, ◌^◌, ◌<◌, ◌≤◌, Bool, true, false, not, cond, nat_le, List, [], ◌∷◌, ◌++◌, length, map, drop, get_or, replicate, Some, None, unwrap_or, refl, arith}
use Rattle.std.specs.List.{AllByRecursion, AllZip, list_all, range_with_len}
use Rattle.std.specs.Int.{w32, to_be_bytes}
use Rattle.std.proofs.Math.Nat.{pow-le-pow_right}
use Rattle.std.proofs.lemmas.Nat.{xor_lt}
use Rattle.std.proofs.lemmas.Bool.Decides.{nat_tests}
use Rattle.std.proofs.lemmas.List.Elements.{recursion_from_All}
use Rattle.sha2.specs.Sha256.{sha256, digest_bytes}
use Rattle.sha2.proofs.Facts256.{length-sha256}
use Rattle.spl_outside.specs.Content.{first_or_zero}
use Rattle.spl_words.specs.declared.provider.Provider.{Provider}
use Rattle.spl_words.specs.declared.provider.Provider.TheVariants.{Zero, One}
use Rattle.spl_words.specs.declared.secret.TreeKind.{TreeKind}
use Rattle.spl_words.specs.declared.secret.TreeKind.TheVariants.{Point, Threshold}
use Rattle.spl_words.specs.Secrets.{Secret}
use Rattle.spl_values.specs.declared.kinds.ColumnType.{ColumnType}
use Rattle.spl_values.specs.declared.kinds.ColumnType.TheVariants as column
use Rattle.spl_values.specs.Kinds.{is_kind, bits_of, is_printable}
use Rattle.spl_values.specs.Shapes.{ColumnParts, ShapeParts, IsColumn}
use Rattle.spl_values.specs.Tables.{column_bits}
use Rattle.spl_values.proofs.CodeLaws.{number_bits, text_bytes}
use Rattle.seed_expansion.specs.declared.nodes.Node.{Node}
use Rattle.seed_expansion.specs.Expanders.{Meaning}
use Rattle.seed_expansion.specs.Walk.{corrections, correction, correction_of, path, seed_at, side, place}
use Rattle.seed_expansion.specs.Leaves.{last_word, last_of}
use Rattle.point_keys.specs.Points.{point_keys}
use Rattle.interval_keys.specs.Thresholds.{threshold_keys, levels, level_of, level_between}
use Rattle.frame_fields.specs.Typed.{IsBytes}
use Rattle.frame_fields.proofs.Laws.{wide32}
use Rattle.query_grammar.proofs.AtomLists.{both}
use Rattle.query_tokens.specs.Printing.{canonical_text}
use Rattle.query_reader.specs.declared.checked.Checked.{Checked}
use Rattle.query_reader.specs.Params.{HasBits, param_columns}
use Rattle.key_frames.specs.Keys.{CorrectionTyped, LevelTyped, KeyTyped}
use Rattle.key_frames.specs.Frames.{KeyFrameOf}
use Rattle.key_frames.specs.Notes.{NoteOf}
use Rattle.private_plan.specs.Rounds.{first_round, secrets_in}
use Rattle.session_model.specs.Draws.{wide, roots_of}
use Rattle.key_frames.specs.Trees.{key_of, key_list}
use Rattle.session_model.specs.Sessions.{session_roots, key_frame, key_bytes, note, note_bytes}
use Rattle.client_rounds.specs.WellPut.{IsWellPut}
use Rattle.client_rounds.specs.Expanding.{GivesSeeds}
use Rattle.client_rounds.proofs.Printable.{Printable, text_prints}
use Rattle.client_rounds.proofs.Written.{key_frame_allowed, note_allowed}

-- ---- words

abbrev pub AreWords : List ℕ → Type 0
AreWords words = AllByRecursion (λ w. w < 2 ^ 64) words

drop_words : (i : ℕ) (words : List ℕ) → AreWords words → AreWords (drop i words)
drop_words zero words h = h
drop_words (suc i) [] h = tt
drop_words (suc i) (w ∷ words) h = drop_words i words h.1

first_small : (words : List ℕ) → AreWords words → first_or_zero words < 2 ^ 64
first_small [] h = omega arith
first_small (w ∷ words) h = h.0

pub wide_small : (words : List ℕ) → AreWords words → wide words < 2 ^ 128
wide_small words h =
    let high = first_small (drop 0 words) (drop_words 0 words h) in
    let low = first_small (drop 1 words) (drop_words 1 words h) in
    omega (arith, high, low)

-- both roots have 128 bits
record AreSeeds (roots : ℕ × ℕ) : Type 0 where
  zero_fits : roots.0 < 2 ^ 128
  one_fits : roots.1 < 2 ^ 128

roots_small : (n : ℕ) (words : List ℕ) → AreWords words → AllByRecursion AreSeeds (roots_of n words)
unfolding roots_of
roots_small zero words h = tt
roots_small (suc n) words h =
    (record { zero_fits = wide_small words h; one_fits = wide_small (drop 2 words) (drop_words 2 words h) }, roots_small n (drop 4 words) (drop_words 4 words h))

-- ---- keys

each_mapped : {A : Type 0} (P : A → Type 0) (f : ℕ → A) → ((i : ℕ) → P (f i)) → (is : List ℕ) → AllByRecursion P (map f is)
each_mapped P f each [] = tt
each_mapped P f each (i ∷ is) = (each i, each_mapped P f each is)

last_small : (goal : ℕ) (t0 t1 : Bool) (w0 w1 : ℕ) → last_word goal t0 t1 w0 w1 < 2 ^ 64
unfolding last_word
last_small goal t0 t1 w0 w1 = omega arith

module _ (e : Meaning) (gives : GivesSeeds e) (tree : ℕ) (s : Secret) (roots : ℕ × ℕ) where
  seed_small : (d : Bool) (p : Provider) (i seed : ℕ) → seed_at d (e.block (place tree p s.depth s.alpha i) seed) < 2 ^ 128
  seed_small false p i seed = gives.left _ seed
  seed_small true p i seed = gives.right _ seed

  correction_small : (i : ℕ) (n : Node × Node) → CorrectionTyped (correction_of e tree s i n)
  unfolding correction_of correction
  correction_small i n =
      let d = not (side s.depth s.alpha i) in
      xor_lt 128 (seed_at d (e.block (place tree Zero s.depth s.alpha i) n.0.seed)) (seed_at d (e.block (place tree One s.depth s.alpha i) n.1.seed))
      (seed_small d Zero i n.0.seed) (seed_small d One i n.1.seed)

  level_small : (i : ℕ) (n : Node × Node) → LevelTyped (level_of e tree s i n)
  unfolding level_of level_between correction_of
  level_small i n = record { correction = correction_small i n; word_l = last_small _ _ _ _ _; word_r = last_small _ _ _ _ _ }

  corrections_small : (n : ℕ) → AllByRecursion CorrectionTyped (corrections e tree s roots n)
  unfolding corrections
  corrections_small n = each_mapped CorrectionTyped (λ i. correction_of e tree s i (path e tree s roots i)) (λ i. correction_small i (path e tree s roots i)) (range_with_len 0 n)

  levels_small : (n : ℕ) → AllByRecursion LevelTyped (levels e tree s roots n)
  unfolding levels
  levels_small n = each_mapped LevelTyped (λ i. level_of e tree s i (path e tree s roots i)) (λ i. level_small i (path e tree s roots i)) (range_with_len 0 n)

  end_small : (n : ℕ) (nodes : Node × Node) → last_of e tree s n nodes < 2 ^ 64
  unfolding last_of
  end_small n nodes = last_small _ _ _ _ _

  key_small : (kind : TreeKind) (p : Provider) → AreSeeds roots → KeyTyped (key_of kind e p tree s roots)
  unfolding point_keys threshold_keys
  key_small Point Zero h = record { root = h.zero_fits; levels = corrections_small s.depth; last = end_small s.depth (path e tree s roots s.depth) }
  key_small Point One h = record { root = h.one_fits; levels = corrections_small s.depth; last = end_small s.depth (path e tree s roots s.depth) }
  key_small Threshold Zero h = record { root = h.zero_fits; levels = levels_small s.depth; last = end_small s.depth (path e tree s roots s.depth) }
  key_small Threshold One h = record { root = h.one_fits; levels = levels_small s.depth; last = end_small s.depth (path e tree s roots s.depth) }

keys_small : (e : Meaning) → GivesSeeds e → (p : Provider) (tree : ℕ) (ss : List Secret) (rs : List (ℕ × ℕ)) → AllByRecursion AreSeeds rs → AllByRecursion KeyTyped (key_list e p tree ss rs)
unfolding key_list
keys_small e gives p tree [] rs h = tt
keys_small e gives p tree (s ∷ ss) [] h = tt
keys_small e gives p tree (s ∷ ss) (r ∷ rs) h = (key_small e gives tree s r s.kind p h.0, keys_small e gives p (tree + 1) ss rs h.1)

-- ---- bytes

printable_small : (b : ℕ) → is_printable b ≡ true → b < 256
printable_small b h = grind (arith, nat_tests)

printable_bytes : (bytes : List ℕ) → Printable bytes → IsBytes bytes
printable_bytes [] h i = omega arith
printable_bytes (b ∷ bs) h zero = printable_small b (both (is_printable b) (list_all is_printable bs) h).0
printable_bytes (b ∷ bs) h (suc i) = printable_bytes bs (both (is_printable b) (list_all is_printable bs) h).1 i

bytes_both : (xs ys : List ℕ) → IsBytes xs → IsBytes ys → IsBytes (xs ++ ys)
bytes_both [] ys a b i = b i
bytes_both (x ∷ xs) ys a b zero = a 0
bytes_both (x ∷ xs) ys a b (suc i) = bytes_both xs ys (λ j. a (suc j)) b i

digest_small : (h : List ℕ) (n : ℕ) → IsBytes (digest_bytes h n)
unfolding digest_bytes
digest_small h zero i = omega arith
digest_small h (suc n) i = bytes_both (digest_bytes h n) (to_be_bytes w32 (get_or h n 0)) (digest_small h n) (wide32.are (get_or h n 0)) i

pub sha256_small : (message : List ℕ) → IsBytes (sha256 message)
unfolding sha256
sha256_small message = digest_small _ 8

zeros_small : (n : ℕ) → IsBytes (replicate n 0)
zeros_small zero i = omega arith
zeros_small (suc n) zero = omega arith
zeros_small (suc n) (suc i) = zeros_small n i

-- ---- parameters

label_small : (a b c d e : Bool) → unwrap_or (cond a (Some 1) (cond b (Some 2) (cond c (Some 3) (cond d (Some 4) (cond e (Some 5) None))))) 6 ≤ 128
label_small true b c d e = omega arith
label_small false true c d e = omega arith
label_small false false true d e = omega arith
label_small false false false true e = omega arith
label_small false false false false true = omega arith
label_small false false false false false = omega arith

kind_small : (k : ColumnType) → is_kind k ≡ true → bits_of k ≤ 128
kind_small (column.Uint b) h = let some = number_bits b h in omega (arith, some)
kind_small (column.Text k) h = let some = text_bytes k h in omega (arith, some)
kind_small (column.Enum labels) h =
    let n = length labels in
    label_small (nat_le n 2) (nat_le n 4) (nat_le n 8) (nat_le n 16) (nat_le n 32)

columns_small : (columns : List ColumnParts) → AllByRecursion IsColumn columns → (i : ℕ) → column_bits columns i ≤ 128
unfolding column_bits
columns_small [] h i = omega arith
columns_small (c ∷ cs) h zero = kind_small c.kind h.0.typed
columns_small (c ∷ cs) h (suc i) = columns_small cs h.1 i

code_small : (columns : List ColumnParts) → AllByRecursion IsColumn columns → (i code : ℕ) → HasBits columns i code → code < 2 ^ 128
code_small columns h i code below = let most = pow-le-pow_right {n = 2} (omega arith) (columns_small columns h i) in omega (arith, below, most)

codes_small : (columns : List ColumnParts) → AllByRecursion IsColumn columns → (is codes : List ℕ) → AllZip (HasBits columns) is codes → AllByRecursion (λ c. c < 2 ^ 128) codes
codes_small columns h [] [] z = tt
codes_small columns h [] (c ∷ cs) z = absurd z
codes_small columns h (i ∷ is) [] z = absurd z
codes_small columns h (i ∷ is) (c ∷ cs) z = (code_small columns h i c z.0, codes_small columns h is cs z.1)

-- ---- frames and notes

pub frame_spelled : (e : Meaning) → GivesSeeds e → (p : Provider) (checked : Checked) (shape : ShapeParts) (params words : List ℕ) → IsWellPut checked shape params → AreWords words
    → KeyFrameOf (key_bytes e p checked shape params words) (key_frame e p checked shape params words)
unfolding key_bytes
frame_spelled e gives p checked shape params words asked are =
    let secrets = secrets_in checked shape params first_round in
    record {
      allowed = key_frame_allowed e p checked shape params words asked;
      typed = record {
        session = wide_small words are;
        query = printable_bytes (canonical_text checked.query) (text_prints checked.query asked.form);
        shape = asked.valid;
        keys = keys_small e gives p 0 secrets (session_roots secrets words) (roots_small (length secrets) (drop 2 words) (drop_words 2 words are));
      };
      spelled = refl;
    }

pub note_spelled : (e : Meaning) (checked : Checked) (shape : ShapeParts) (params words : List ℕ) → IsWellPut checked shape params → length params ≤ 255 → AreWords words
    → NoteOf (note_bytes e checked shape params words) (note e checked shape params words)
unfolding note_bytes
note_spelled e checked shape params words asked few are =
    let zero_bytes = key_bytes e Zero checked shape params words in
    let one_bytes = key_bytes e One checked shape params words in
    record {
      allowed = note_allowed e checked shape params words asked few;
      typed = record {
        session = wide_small words are;
        query = printable_bytes (canonical_text checked.query) (text_prints checked.query asked.form);
        shape = asked.valid;
        params = codes_small shape.schema.columns (recursion_from_All IsColumn shape.schema.columns asked.valid.schema.columns) (param_columns checked) params asked.known.below;
        key_zero = (length-sha256 zero_bytes, sha256_small zero_bytes);
        key_one = (length-sha256 one_bytes, sha256_small one_bytes);
        table = (refl, zeros_small 32);
      };
      spelled = refl;
    }
