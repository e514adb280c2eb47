-- Sums of words, place by place.
use Rattle.std.proofs.Common.{◌≡◌, ℕ, ◌+◌, ◌<◌, Bool, true, false, List, [], ◌∷◌, ◌++◌, length, drop, get_or, Result, Ok, refl, sym, ap, ◌∙◌, add-one, append_assoc, arith}
use Rattle.std.specs.Prelude.{◌-◌, ◌^◌, ◌==◌, min}
use Rattle.std.specs.Str.{bytes_eq}
use Rattle.std.proofs.lemmas.List.{append-nil}
use Rattle.std.proofs.Math.Seq.{drop-cons, drop-length}
use Rattle.std.proofs.lemmas.Bool.{eqb-true, eq-eqb}
use Rattle.std.proofs.lemmas.Slice.Eq.{bytes_eq-Decides}
use Rattle.spl_words.specs.declared.provider.Provider.{Provider}
use Rattle.spl_words.specs.declared.provider.Provider.TheVariants.{Zero, One}
use Rattle.spl_words.specs.declared.differ.Differ.{Differ}
use Rattle.spl_words.specs.declared.differ.Differ.TheVariants.{Session, Round, Key, Words}
use Rattle.spl_words.specs.Words.{plus}
use Rattle.spl_words.specs.Results.{◌>>=◌}
use Rattle.key_frames.specs.declared.note.Note.{Note}
use Rattle.answer_frames.specs.declared.answer.AnswerFrame.{AnswerFrame}
use Rattle.combiner.specs.declared.combining.CombineFault.{CombineFault}
use Rattle.combiner.specs.Combining.{by_provider, key_of, agree, answers, added, combined}

-- one sum more behind those of the first i places
pub adds_more : (xs ys sums : List ℕ) (i : ℕ) → i < length xs → i < length ys → sums ++ added (drop i xs) (drop i ys) ≡ added xs ys
    → (sums ++ plus (get_or xs i 0) (get_or ys i 0) ∷ []) ++ added (drop (i + 1) xs) (drop (i + 1) ys) ≡ added xs ys
unfolding added
adds_more xs ys sums i a b e =
    rw append_assoc (rw (add-one) (rw (drop-cons xs i 0 a, drop-cons ys i 0 b) at e))

-- behind the last place nothing is left
pub adds_all : (xs ys sums : List ℕ) (i : ℕ) → length xs ≡ i → sums ++ added (drop i xs) (drop i ys) ≡ added xs ys → sums ≡ added xs ys
unfolding added
adds_all xs ys sums i end e = sym (append-nil sums) ∙ rw (sym end, drop-length xs) at e

pub length-added : (xs ys : List ℕ) (n : ℕ) → n ≡ length xs → n ≡ length ys → length (added xs ys) ≡ n
unfolding added
length-added [] ys n a b = sym a
length-added (x ∷ xs) [] n a b = absurd (omega (arith, a, b))
length-added (x ∷ xs) (y ∷ ys) n a b = let more = length-added xs ys (length xs) refl (omega (arith, a, b)) in omega (arith, more, a)

-- ---- answers that passed

-- four tests that passed
all_agreed : (s t u v : Bool) (a b c d : Differ) (x : Unit {0}) → (agree s a >>= (λ i. agree t b >>= (λ j. agree u c >>= (λ k. agree v d)))) ≡ Ok x → v ≡ true
all_agreed true true true true a b c d x e = refl
all_agreed true true true false a b c d x e = absurd cc
all_agreed true true false v a b c d x e = absurd cc
all_agreed true false u v a b c d x e = absurd cc
all_agreed false t u v a b c d x e = absurd cc

-- an answer that passed has as many words as expected
pub counted : (note : Note) (n : ℕ) (p : Provider) (a : AnswerFrame) (x : Unit {0}) → answers note n p a ≡ Ok x → length a.words ≡ n
unfolding answers
counted note n p a x e =
    sym (eqb-true n (length a.words) (all_agreed
    (note.session == a.session) (note.round == a.round) (bytes_eq (key_of note p) a.key) (n == length a.words)
    (Session note.session a.session) (Round note.round a.round) (Key p (key_of note p) a.key) (Words n (min (length a.words) (2 ^ 32 - 1)))
    x e))

-- two answers that agree with the note of a first round and with each other are combined
pub combined_agreed : (note : Note) (a b : AnswerFrame) (n : ℕ) → a.provider ≡ Zero → b.provider ≡ One → note.session ≡ a.session → note.session ≡ b.session → note.round ≡ a.round → note.round ≡ b.round
    → note.key_zero ≡ a.key → note.key_one ≡ b.key → n ≡ length a.words → n ≡ length b.words → a.table ≡ b.table → note.round ≡ 1 → combined note a b n ≡ Ok (added a.words b.words)
unfolding combined answers
combined_agreed note a b n pa pb sa sb ra rb ka kb la lb tables first =
    let s1 : (note.session == a.session) ≡ true = eq-eqb note.session a.session sa in
    let s2 : (note.session == b.session) ≡ true = eq-eqb note.session b.session sb in
    let r1 : (note.round == a.round) ≡ true = eq-eqb note.round a.round ra in
    let r2 : (note.round == b.round) ≡ true = eq-eqb note.round b.round rb in
    let k1 : bytes_eq note.key_zero a.key ≡ true = (bytes_eq-Decides note.key_zero a.key).1 ka in
    let k2 : bytes_eq note.key_one b.key ≡ true = (bytes_eq-Decides note.key_one b.key).1 kb in
    let w1 : (n == length a.words) ≡ true = eq-eqb n (length a.words) la in
    let w2 : (n == length b.words) ≡ true = eq-eqb n (length b.words) lb in
    let t : bytes_eq a.table b.table ≡ true = (bytes_eq-Decides a.table b.table).1 tables in
    let one : (note.round == 2) ≡ false = ap (λ (r : ℕ). r == 2) first in
    rw (pa, pb, s1, r1, k1, w1, s2, r2, k2, w2, t, one) refl

either : (p q : Provider) (a b : AnswerFrame) (next : AnswerFrame × AnswerFrame → Result (List ℕ) CombineFault) → (by_provider p q a b >>= next) ≡ (by_provider q p b a >>= next)
either Zero Zero a b next = refl
either Zero One a b next = refl
either One Zero a b next = refl
either One One a b next = refl

-- the answers may come in either order
pub combined_either : (note : Note) (a b : AnswerFrame) (n : ℕ) → combined note a b n ≡ combined note b a n
unfolding combined
combined_either note a b n = either a.provider b.provider a b _
