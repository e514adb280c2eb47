-- Words whose first one names no command.
use Rattle.std.proofs.Common.{◌≡◌, ◌≤◌, Bool, true, false, List, [], ◌∷◌, None, String, Global, length, map, get_or, codes, refl, subst, arith}
use Rattle.std.specs.Str.{bytes_eq}
use Rattle.std.specs.String.{string_bytes}
use Rattle.std.proofs.lemmas.Slice.Eq.{bytes_eq-Decides}
use Rattle.clap.specs.Words.{Text}
use Rattle.command_words.specs.Forms.{form_of, form_of_command}

-- a word that is none of the four names
pub record NamesNone (word : Text) : Type 0 where
  pub trace : word ≡ codes "trace" → ⊥
  pub keys : word ≡ codes "keys" → ⊥
  pub answer : word ≡ codes "answer" → ⊥
  pub combine : word ≡ codes "combine" → ⊥

not_true : (b : Bool) → (b ≡ true → ⊥) → b ≡ false
not_true true never = absurd (never refl)
not_true false never = refl

differ : (a b : Text) → (a ≡ b → ⊥) → bytes_eq a b ≡ false
differ a b never = not_true (bytes_eq a b) (λ e. never ((bytes_eq-Decides a b).0 e))

no_command : (word : Text) (words : List Text) → NamesNone word → form_of_command word words ≡ None
no_command word words none = rw (differ word (codes "trace") none.trace, differ word (codes "keys") none.keys, differ word (codes "answer") none.answer, differ word (codes "combine") none.combine) refl

pub no_form : (words : List (String Global)) (first : String Global) (word : Text) → 1 ≤ length words → first ≡ get_or words 0 first → word ≡ string_bytes first → NamesNone word → form_of (map string_bytes words) ≡ None
unfolding form_of
no_form [] first word some is text none = absurd (omega arith)
no_form (w ∷ more) first word some is text none =
    no_command (string_bytes w) (map string_bytes (w ∷ more)) (subst (λ s. NamesNone (string_bytes s)) is (subst NamesNone text none))
