-- A word that was written is read again.
use Rattle.std.proofs.Common.{◌≡◌, ℕ, ◌+◌, true, List, [], ◌∷◌, ◌++◌, length, cond, refl, ◌∙◌, ap, arith}
use Rattle.std.proofs.lemmas.List.Sums.{take_while-cons}
use Rattle.std.specs.List.{take_while, list_all}
use Rattle.spl_values.specs.Names.{is_name_byte}
use Rattle.query_tokens.specs.Tokens.{lexed, EndsWord}
use Rattle.query_grammar.proofs.AtomLists.{both}

ends : (rest : List ℕ) → EndsWord rest → take_while is_name_byte rest ≡ []
ends [] e = refl
ends (b ∷ bs) e = take_while-cons is_name_byte b bs ∙ ap (λ t. cond t (b ∷ take_while is_name_byte bs) []) e

-- the word is all that is taken
pub whole_word : (w rest : List ℕ) → list_all is_name_byte w ≡ true → EndsWord rest → take_while is_name_byte (w ++ rest) ≡ w
whole_word [] rest all e = ends rest e
whole_word (b ∷ w) rest all e =
    let h = both (is_name_byte b) (list_all is_name_byte w) all in
    take_while-cons is_name_byte b (w ++ rest) ∙ ap (λ t. cond t (b ∷ take_while is_name_byte (w ++ rest)) []) h.0 ∙ ap (λ l. b ∷ l) (whole_word w rest h.1 e)

-- passing the bytes of a token
pub passes : (w rest : List ℕ) (at : ℕ) → lexed (length w) at (w ++ rest) ≡ lexed 0 (at + length w) rest
passes [] rest at = ap (λ n. lexed 0 n rest) (omega arith)
passes (b ∷ w) rest at = passes w rest (at + 1) ∙ ap (λ n. lexed 0 n rest) (omega arith)
