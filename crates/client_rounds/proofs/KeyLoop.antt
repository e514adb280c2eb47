-- The loop that makes the keys of some trees.
use Rattle.std.proofs.Common.{◌≡◌, ℕ, suc, ◌+◌, ◌<◌, ◌≤◌, List, [], ◌∷◌, ◌++◌, length, get_or, drop, sym, ap, ap₂, ◌∙◌, append_assoc, add-one, arith, drop-cons}
use Rattle.std.proofs.lemmas.List.{append-nil, drop_all}
use Rattle.spl_words.specs.declared.provider.Provider.{Provider}
use Rattle.spl_words.specs.Secrets.{Secret}
use Rattle.seed_expansion.specs.Expanders.{Meaning}
use Rattle.key_frames.specs.declared.keys.Key.{Key}
use Rattle.key_frames.specs.Trees.{key_of, key_list}

module _ (e : Meaning) (p : Provider) (first : ℕ) (ss : List Secret) (rs : List (ℕ × ℕ)) where
  -- after i trees: the keys so far, and before those of the other trees
  pub record Made (i : ℕ) (keys : List Key) : Type 0 where
    pub same : keys ++ key_list e p (first + i) (drop i ss) (drop i rs) ≡ key_list e p first ss rs

  -- the key of a tree more
  pub made_next : (i : ℕ) (keys more : List Key) (s : Secret) (r d : ℕ × ℕ) → i < length ss → i < length rs → s ≡ get_or ss i s → r ≡ get_or rs i d
      → more ≡ keys ++ key_of s.kind e p (first + i) s r ∷ [] → Made i keys → Made (i + 1) more
  unfolding key_list
  made_next i keys more s r d inside there is at added made =
      let one : drop i ss ≡ s ∷ drop (suc i) ss = drop-cons ss i s inside ∙ ap (λ t. t ∷ drop (suc i) ss) (sym is) in
      let other : drop i rs ≡ r ∷ drop (suc i) rs = drop-cons rs i d there ∙ ap (λ t. t ∷ drop (suc i) rs) (sym at) in
      let tree : first + i + 1 ≡ first + (i + 1) = omega arith in
      record {
        same =
            ap (λ ks. ks ++ key_list e p (first + (i + 1)) (drop (i + 1) ss) (drop (i + 1) rs)) added
            ∙ (append_assoc keys (key_of s.kind e p (first + i) s r ∷ []) (key_list e p (first + (i + 1)) (drop (i + 1) ss) (drop (i + 1) rs))
            ∙ (ap (λ n. keys ++ (key_of s.kind e p (first + i) s r ∷ key_list e p n (drop (i + 1) ss) (drop (i + 1) rs))) (sym tree)
            ∙ (ap (λ n. keys ++ (key_of s.kind e p (first + i) s r ∷ key_list e p (first + i + 1) (drop n ss) (drop n rs))) (add-one i)
            ∙ (sym (ap₂ (λ xs ys. keys ++ key_list e p (first + i) xs ys) one other) ∙ made.same))));
      }

  -- all trees have their keys
  pub made_all : (i : ℕ) (keys : List Key) → length ss ≤ i → Made i keys → keys ≡ key_list e p first ss rs
  unfolding key_list
  made_all i keys all made =
      sym (append-nil keys) ∙ (sym (ap (λ xs. keys ++ key_list e p (first + i) xs (drop i rs)) (drop_all i ss all)) ∙ made.same)
