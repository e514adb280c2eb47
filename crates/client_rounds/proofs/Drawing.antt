-- Words that are drawn in several steps.
use Rattle.std.proofs.Common.{◌≡◌, ℕ, suc, ◌+◌, ◌-◌, ◌*◌, ◌≤◌, ◌<◌, List, [], ◌∷◌, ◌++◌, drop, Option, Some, None, refl, sym, ap, subst, ◌∙◌, append_assoc, arith}
use Rattle.std.specs.Prelude.{IfSome}
use Rattle.std.proofs.lemmas.List.{append-nil, drop-drop}
use Rattle.spl_outside.specs.Content.{LeftAfter, first_or_zero}
use Rattle.session_model.specs.Draws.{tree_roots, roots_of}

-- some more of the words behind others
later : (i most all : ℕ) (words : List ℕ) (left : Option (List ℕ)) → i + most ≤ all → LeftAfter most (drop i words) left → LeftAfter all words left
later i most all words left fits l = (i + l.0, (omega (arith, l.1.0), l.1.1 ∙ ap (λ (ws : List ℕ). Some ws) (drop-drop l.0 i words)))

-- nothing was drawn yet
pub none_drawn : (most : ℕ) (o : Option (List ℕ)) → IfSome o (λ ws. LeftAfter most ws o)
none_drawn most None = tt
none_drawn most (Some ws) = (0, (omega arith, refl))

-- the first step drew its words, and the second was refused
pub refused_second : {A : Type 0} (value : List ℕ → A) (x : A) (a b all : ℕ) (o mid left : Option (List ℕ)) → a + b ≤ all
    → IfSome o (λ ws. (x ≡ value ws) × (mid ≡ Some (drop a ws))) → IfSome mid (λ ws. LeftAfter b ws left) → IfSome o (λ ws. LeftAfter all ws left)
refused_second value x a b all None mid left fits first second = tt
refused_second value x a b all (Some ws) mid left fits first second =
    later a b all ws left fits (subst (λ m. IfSome m (λ vs. LeftAfter b vs left)) first.1 second)

-- a word was drawn, and the next one was not
pub refused_word : (x : ℕ) (o mid left : Option (List ℕ)) → IfSome o (λ ws. (x ≡ first_or_zero ws) × (mid ≡ Some (drop 1 ws))) → IfSome mid (λ ws. left ≡ Some ws) → IfSome o (λ ws. LeftAfter 2 ws left)
refused_word x None mid left first second = tt
refused_word x (Some ws) mid left first second = (1, (omega arith, subst (λ m. IfSome m (λ vs. left ≡ Some vs)) first.1 second))

-- ---- the roots of trees, one tree after another

-- after i of n trees
pub record Drew (words : List ℕ) (n i : ℕ) (now : Option (List ℕ)) (got : List (ℕ × ℕ)) : Type 0 where
  pub left : now ≡ Some (drop (4 * i) words)
  pub same : got ++ roots_of (n - i) (drop (4 * i) words) ≡ roots_of n words

four_more : (i : ℕ) (words : List ℕ) → drop 4 (drop (4 * i) words) ≡ drop (4 * (i + 1)) words
four_more i words = drop-drop 4 (4 * i) words ∙ ap (λ (n : ℕ). drop n words) (omega arith)

next_tree : (words : List ℕ) (n i : ℕ) (now : Option (List ℕ)) (got more : List (ℕ × ℕ)) (tree : ℕ × ℕ) → i < n → more ≡ got ++ tree ∷ [] → Drew words n i (Some (drop (4 * i) words)) got
    → tree ≡ tree_roots (drop (4 * i) words) → now ≡ Some (drop 4 (drop (4 * i) words)) → Drew words n (i + 1) now more
unfolding roots_of
next_tree words n i now got more tree lt added d is left =
    let k : n - i ≡ suc (n - (i + 1)) = omega arith in
    record {
      left = left ∙ ap (λ (ws : List ℕ). Some ws) (four_more i words);
      same = rw (added, is, append_assoc) (ap (λ (ws : List ℕ). got ++ (tree_roots (drop (4 * i) words) ∷ roots_of (n - (i + 1)) ws)) (sym (four_more i words)) ∙ sym (ap (λ (m : ℕ). got ++ roots_of m (drop (4 * i) words)) k) ∙ d.same);
    }

pub drew_next : (o before now : Option (List ℕ)) (n i : ℕ) (got more : List (ℕ × ℕ)) (tree : ℕ × ℕ) → i < n → more ≡ got ++ tree ∷ [] → IfSome o (λ ws. Drew ws n i before got)
    → IfSome before (λ ws. (tree ≡ tree_roots ws) × (now ≡ Some (drop 4 ws))) → IfSome o (λ ws. Drew ws n (i + 1) now more)
drew_next None before now n i got more tree lt added d h = tt
drew_next (Some ws) before now n i got more tree lt added d h =
    let next = subst (λ (b : Option (List ℕ)). IfSome b (λ vs. (tree ≡ tree_roots vs) × (now ≡ Some (drop 4 vs)))) d.left h in
    next_tree ws n i now got more tree lt added (record { left = refl; same = d.same }) next.0 next.1

-- a tree's words were drawn, and no more
pub drew_one : (o before now : Option (List ℕ)) (n i : ℕ) (got : List (ℕ × ℕ)) (tree : ℕ × ℕ) → i < n → IfSome o (λ ws. Drew ws n i before got)
    → IfSome before (λ ws. (tree ≡ tree_roots ws) × (now ≡ Some (drop 4 ws))) → IfSome o (λ ws. LeftAfter (4 * n) ws now)
drew_one None before now n i got tree lt d h = tt
drew_one (Some ws) before now n i got tree lt d h =
    let next = subst (λ (b : Option (List ℕ)). IfSome b (λ vs. (tree ≡ tree_roots vs) × (now ≡ Some (drop 4 vs)))) d.left h in
    (4 * (i + 1), (omega (arith, lt), next.1 ∙ ap (λ (vs : List ℕ). Some vs) (four_more i ws)))

-- all trees have their roots
pub drew_all : (o now : Option (List ℕ)) (n i : ℕ) (got : List (ℕ × ℕ)) → n ≤ i → i ≤ n → IfSome o (λ ws. Drew ws n i now got)
    → IfSome o (λ ws. (got ≡ roots_of n ws) × (now ≡ Some (drop (4 * n) ws)))
unfolding roots_of
drew_all None now n i got le ge d = tt
drew_all (Some ws) now n i got le ge d =
    let none : n - i ≡ 0 = omega arith in
    let all : i ≡ n = omega arith in
    (sym (append-nil got) ∙ sym (ap (λ (m : ℕ). got ++ roots_of m (drop (4 * i) ws)) none) ∙ d.same, d.left ∙ ap (λ (m : ℕ). Some (drop (4 * m) ws)) all)
