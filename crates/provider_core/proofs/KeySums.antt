-- The sums of a fold under several keys, one key after another.
use Rattle.std.proofs.Common.{◌≡◌, ◌<◌, ◌≤◌, ◌+◌, ◌*◌, ◌%◌, ◌^◌, ℕ, List, [], ◌∷◌, ◌++◌, length, take, refl, sym, ap, ◌∙◌, arith, get_or, slice_index, add_assoc, zero-add, length-take}
use Rattle.std.specs.Prelude.{sum_by}
use Rattle.std.proofs.lemmas.List.{take_more, take_all}
use Rattle.std.proofs.lemmas.List.Sums.{sum_by-cons}
use Rattle.std.proofs.Math.Nat.{add-mul, zero-mul, add-zero, mod-eq_of_lt}
use Rattle.spl_words.specs.Words.{plus}
use Rattle.spl_words.specs.Folds.{Gains, IsFold}
use Rattle.spl_words.specs.declared.provider.Provider.{Provider}
use Rattle.seed_expansion.specs.Expanders.{Meaning}
use Rattle.key_frames.specs.declared.keys.Key.{Key}
use Rattle.key_frames.specs.Trees.{key_share, key_shares}

-- word k of each share times its cell, not yet taken modulo 2^64
abbrev sum : (ℕ → ℕ) → List (ℕ × List ℕ) → ℕ → ℕ
sum f entries k = sum_by (λ (p : ℕ × List ℕ). f p.0 * slice_index p.1 k) entries

-- the words of a sum of two functions are the sums of their words
sum-add : (f g h : ℕ → ℕ) (entries : List (ℕ × List ℕ)) (k : ℕ) → ((x : ℕ) → h x ≡ f x + g x) → sum h entries k ≡ sum f entries k + sum g entries k
sum-add f g h [] k same = refl
sum-add f g h (p ∷ ps) k same =
    let w = slice_index p.1 k in
    let here : h p.0 * w ≡ f p.0 * w + g p.0 * w = ap (λ s. s * w) (same p.0) ∙ add-mul (f p.0) (g p.0) w in
    let more = sum-add f g h ps k same in
    let hs = sum_by-cons (λ (q : ℕ × List ℕ). h q.0 * slice_index q.1 k) p ps in
    let fs = sum_by-cons (λ (q : ℕ × List ℕ). f q.0 * slice_index q.1 k) p ps in
    let gs = sum_by-cons (λ (q : ℕ × List ℕ). g q.0 * slice_index q.1 k) p ps in
    omega (arith, here, more, hs, fs, gs)

module _ (e : Meaning) (p : Provider) where
  -- one key more
  shares-push : (tree : ℕ) (ks : List Key) (k : Key) (x : ℕ) → key_shares e p tree (ks ++ k ∷ []) x ≡ key_shares e p tree ks x + key_share e p (tree + length ks) k x
  unfolding key_shares
  shares-push tree [] k x = add-zero (key_share e p tree k x) ∙ ap (λ t. key_share e p t k x) (sym (add-zero tree)) ∙ sym (zero-add (key_share e p (tree + 0) k x))
  shares-push tree (k' ∷ ks) k x =
      let more = shares-push (tree + 1) ks k x in
      let place : (tree + 1) + length ks ≡ tree + length (k' ∷ ks) = omega arith in
      ap (λ n. key_share e p tree k' x + n) (more ∙ ap (λ n. key_shares e p (tree + 1) ks x + key_share e p n k x) place)
      ∙ sym (add_assoc (key_share e p tree k' x) (key_shares e p (tree + 1) ks x) (key_share e p (tree + length (k' ∷ ks)) k x))

  shares_more : (keys : List Key) (i : ℕ) (k : Key) (x : ℕ) → i < length keys → k ≡ get_or keys i k
      → key_shares e p 0 (take (i + 1) keys) x ≡ key_shares e p 0 (take i keys) x + key_share e p i k x
  shares_more keys i k x h is =
      let long : 0 + length (take i keys) ≡ i = omega (arith, length-take i keys) in
      ap (λ ks. key_shares e p 0 ks x) (take_more keys i k h ∙ ap (λ y. take i keys ++ y ∷ []) (sym is)) ∙ shares-push 0 (take i keys) k x
      ∙ ap (λ n. key_shares e p 0 (take i keys) x + key_share e p n k x) long

  no_sum : (entries : List (ℕ × List ℕ)) (k : ℕ) → sum (key_shares e p 0 []) entries k ≡ 0
  unfolding key_shares
  no_sum [] k = refl
  no_sum (q ∷ qs) k = sum_by-cons (λ (r : ℕ × List ℕ). key_shares e p 0 [] r.0 * slice_index r.1 k) q qs ∙ (let less = no_sum qs k in omega (arith, less, zero-mul (slice_index q.1 k)))

  -- no key adds nothing
  pub no_key : (entries : List (ℕ × List ℕ)) (words : List ℕ) (width : ℕ) → ((k : ℕ) → slice_index words k < 2 ^ 64) → Gains (key_shares e p 0 []) entries width words words
  no_key entries words width below = record {
    each = λ k h. sym (ap (λ n. plus (slice_index words k) (n % 2 ^ 64)) (no_sum entries k) ∙ (ap (λ n. n % 2 ^ 64) (add-zero (slice_index words k)) ∙ mod-eq_of_lt (below k)));
  }

  two_added : (w a b : ℕ) → plus (plus w (a % 2 ^ 64)) (b % 2 ^ 64) ≡ plus w ((a + b) % 2 ^ 64)
  two_added w a b = omega arith

  -- the sums under one key more
  pub key_more : (keys : List Key) (i : ℕ) (k : Key) (entries : List (ℕ × List ℕ)) (width : ℕ) (first old part new : List ℕ) → i < length keys → k ≡ get_or keys i k
      → Gains (key_shares e p 0 (take i keys)) entries width first old → IsFold (key_share e p i k) entries width part
      → ((j : ℕ) → j < width → slice_index new j ≡ plus (slice_index old j) (slice_index part j)) → Gains (key_shares e p 0 (take (i + 1) keys)) entries width first new
  key_more keys i k entries width first old part new h is gains fold sums = record {
    each = λ j b.
        let a = sum (key_shares e p 0 (take i keys)) entries j in
        let c = sum (key_share e p i k) entries j in
        let both = sum-add (key_shares e p 0 (take i keys)) (key_share e p i k) (key_shares e p 0 (take (i + 1) keys)) entries j (λ x. shares_more keys i k x h is) in
        sums j b ∙ ap (λ n. plus n (slice_index part j)) (gains.each j b) ∙ ap (plus (plus (slice_index first j) (a % 2 ^ 64))) (fold.each j b)
        ∙ two_added (slice_index first j) a c ∙ ap (λ n. plus (slice_index first j) (n % 2 ^ 64)) (sym both);
  }

  -- all keys
  pub all_keys : (keys : List Key) (i : ℕ) (entries : List (ℕ × List ℕ)) (width : ℕ) (first words : List ℕ) → length keys ≤ i → Gains (key_shares e p 0 (take i keys)) entries width first words
      → Gains (key_shares e p 0 keys) entries width first words
  all_keys keys i entries width first words h gains = rw (take_all i keys h) at gains
