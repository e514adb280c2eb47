-- The trees of keys, and what the shares of both providers add to.
use Rattle.std.proofs.Common.{◌≡◌, ℕ, zero, suc, ◌+◌, ◌*◌, ◌%◌, ◌^◌, ◌<◌, List, [], ◌∷◌, length, refl, sym, ap, ap₂, ◌∙◌, arith}
use Rattle.std.specs.Prelude.{map, sum_by, slice_index}
use Rattle.std.specs.List.{AllByRecursion}
use Rattle.std.proofs.Math.Nat.{add-mul}
use Rattle.std.proofs.lemmas.Nat.{mul-mod_first}
use Rattle.std.proofs.lemmas.List.Sums.{sum_by-cons}
use Rattle.spl_words.specs.Words.{plus}
use Rattle.spl_words.specs.Folds.{fold_word}
use Rattle.spl_words.specs.Secrets.{Secret, IsSecret, point_value, threshold_value, secret_tree, secret_value, secrets_value}
use Rattle.spl_words.specs.declared.provider.Provider.{Provider}
use Rattle.spl_words.specs.declared.provider.Provider.TheVariants.{Zero, One}
use Rattle.spl_words.specs.declared.secret.TreeKind.{TreeKind}
use Rattle.spl_words.specs.declared.secret.TreeKind.TheVariants.{Point, Threshold}
use Rattle.seed_expansion.specs.Expanders.{Meaning, IsPure}
use Rattle.seed_expansion.proofs.Walk.{length-corrections}
use Rattle.point_keys.specs.Points.{point_keys}
use Rattle.point_keys.proofs.PointLaw.{point_shares_add}
use Rattle.interval_keys.specs.Thresholds.{threshold_keys}
use Rattle.interval_keys.proofs.ThresholdLaw.{length-levels, threshold_shares_add}
use Rattle.key_frames.specs.Trees.{key_tree, key_of, key_list, key_share, key_shares}

-- ---- the trees of keys

-- a key has as many levels as its tree is deep
tree_same : (kind : TreeKind) (e : Meaning) (p : Provider) (tree : ℕ) (s : Secret) (roots : ℕ × ℕ) → key_tree (key_of kind e p tree s roots) ≡ record { kind = kind; depth = s.depth }
unfolding point_keys threshold_keys
tree_same Point e Zero tree s roots = ap (λ n. record { kind = Point; depth = n }) (length-corrections e tree s roots s.depth)
tree_same Point e One tree s roots = ap (λ n. record { kind = Point; depth = n }) (length-corrections e tree s roots s.depth)
tree_same Threshold e Zero tree s roots = ap (λ n. record { kind = Threshold; depth = n }) (length-levels e tree s roots s.depth)
tree_same Threshold e One tree s roots = ap (λ n. record { kind = Threshold; depth = n }) (length-levels e tree s roots s.depth)

pub depth_same : (kind : TreeKind) (e : Meaning) (p : Provider) (tree : ℕ) (s : Secret) (roots : ℕ × ℕ) → (key_tree (key_of kind e p tree s roots)).depth ≡ s.depth
depth_same kind e p tree s roots = ap (λ t. t.depth) (tree_same kind e p tree s roots)

pub trees_same : (e : Meaning) (p : Provider) (tree : ℕ) (ss : List Secret) (rs : List (ℕ × ℕ)) → length rs ≡ length ss → map key_tree (key_list e p tree ss rs) ≡ map secret_tree ss
unfolding key_list
trees_same e p tree [] rs same = refl
trees_same e p tree (s ∷ ss) [] same = absurd (omega (arith, same))
trees_same e p tree (s ∷ ss) (r ∷ rs) same = ap₂ (λ t ts. t ∷ ts) (tree_same s.kind e p tree s r) (trees_same e p (tree + 1) ss rs (omega (arith, same)))

-- ---- shares at a number

settled : (a b v : ℕ) → plus a b ≡ v → (a + b) % 2 ^ 64 ≡ v % 2 ^ 64
settled a b v e = omega (arith, e)

both : (a b v r s w : ℕ) → (a + b) % 2 ^ 64 ≡ v % 2 ^ 64 → (r + s) % 2 ^ 64 ≡ w % 2 ^ 64 → ((a + r) + (b + s)) % 2 ^ 64 ≡ (v + w) % 2 ^ 64
both a b v r s w e f = omega (arith, e, f)

point_is : (s : Secret) (x : ℕ) → s.kind ≡ Point → secret_value s x ≡ point_value s.alpha s.beta x
point_is s x is = rw is refl

threshold_is : (s : Secret) (x : ℕ) → s.kind ≡ Threshold → secret_value s x ≡ threshold_value s.alpha s.beta x
threshold_is s x is = rw is refl

module _ (e : Meaning) (pure : IsPure e) where
  -- the shares of both providers add to the secret's function
  key_adds : (kind : TreeKind) (s : Secret) (tree : ℕ) (roots : ℕ × ℕ) (x : ℕ) → s.kind ≡ kind → IsSecret s → x < 2 ^ s.depth
      → (key_share e Zero tree (key_of kind e Zero tree s roots) x + key_share e One tree (key_of kind e One tree s roots) x) % 2 ^ 64 ≡ secret_value s x % 2 ^ 64
  key_adds Point s tree roots x is secret here = settled _ _ _ (point_shares_add e pure tree s roots x secret.number secret.word here) ∙ ap (λ v. v % 2 ^ 64) (sym (point_is s x is))
  key_adds Threshold s tree roots x is secret here = settled _ _ _ (threshold_shares_add e pure tree s roots x secret.number secret.word here) ∙ ap (λ v. v % 2 ^ 64) (sym (threshold_is s x is))

  -- so do the shares of several trees
  shares_add : (x : ℕ) (ss : List Secret) (tree : ℕ) (roots : List (ℕ × ℕ)) → length roots ≡ length ss → AllByRecursion IsSecret ss → AllByRecursion (λ (s : Secret). x < 2 ^ s.depth) ss
      → (key_shares e Zero tree (key_list e Zero tree ss roots) x + key_shares e One tree (key_list e One tree ss roots) x) % 2 ^ 64 ≡ sum_by (λ s. secret_value s x) ss % 2 ^ 64
  unfolding key_list key_shares
  shares_add x [] tree roots same each here = refl
  shares_add x (s ∷ ss) tree [] same each here = absurd (omega (arith, same))
  shares_add x (s ∷ ss) tree (r ∷ rs) same each here =
      let more = shares_add x ss (tree + 1) rs (omega (arith, same)) each.1 here.1 in
      both (key_share e Zero tree (key_of s.kind e Zero tree s r) x) (key_share e One tree (key_of s.kind e One tree s r) x) (secret_value s x) (key_shares e Zero (tree + 1) (key_list e Zero (tree + 1) ss rs) x) (key_shares e One (tree + 1) (key_list e One (tree + 1) ss rs) x) (sum_by (λ t. secret_value t x) ss) (key_adds s.kind s tree r x refl each.0 here.0) more
      ∙ sym (ap (λ n. n % 2 ^ 64) (sum_by-cons (λ t. secret_value t x) s ss))

-- ---- folds

-- factors that add to another modulo 2 ^ 64 give products that do
products : (a b v w : ℕ) → (a + b) % 2 ^ 64 ≡ v % 2 ^ 64 → (a * w + b * w) % 2 ^ 64 ≡ (v * w) % 2 ^ 64
products a b v w e =
    ap (λ n. n % 2 ^ 64) (sym (add-mul a b w)) ∙ (sym (mul-mod_first (a + b) w (2 ^ 64)) ∙ (ap (λ n. (n * w) % 2 ^ 64) e ∙ mul-mod_first v w (2 ^ 64)))

-- and so do sums of them
sums_add : (f g v : ℕ → ℕ) (k : ℕ) (entries : List (ℕ × List ℕ)) → AllByRecursion (λ (p : ℕ × List ℕ). (f p.0 + g p.0) % 2 ^ 64 ≡ v p.0 % 2 ^ 64) entries
    → (sum_by (λ (p : ℕ × List ℕ). f p.0 * slice_index p.1 k) entries + sum_by (λ (p : ℕ × List ℕ). g p.0 * slice_index p.1 k) entries) % 2 ^ 64 ≡ sum_by (λ (p : ℕ × List ℕ). v p.0 * slice_index p.1 k) entries % 2 ^ 64
sums_add f g v k [] each = refl
sums_add f g v k (p ∷ ps) each =
    let more = sums_add f g v k ps each.1 in
    let w = slice_index p.1 k in
    rw (sum_by-cons (λ (q : ℕ × List ℕ). f q.0 * slice_index q.1 k) p ps, sum_by-cons (λ (q : ℕ × List ℕ). g q.0 * slice_index q.1 k) p ps, sum_by-cons (λ (q : ℕ × List ℕ). v q.0 * slice_index q.1 k) p ps)
    (both (f p.0 * w) (g p.0 * w) (v p.0 * w) (sum_by (λ (q : ℕ × List ℕ). f q.0 * slice_index q.1 k) ps) (sum_by (λ (q : ℕ × List ℕ). g q.0 * slice_index q.1 k) ps) (sum_by (λ (q : ℕ × List ℕ). v q.0 * slice_index q.1 k) ps) (products (f p.0) (g p.0) (v p.0) w each.0) more)

two_words : (a b v : ℕ) → (a + b) % 2 ^ 64 ≡ v % 2 ^ 64 → plus (a % 2 ^ 64) (b % 2 ^ 64) ≡ v % 2 ^ 64
two_words a b v e = omega (arith, e)

once : (a b v : ℕ) → (a + b) % 2 ^ 64 ≡ v % 2 ^ 64 → (a + b) % 2 ^ 64 ≡ (v % 2 ^ 64) % 2 ^ 64
once a b v e = omega (arith, e)

pub folds_add : (e : Meaning) → IsPure e → (tree : ℕ) (secrets : List Secret) (roots : List (ℕ × ℕ)) (entries : List (ℕ × List ℕ)) (k : ℕ) → length roots ≡ length secrets → AllByRecursion IsSecret secrets
    → AllByRecursion (λ (p : ℕ × List ℕ). AllByRecursion (λ (s : Secret). p.0 < 2 ^ s.depth) secrets) entries
    → plus (fold_word (key_shares e Zero tree (key_list e Zero tree secrets roots)) entries k) (fold_word (key_shares e One tree (key_list e One tree secrets roots)) entries k) ≡ fold_word (secrets_value secrets) entries k
folds_add e pure tree secrets roots entries k same each below =
    let f = key_shares e Zero tree (key_list e Zero tree secrets roots) in
    let g = key_shares e One tree (key_list e One tree secrets roots) in
    two_words (sum_by (λ (p : ℕ × List ℕ). f p.0 * slice_index p.1 k) entries) (sum_by (λ (p : ℕ × List ℕ). g p.0 * slice_index p.1 k) entries) (sum_by (λ (p : ℕ × List ℕ). secrets_value secrets p.0 * slice_index p.1 k) entries)
    (sums_add f g (secrets_value secrets) k entries (all entries below)) where
      all : (ps : List (ℕ × List ℕ)) → AllByRecursion (λ (p : ℕ × List ℕ). AllByRecursion (λ (s : Secret). p.0 < 2 ^ s.depth) secrets) ps
          → AllByRecursion (λ (p : ℕ × List ℕ). (key_shares e Zero tree (key_list e Zero tree secrets roots) p.0 + key_shares e One tree (key_list e One tree secrets roots) p.0) % 2 ^ 64 ≡ secrets_value secrets p.0 % 2 ^ 64) ps
      all [] h = tt
      all (p ∷ ps) h = (once _ _ (sum_by (λ s. secret_value s p.0) secrets) (shares_add e pure p.0 secrets tree roots same each h.0), all ps h.1)
