-- Entries that are taken in one by one.
use Rattle.std.proofs.Common.{◌≡◌, ◌≢◌, ℕ, zero, suc, ◌+◌, ◌-◌, ◌*◌, ◌<◌, ◌≤◌, Bool, true, false, cond, eqb, List, [], ◌∷◌, ◌++◌, length, take, drop, slice_index, replicate, inl, inr, refl, ap, sym, ◌∙◌, arith, add-one}
use Rattle.std.proofs.lemmas.Bool.{cases_Bool, cond-true, cond-false, false≢true, eq-eqb, ne_eqb}
use Rattle.std.proofs.lemmas.List.{take-take, take_all, append-nil, append_assoc, drop_all, length-drop}
use borrow.Rule.Slice.PartMut.{put_mid, post_of}
use Rattle.cell_merge.specs.declared.entry.Entry.{Entry}
use Rattle.cell_merge.specs.Entries.{Ranks, before, late_insertion, ordered, entries_of, words_of}
use Rattle.cell_merge.proofs.Sorting.{before-asym, before-through}
use Rattle.cell_merge.proofs.Order.{best_more}
use Rattle.cell_merge.proofs.Words.{words_of-take}
use Rattle.cell_merge.specs.Triples.{entry_at, kept, triples}

ranks : Ranks before
ranks = record { asym = before-asym; through = before-through }

-- ---- entries among words

abbrev pub one : Entry → List Entry
one x = cond (eqb x.place 0) [] (x ∷ [])

kept_step : (k : ℕ) (x : Entry) (l : List Entry) (t : Bool)
    → take k (cond t (take k (ordered before l)) (late_insertion before x (take k (ordered before l)))) ≡ take k (ordered before (l ++ cond t [] (x ∷ [])))
kept_step k x l true = take-take k k (ordered before l) (omega arith) ∙ ap (λ r. take k (ordered before r)) (sym (append-nil l))
kept_step k x l false = best_more before ranks k x l

pub kept_more : (k : ℕ) (x : Entry) (l : List Entry) → take k (kept x (take k (ordered before l))) ≡ take k (ordered before (l ++ one x))
unfolding kept
kept_more k x l = kept_step k x l (eqb x.place 0)

pub kept_none : (x : Entry) (l : List Entry) → x.place ≡ 0 → kept x l ≡ l
unfolding kept
kept_none x l e = cond-true (eqb x.place 0) l (late_insertion before x l) (eq-eqb x.place 0 e)

pub kept_some : (x : Entry) (l : List Entry) → (x.place ≡ 0 → ⊥) → kept x l ≡ late_insertion before x l
unfolding kept
kept_some x l e = cond-false (eqb x.place 0) l (late_insertion before x l) (ne_eqb x.place 0 e)

past_three : (p s h : ℕ) (r : List ℕ) (i c : ℕ) → slice_index (p ∷ s ∷ h ∷ r) (3 * suc i + c) ≡ slice_index r (3 * i + c)
past_three p s h r i c = let e : 3 * suc i + c ≡ suc (suc (suc (3 * i + c))) = omega arith in rw e refl

past_first : (p s h : ℕ) (r : List ℕ) (i : ℕ) → entry_at (p ∷ s ∷ h ∷ r) (suc i) ≡ entry_at r i
past_first p s h r i =
    let make : ℕ → ℕ → ℕ → Entry = λ x y z. record { place = x; sort = y; show = z } in
    let w = p ∷ s ∷ h ∷ r in
    let zero_more : slice_index w (3 * suc i) ≡ slice_index r (3 * i) = let e : 3 * suc i ≡ suc (suc (suc (3 * i))) = omega arith in rw e refl in
    let a : make (slice_index w (3 * suc i)) (slice_index w (3 * suc i + 1)) (slice_index w (3 * suc i + 2)) ≡ make (slice_index r (3 * i)) (slice_index w (3 * suc i + 1)) (slice_index w (3 * suc i + 2)) = ap (λ x. make x (slice_index w (3 * suc i + 1)) (slice_index w (3 * suc i + 2))) zero_more in
    a ∙ (ap (λ y. make (slice_index r (3 * i)) y (slice_index w (3 * suc i + 2))) (past_three p s h r i 1)
    ∙ ap (λ z. make (slice_index r (3 * i)) (slice_index r (3 * i + 1)) z) (past_three p s h r i 2))

take_three : (p s h : ℕ) (r : List ℕ) (i : ℕ) → take (3 * suc i) (p ∷ s ∷ h ∷ r) ≡ p ∷ s ∷ h ∷ take (3 * i) r
take_three p s h r i = let e : 3 * suc i ≡ suc (suc (suc (3 * i))) = omega arith in rw e refl

cond_append : {A : Type 0} (t : Bool) (x : A) (a b : List A) → cond t (a ++ b) (x ∷ (a ++ b)) ≡ cond t a (x ∷ a) ++ b
cond_append true x a b = refl
cond_append false x a b = refl

cond_one : {A : Type 0} (t : Bool) (x : A) → cond t [] (x ∷ []) ≡ cond t [] (x ∷ [])
cond_one t x = refl

pub entries_of-more : (i : ℕ) (ws : List ℕ) → 3 * i + 3 ≤ length ws → entries_of (take (3 * suc i) ws) ≡ entries_of (take (3 * i) ws) ++ one (entry_at ws i)
unfolding entries_of
entries_of-more i [] h = absurd (omega arith)
entries_of-more i (p ∷ []) h = absurd (omega arith)
entries_of-more i (p ∷ s ∷ []) h = absurd (omega arith)
entries_of-more zero (p ∷ s ∷ h ∷ r) q = refl
entries_of-more (suc i) (p ∷ s ∷ h ∷ r) q =
    let x : Entry = record { place = p; sort = s; show = h } in
    let ih = entries_of-more i r (omega arith) in
    let next = past_first p s h r i in
    rw (take_three p s h r (suc i), take_three p s h r i)
    (ap (λ l. cond (eqb p 0) l (x ∷ l)) ih
    ∙ (cond_append (eqb p 0) x (entries_of (take (3 * i) r)) (one (entry_at r i))
    ∙ ap (λ e. cond (eqb p 0) (entries_of (take (3 * i) r)) (x ∷ entries_of (take (3 * i) r)) ++ one e) (sym next)))

-- one turn of a scan
pub scan_more : (most i : ℕ) (ws : List ℕ) (done es es' : List Entry) (e : Entry)
    → es' ≡ take most (kept e es) → es ≡ take most (ordered before (done ++ entries_of (take (3 * i) ws))) → e ≡ entry_at ws i → 3 * i + 3 ≤ length ws
    → es' ≡ take most (ordered before (done ++ entries_of (take (3 * (i + 1)) ws)))
scan_more most i ws done es es' e p q r h =
    let l = done ++ entries_of (take (3 * i) ws) in
    p ∙ (ap (λ x. take most (kept e x)) q
    ∙ (kept_more most e l
    ∙ ap (λ x. take most (ordered before x))
    (append_assoc done (entries_of (take (3 * i) ws)) (one e)
    ∙ (ap (λ x. done ++ (entries_of (take (3 * i) ws) ++ one x)) r
    ∙ ap (λ x. done ++ x) (sym (rw add-one (entries_of-more i ws h)))))))

-- ---- the words of the first entries

triples-cons : (n p s h : ℕ) (r : List ℕ) → triples (suc n) (p ∷ s ∷ h ∷ r) ≡ (let x : Entry = record { place = p; sort = s; show = h } in x) ∷ triples n r
unfolding triples
triples-cons zero p s h r = refl
triples-cons (suc n) p s h r =
    ap (λ l. l ++ entry_at (p ∷ s ∷ h ∷ r) (suc n) ∷ []) (triples-cons n p s h r)
    ∙ ap (λ e. (let x : Entry = record { place = p; sort = s; show = h } in x) ∷ (triples n r ++ e ∷ [])) (past_first p s h r n)

no_words : (k : ℕ) → words_of k [] ≡ replicate (3 * k) 0
unfolding words_of
no_words zero = refl
no_words (suc k) = let e : 3 * suc k ≡ suc (suc (suc (3 * k))) = omega arith in rw e (ap (λ l. 0 ∷ 0 ∷ 0 ∷ l) (no_words k))

no_triples : (k : ℕ) (ws : List ℕ) → words_of k (triples 0 ws) ≡ replicate (3 * (k - 0)) 0
unfolding triples
no_triples k ws = let e : k - 0 ≡ k = omega arith in rw e (no_words k)

words_of-triples : (n k : ℕ) (ws : List ℕ) → n ≤ k → 3 * n ≤ length ws → words_of k (triples n ws) ≡ take (3 * n) ws ++ replicate (3 * (k - n)) 0
unfolding words_of
words_of-triples zero k ws le h = no_triples k ws
words_of-triples (suc n) zero ws le h = absurd (omega arith)
words_of-triples (suc n) (suc k) [] le h = absurd (omega arith)
words_of-triples (suc n) (suc k) (p ∷ []) le h = absurd (omega arith)
words_of-triples (suc n) (suc k) (p ∷ s ∷ []) le h = absurd (omega arith)
words_of-triples (suc n) (suc k) (p ∷ s ∷ q ∷ r) le h =
    let e : suc k - suc n ≡ k - n = omega arith in
    rw (triples-cons n p s q r, take_three p s q r n, e) (ap (λ l. p ∷ s ∷ q ∷ l) (words_of-triples n k r (omega arith) (omega arith)))

pub filled : (used most : ℕ) (ws ys : List ℕ) (es : List Entry) → used ≤ most → length ws ≡ 3 * most → triples used ws ≡ take most es
    → ys ≡ replicate (length ws - 3 * used) 0 → put_mid (3 * used) (length ws - 3 * used) ws ys ≡ words_of most es
filled used most ws ys es le len is zeros =
    let end : post_of (3 * used) (length ws - 3 * used) ws ≡ [] = drop_all (length ws - 3 * used) (drop (3 * used) ws) (omega (arith, length-drop (3 * used) ws)) in
    let many : length ws - 3 * used ≡ 3 * (most - used) = omega arith in
    ap (λ l. take (3 * used) ws ++ (ys ++ l)) end
    ∙ (ap (λ l. take (3 * used) ws ++ l) (append-nil ys ∙ (zeros ∙ ap (λ n. replicate n 0) many))
    ∙ (sym (words_of-triples used most ws le (omega arith))
    ∙ (ap (λ l. words_of most l) is ∙ sym (words_of-take most es))))

pub scan_none : (most : ℕ) (ws : List ℕ) → triples 0 ws ≡ take most (ordered before (entries_of []))
unfolding triples ordered entries_of
scan_none zero ws = refl
scan_none (suc most) ws = refl

pub scan_next : (most i : ℕ) (ws : List ℕ) (es : List Entry) → i ≡ most → length ws ≡ 3 * most → es ≡ take most (ordered before (entries_of (take (3 * i) ws)))
    → es ≡ take most (ordered before (entries_of ws ++ entries_of []))
unfolding entries_of
scan_next most i ws es e len is =
    let all : take (3 * i) ws ≡ ws = take_all (3 * i) ws (omega arith) in
    is ∙ (ap (λ w. take most (ordered before (entries_of w))) all ∙ ap (λ l. take most (ordered before l)) (sym (append-nil (entries_of ws))))

pub scan_last : (most i : ℕ) (done : List Entry) (ws : List ℕ) (es : List Entry) → i ≡ most → length ws ≡ 3 * most → es ≡ take most (ordered before (done ++ entries_of (take (3 * i) ws)))
    → es ≡ take most (ordered before (done ++ entries_of ws))
scan_last most i done ws es e len is =
    let all : take (3 * i) ws ≡ ws = take_all (3 * i) ws (omega arith) in
    is ∙ ap (λ w. take most (ordered before (done ++ entries_of w))) all
