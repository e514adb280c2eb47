-- Lists of words seen as entries.
use Rattle.std.proofs.Common.{◌≡◌, ◌≢◌, ℕ, zero, suc, ◌+◌, ◌-◌, ◌*◌, ◌<◌, ◌≤◌, ◌⊎◌, Bool, true, false, cond, List, [], ◌∷◌, ◌++◌, length, take, drop, slice_index, get_or, set, inl, inr, refl, ap, sym, ◌∙◌, arith, add-one, length-append}
use Rattle.std.proofs.lemmas.Bool.{cases_Bool, cases_lt, cond-true, cond-false, false≢true}
use Rattle.std.proofs.lemmas.List.{get_or_at, get_or_append_left, take_all, take_at, drop_more, append_assoc, get_or-set_other, get_or-set_same, length-set, drop_all}
use Rattle.cell_merge.specs.declared.entry.Entry.{Entry}
use Rattle.cell_merge.specs.Entries.{before, late_insertion}
use Rattle.cell_merge.specs.Triples.{remainder, entry_at, triples, with_entry}

-- ---- an entry in words

pub same_entry : (a b : Entry) → a.place ≡ b.place → a.sort ≡ b.sort → a.show ≡ b.show → a ≡ b
same_entry a b p q r =
    let make : ℕ → ℕ → ℕ → Entry = λ x y z. record { place = x; sort = y; show = z } in
    ap (λ x. make x a.sort a.show) p ∙ (ap (λ y. make b.place y a.show) q ∙ ap (λ z. make b.place b.sort z) r)

pub entry_at-same : (i : ℕ) (ws vs : List ℕ) → ((j : ℕ) → 3 * i ≤ j → j < 3 * i + 3 → slice_index vs j ≡ slice_index ws j) → entry_at vs i ≡ entry_at ws i
entry_at-same i ws vs h =
    same_entry (entry_at vs i) (entry_at ws i) (h (3 * i) (omega arith) (omega arith)) (h (3 * i + 1) (omega arith) (omega arith)) (h (3 * i + 2) (omega arith) (omega arith))

pub with_entry-other : (ws : List ℕ) (i : ℕ) (e : Entry) (j : ℕ) → j ≢ 3 * i → j ≢ 3 * i + 1 → j ≢ 3 * i + 2 → slice_index (with_entry ws i e) j ≡ slice_index ws j
with_entry-other ws i e j p q r =
    rw (get_or-set_other, get_or-set_other, get_or-set_other) refl

pub with_entry-at : (ws : List ℕ) (i : ℕ) (e : Entry) → 3 * i + 3 ≤ length ws → entry_at (with_entry ws i e) i ≡ e
with_entry-at ws i e h =
    let a = set ws (3 * i) e.place in
    let b = set a (3 * i + 1) e.sort in
    let la = length-set ws (3 * i) e.place in
    let lb = length-set a (3 * i + 1) e.sort in
    same_entry (entry_at (with_entry ws i e) i) e
    (get_or-set_other b (3 * i + 2) (3 * i) e.show 0 (λ q. omega arith) ∙ (get_or-set_other a (3 * i + 1) (3 * i) e.sort 0 (λ q. omega arith) ∙ get_or-set_same ws (3 * i) e.place 0 (omega arith)))
    (get_or-set_other b (3 * i + 2) (3 * i + 1) e.show 0 (λ q. omega arith) ∙ get_or-set_same a (3 * i + 1) e.sort 0 (omega arith))
    (get_or-set_same b (3 * i + 2) e.show 0 (omega arith))

-- ---- the first entries

pub length-triples : (n : ℕ) (ws : List ℕ) → length (triples n ws) ≡ n
unfolding triples
length-triples zero ws = refl
length-triples (suc n) ws =
    let e = length-append (triples n ws) (entry_at ws n ∷ []) in
    let f = length-triples n ws in
    omega arith

pub triples-add-one : (n : ℕ) (ws : List ℕ) → triples (n + 1) ws ≡ triples n ws ++ entry_at ws n ∷ []
unfolding triples
triples-add-one n ws = rw add-one refl

pub triples-same : (n : ℕ) (ws vs : List ℕ) → ((j : ℕ) → j < 3 * n → slice_index vs j ≡ slice_index ws j) → triples n vs ≡ triples n ws
unfolding triples
triples-same zero ws vs h = refl
triples-same (suc n) ws vs h =
    let e : triples n vs ≡ triples n ws = triples-same n ws vs (λ j p. h j (omega arith)) in
    let f : entry_at vs n ≡ entry_at ws n = entry_at-same n ws vs (λ j p q. h j (omega arith)) in
    cc

get_or_triples_step : (n i : ℕ) (ws : List ℕ) (d : Entry) → i < suc n → (i < n → get_or (triples n ws) i d ≡ entry_at ws i) → get_or (triples n ws ++ entry_at ws n ∷ []) i d ≡ entry_at ws i
get_or_triples_step n i ws d h ih =
    let len = length-triples n ws in
    elim (cases_lt i n) [
      | inl p ↦ get_or_append_left (triples n ws) (entry_at ws n ∷ []) d i (omega arith) ∙ ih p
      | inr q ↦ let e : n ≡ i = omega arith in get_or_at (triples n ws) (entry_at ws n) [] d i (omega arith) ∙ ap (λ k. entry_at ws k) e
    ]

pub get_or-triples : (n i : ℕ) (ws : List ℕ) (d : Entry) → i < n → get_or (triples n ws) i d ≡ entry_at ws i
unfolding triples
get_or-triples zero i ws d h = absurd (omega arith)
get_or-triples (suc n) i ws d h = get_or_triples_step n i ws d h (get_or-triples n i ws d)

pub drop-triples : (n i : ℕ) (ws : List ℕ) → i < n → drop i (triples n ws) ≡ entry_at ws i ∷ drop (i + 1) (triples n ws)
drop-triples n i ws h =
    let len = length-triples n ws in
    let d = entry_at ws i in
    drop_more (triples n ws) i d (omega arith) ∙ ap (λ x. x ∷ drop (i + 1) (triples n ws)) (get_or-triples n i ws d h)

-- ---- an entry put in from the front

pub behind-first : (x y : Entry) (ys : List Entry) → before x y ≡ true → late_insertion before x (y ∷ ys) ≡ x ∷ y ∷ ys
unfolding late_insertion
behind-first x y ys h = cond-true (before x y) (x ∷ y ∷ ys) (y ∷ late_insertion before x ys) h

pub behind-later : (x y : Entry) (ys : List Entry) → before x y ≡ false → late_insertion before x (y ∷ ys) ≡ y ∷ late_insertion before x ys
unfolding late_insertion
behind-later x y ys h = cond-false (before x y) (x ∷ y ∷ ys) (y ∷ late_insertion before x ys) h

pub behind-nil : (x : Entry) → late_insertion before x [] ≡ x ∷ []
unfolding late_insertion
behind-nil x = refl

-- ---- one step down the entries

pub after-nil : (p : Bool) (x : Entry) → remainder p x [] ≡ x ∷ []
unfolding remainder
after-nil true x = refl
after-nil false x = behind-nil x

after-stays : (p : Bool) (x y : Entry) (xs : List Entry) → (p ≡ true) ⊎ (before x y ≡ true) → remainder p x (y ∷ xs) ≡ x ∷ y ∷ xs
unfolding remainder
after-stays true x y xs h = refl
after-stays false x y xs h = elim h [ inl e ↦ absurd (false≢true e) | inr b ↦ behind-first x y xs b ]

pub pushed : (ws vs : List ℕ) (i : ℕ) (x y : Entry) (p : Bool) (xs : List Entry) → vs ≡ with_entry ws i x → 3 * i + 3 ≤ length ws → y ≡ entry_at ws i → (p ≡ true) ⊎ (before x y ≡ true)
    → entry_at vs i ∷ remainder true y xs ≡ remainder p x (entry_at ws i ∷ xs)
unfolding remainder
pushed ws vs i x y p xs e h is t =
    let one : entry_at vs i ≡ x = ap (λ w. entry_at w i) e ∙ with_entry-at ws i x h in
    ap (λ z. z ∷ y ∷ xs) one ∙ (sym (after-stays p x y xs t) ∙ ap (λ z. remainder p x (z ∷ xs)) is)

pub left_there : (ws : List ℕ) (i : ℕ) (x y : Entry) (p : Bool) (xs : List Entry) → p ≡ false → y ≡ entry_at ws i → before x y ≡ false
    → entry_at ws i ∷ remainder false x xs ≡ remainder p x (entry_at ws i ∷ xs)
unfolding remainder
left_there ws i x y p xs e is b =
    let b' : before x (entry_at ws i) ≡ false = sym (ap (λ z. before x z) is) ∙ b in
    sym (ap (λ q. remainder q x (entry_at ws i ∷ xs)) e ∙ behind-later x (entry_at ws i) xs b')

pub none_pushed : (x : Entry) (ws : List ℕ) (l : List Entry) → triples 0 ws ++ remainder false x (drop 0 l) ≡ late_insertion before x l
unfolding triples remainder
none_pushed x ws l = refl

pub more_pushed : (n i : ℕ) (old ws vs : List ℕ) (p q : Bool) (x y z : Entry) → i < n
    → ((j : ℕ) → 3 * i ≤ j → slice_index ws j ≡ slice_index old j)
    → ((j : ℕ) → j < 3 * i → slice_index vs j ≡ slice_index ws j)
    → ((xs : List Entry) → entry_at vs i ∷ remainder q y xs ≡ remainder p x (entry_at ws i ∷ xs))
    → triples i ws ++ remainder p x (drop i (triples n old)) ≡ late_insertion before z (triples n old)
    → triples (i + 1) vs ++ remainder q y (drop (i + 1) (triples n old)) ≡ late_insertion before z (triples n old)
more_pushed n i old ws vs p q x y z h same low step inv =
    let d = drop (i + 1) (triples n old) in
    let here : entry_at ws i ≡ entry_at old i = entry_at-same i old ws (λ j a b. same j a) in
    let front : triples (i + 1) vs ≡ triples i ws ++ entry_at vs i ∷ [] = triples-add-one i vs ∙ ap (λ l. l ++ entry_at vs i ∷ []) (triples-same i ws vs low) in
    let back : drop i (triples n old) ≡ entry_at ws i ∷ d = drop-triples n i old h ∙ ap (λ e. e ∷ d) (sym here) in
    ap (λ l. l ++ remainder q y d) front
    ∙ (append_assoc (triples i ws) (entry_at vs i ∷ []) (remainder q y d)
    ∙ (ap (λ l. triples i ws ++ l) (step d)
    ∙ (ap (λ l. triples i ws ++ remainder p x l) (sym back) ∙ inv)))

pub all_pushed : (n : ℕ) (old ws : List ℕ) (p : Bool) (x z : Entry)
    → triples n ws ++ remainder p x (drop n (triples n old)) ≡ late_insertion before z (triples n old)
    → triples n ws ++ x ∷ [] ≡ late_insertion before z (triples n old)
all_pushed n old ws p x z inv =
    let len = length-triples n old in
    let none : drop n (triples n old) ≡ [] = drop_all n (triples n old) (omega arith) in
    sym (ap (λ l. triples n ws ++ l) (ap (λ l. remainder p x l) none ∙ after-nil p x)) ∙ inv

-- all places are taken: the last entry falls out
pub all_taken : (n : ℕ) (old ws : List ℕ) (x z : Entry) → triples n ws ++ x ∷ [] ≡ late_insertion before z (triples n old) → triples n ws ≡ take n (late_insertion before z (triples n old))
all_taken n old ws x z e =
    sym (take_at (triples n ws) (x ∷ []) n (length-triples n ws)) ∙ ap (λ l. take n l) e

-- one more entry
pub one_taken : (n most : ℕ) (old ws vs : List ℕ) (x z : Entry) → n < most → 3 * n + 3 ≤ length ws → vs ≡ with_entry ws n x → ((j : ℕ) → j < 3 * n → slice_index vs j ≡ slice_index ws j)
    → triples n ws ++ x ∷ [] ≡ late_insertion before z (triples n old) → triples (n + 1) vs ≡ take most (late_insertion before z (triples n old))
one_taken n most old ws vs x z h room is low e =
    let one : entry_at vs n ≡ x = ap (λ w. entry_at w n) is ∙ with_entry-at ws n x room in
    let same : triples (n + 1) vs ≡ triples n ws ++ x ∷ [] = triples-add-one n vs ∙ (ap (λ l. l ++ entry_at vs n ∷ []) (triples-same n ws vs low) ∙ ap (λ y. triples n ws ++ y ∷ []) one) in
    let len : length (late_insertion before z (triples n old)) ≤ most =
    let a = ap length e in
    let b = length-append (triples n ws) (x ∷ []) in
    let c = length-triples n ws in
    omega arith
    in
    same ∙ (e ∙ sym (take_all most (late_insertion before z (triples n old)) len))
