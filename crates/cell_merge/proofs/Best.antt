-- The first k of the entries of two lists.
use Rattle.std.proofs.Common.{◌≡◌, ◌≢◌, ℕ, zero, suc, ◌+◌, false, List, [], ◌∷◌, ◌++◌, take, refl, ap, sym, ◌∙◌}
use Rattle.std.specs.List.{AllByRecursion}
use Rattle.cell_merge.specs.Rows.{Interleaves}
use Rattle.cell_merge.specs.Rows.Interleaves.{none, left, right}
use Rattle.cell_merge.specs.declared.entry.Entry.{Entry}
use Rattle.cell_merge.specs.Entries.{before, ordered, insertion, in_order}
use Rattle.cell_merge.proofs.Lists.{each-take, each_left, each_right}
use Rattle.cell_merge.proofs.Sorting.{put_comm, in_order-append, take-puts, puts, InOrder, in_order_fixed, each-in_order, InOrder-in_order}

pub InOrder-take : (k : ℕ) (l : List Entry) → InOrder l → InOrder (take k l)
InOrder-take zero l h = tt
InOrder-take (suc k) [] h = tt
InOrder-take (suc k) (x ∷ l) h = (each-take (λ y. before y x ≡ false) k l h.0, InOrder-take k l h.1)

-- another place than each of the entries
abbrev pub Away : Entry → List Entry → Type 0
Away x l = AllByRecursion (λ y. x.place ≢ y.place) l

abbrev pub Separate : List Entry → List Entry → Type 0
Separate a b = AllByRecursion (λ x. Away x b) a

abbrev pub ApartEntries : List Entry → Type 0
ApartEntries [] = Unit {0}
ApartEntries (x ∷ l) = Away x l × ApartEntries l

pub in_order_move : (x : Entry) (a b : List Entry) → Away x a → in_order (a ++ x ∷ b) ≡ insertion before x (in_order (a ++ b))
unfolding ordered
in_order_move x [] b h = refl
in_order_move x (y ∷ a) b h = ap (λ r. insertion before y r) (in_order_move x a b h.1) ∙ sym (put_comm x y (in_order (a ++ b)) h.0)

append_nil_order : (a : List Entry) → in_order (a ++ []) ≡ in_order a
unfolding ordered
append_nil_order [] = refl
append_nil_order (x ∷ a) = ap (λ r. insertion before x r) (append_nil_order a)

pub in_order_swap : (a b : List Entry) → Separate a b → in_order (a ++ b) ≡ in_order (b ++ a)
unfolding ordered
in_order_swap [] b h = sym (append_nil_order b)
in_order_swap (x ∷ a) b h = ap (λ r. insertion before x r) (in_order_swap a b h.1) ∙ sym (in_order_move x b a h.0)

pub in_order_interleaved : (a b c : List Entry) → Interleaves a b c → ApartEntries c → in_order c ≡ in_order (a ++ b)
unfolding ordered
in_order_interleaved _ _ _ none h = refl
in_order_interleaved _ _ _ (left x a b c i) h = ap (λ r. insertion before x r) (in_order_interleaved a b c i h.1)
in_order_interleaved _ _ _ (right x a b c i) h =
    ap (λ r. insertion before x r) (in_order_interleaved a b c i h.1) ∙ sym (in_order_move x a b (each_left (λ y. x.place ≢ y.place) a b c i h.0))

pub separate_interleaved : (a b c : List Entry) → Interleaves a b c → ApartEntries c → Separate a b
separate_interleaved _ _ _ none h = tt
separate_interleaved _ _ _ (left x a b c i) h = (each_right (λ y. x.place ≢ y.place) a b c i h.0, separate_interleaved a b c i h.1)
separate_interleaved _ _ _ (right x a b c i) h =
    both_away x a b (each_left (λ y. x.place ≢ y.place) a b c i h.0) (separate_interleaved a b c i h.1)
  where
    both_away : (x : Entry) (a b : List Entry) → Away x a → Separate a b → Separate a (x ∷ b)
    both_away x [] b h s = tt
    both_away x (y ∷ a) b h s = ((λ e. h.0 (sym e), s.0), both_away x a b h.1 s.1)

-- the right list by its first k
best_right : (k : ℕ) (a b : List Entry) → take k (in_order (a ++ take k (in_order b))) ≡ take k (in_order (a ++ b))
best_right k a b =
    let l = in_order b in
    let fixed = in_order_fixed (take k l) (InOrder-take k l (InOrder-in_order b)) in
    ap (λ r. take k r) (in_order-append a (take k l))
    ∙ (ap (λ r. take k (puts a r)) fixed
    ∙ (sym (take-puts k a l)
    ∙ sym (ap (λ r. take k r) (in_order-append a b))))

-- the first k of both are those of the first k of each
pub best_of_best : (k : ℕ) (a b : List Entry) → Separate a b
    → take k (in_order (take k (in_order a) ++ take k (in_order b))) ≡ take k (in_order (a ++ b))
best_of_best k a b h =
    let a' = take k (in_order a) in
    let h' : Separate a' b = each-take (λ x. Away x b) k (in_order a) (each-in_order (λ x. Away x b) a h) in
    best_right k a' b
    ∙ (ap (λ r. take k r) (in_order_swap a' b h')
    ∙ (best_right k b a
    ∙ sym (ap (λ r. take k r) (in_order_swap a b h))))
