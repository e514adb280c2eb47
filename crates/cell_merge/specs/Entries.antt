-- The entries of a list of the best rows, and their order.
use Rattle.std.specs.Prelude.{◌≡◌, ℕ, zero, suc, ◌+◌, Bool, true, false, nat_lt, ◌==◌, ◌&&◌, ◌||◌, cond, if◌then◌else◌, List, [], ◌∷◌}
use Rattle.cell_merge.specs.declared.entry.Entry.{Entry}
use Rattle.cell_merge.specs.Rows.{Row, code}

-- x comes before y: the sort word falls, then the place rises
unfoldable pub before : Entry → Entry → Bool
before x y = nat_lt y.sort x.sort || (x.sort == y.sort && nat_lt x.place y.place)

-- a list with x behind the items that come before it
unfoldable pub insertion : {A : Type 0} → (A → A → Bool) → A → List A → List A
insertion before x [] = x ∷ []
insertion before x (y ∷ ys) = if before y x then y ∷ insertion before x ys else x ∷ y ∷ ys

-- the same with x behind its ties: before the first item that it comes before
unfoldable pub late_insertion : {A : Type 0} → (A → A → Bool) → A → List A → List A
late_insertion before x [] = x ∷ []
late_insertion before x (y ∷ ys) = if before x y then x ∷ y ∷ ys else y ∷ late_insertion before x ys

-- a list in an order, the items that tie as they stood
unfoldable pub ordered : {A : Type 0} → (A → A → Bool) → List A → List A
ordered before [] = []
ordered before (x ∷ xs) = insertion before x (ordered before xs)

-- entries from the best to the least
abbrev pub in_order : List Entry → List Entry
in_order xs = ordered before xs

-- the entries in a list of words
unfoldable pub entries_of : List ℕ → List Entry
entries_of (place ∷ sort ∷ show ∷ ws) = if place == 0 then entries_of ws else record { place = place; sort = sort; show = show } ∷ entries_of ws
entries_of _ = []

-- the words of the first k entries, and zeros behind them
unfoldable pub words_of : ℕ → List Entry → List ℕ
words_of zero xs = []
words_of (suc k) [] = 0 ∷ 0 ∷ 0 ∷ words_of k []
words_of (suc k) (x ∷ xs) = x.place ∷ x.sort ∷ x.show ∷ words_of k xs

-- the entry of a row: its number plus 1, and its codes in the sort column and the shown one
abbrev pub entry : ℕ → ℕ → Row → Entry
entry sort show r = record { place = r.number + 1; sort = code sort r; show = code show r }

-- what an order has to be: asymmetric, and through what it leaves side by side
pub record Ranks {A : Type 0} (before : A → A → Bool) : Type 0 where
  pub asym : (x y : A) → before x y ≡ true → before y x ≡ false
  pub through : (x y z : A) → before x y ≡ false → before y z ≡ false → before x z ≡ false
