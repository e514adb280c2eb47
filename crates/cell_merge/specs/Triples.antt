-- A list of words seen as entries of three words each.
use Rattle.std.specs.Prelude.{ℕ, zero, suc, ◌+◌, ◌*◌, Bool, true, false, ◌==◌, List, [], ◌∷◌, ◌++◌, slice_index, slice_set, if◌then◌else◌}
use Rattle.cell_merge.specs.declared.entry.Entry.{Entry}
use Rattle.cell_merge.specs.Entries.{before, late_insertion}

-- the i-th entry in a list of words
abbrev pub entry_at : List ℕ → ℕ → Entry
entry_at ws i = record { place = slice_index ws (3 * i); sort = slice_index ws (3 * i + 1); show = slice_index ws (3 * i + 2) }

-- a list of words with an entry in the i-th place
abbrev pub with_entry : List ℕ → ℕ → Entry → List ℕ
with_entry ws i e = slice_set (slice_set (slice_set ws (3 * i) e.place) (3 * i + 1) e.sort) (3 * i + 2) e.show

-- the first n entries
unfoldable pub triples : ℕ → List ℕ → List Entry
triples zero ws = []
triples (suc n) ws = triples n ws ++ entry_at ws n ∷ []

-- what stands behind a place: the entry that moves down, or, while none was placed, the entry that is to be placed
unfoldable pub remainder : Bool → Entry → List Entry → List Entry
remainder true x ys = x ∷ ys
remainder false x ys = late_insertion before x ys

-- entries with one more among them, unless it is no entry
unfoldable pub kept : Entry → List Entry → List Entry
kept x ys = if x.place == 0 then ys else late_insertion before x ys
