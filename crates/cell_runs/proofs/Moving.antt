-- Cells that are moved and merged in place.
use Rattle.std.proofs.Common.{◌≡◌, ◌≢◌, ℕ, suc, ◌+◌, ◌-◌, ◌*◌, ◌<◌, ◌≤◌, List, [], ◌∷◌, ◌++◌, length, map, take, drop, get_or, set, refl, ap, sym, subst, ◌∙◌, arith, length-append}
use Rattle.std.specs.List.{AllByRecursion, flat_map, copy_within}
use Rattle.std.proofs.Math.Nat.{add-mul, mul-le-mul}
use Rattle.std.proofs.Math.Seq.{drop-cons}
use Rattle.std.proofs.lemmas.List.{append-nil, append_assoc, get_or-map, get_or-take, map-append, take-take, take_all, take_at, take_more, take_more_set, drop_at, drop-drop, drop-set-lt, length-map, length-take-le, drop-take}
use Rattle.std.proofs.lemmas.Grind.{flat_map-append, fold-append}
use Rattle.cell_merge.specs.declared.spec.CellSpec.{CellSpec}
use Rattle.cell_merge.specs.Cells.{blocks, cell_width, merge}
use Rattle.cell_merge.proofs.Blocks.{length-merge_blocks}
use Rattle.cell_runs.specs.CellsBy.{ArePairs}
use Rattle.cell_runs.specs.Runs.{IsMoving, put_behind, runs}
use Rattle.cell_runs.proofs.Behind.{behind_none, behind_same, behind_other}

-- ---- pairs, one more at the end

abbrev pub Wide : ℕ → List (ℕ × List ℕ) → Type 0
Wide w pairs = AllByRecursion (λ p. length p.1 ≡ w) pairs

abbrev pub keys_of : List (ℕ × List ℕ) → List ℕ
keys_of pairs = map (λ p. p.0) pairs

abbrev pub cells_of : List (ℕ × List ℕ) → List ℕ
cells_of pairs = flat_map (λ p. p.1) pairs

pub wide-snoc : (w : ℕ) (l : List (ℕ × List ℕ)) (p : ℕ × List ℕ) → Wide w l → length p.1 ≡ w → Wide w (l ++ p ∷ [])
wide-snoc w [] p h e = (e, tt)
wide-snoc w (x ∷ l) p h e = (h.0, wide-snoc w l p h.1 e)

wide-front : (w : ℕ) (l : List (ℕ × List ℕ)) (p : ℕ × List ℕ) → Wide w (l ++ p ∷ []) → Wide w l × (length p.1 ≡ w)
wide-front w [] p h = (tt, h.0)
wide-front w (x ∷ l) p h = let rest = wide-front w l p h.1 in ((h.0, rest.0), rest.1)

cells-snoc : (l : List (ℕ × List ℕ)) (p : ℕ × List ℕ) → cells_of (l ++ p ∷ []) ≡ cells_of l ++ p.1
cells-snoc l p = flat_map-append (λ (p : ℕ × List ℕ). p.1) l (p ∷ []) ∙ ap (λ r. cells_of l ++ r) (append-nil p.1)

keys-snoc : (l : List (ℕ × List ℕ)) (p : ℕ × List ℕ) → keys_of (l ++ p ∷ []) ≡ keys_of l ++ p.0 ∷ []
keys-snoc l p = map-append (λ (p : ℕ × List ℕ). p.0) l (p ∷ [])

pub length-cells : (w : ℕ) (l : List (ℕ × List ℕ)) → Wide w l → length (cells_of l) ≡ length l * w
length-cells w [] h = omega arith
length-cells w (x ∷ l) h =
    let e = length-append x.1 (cells_of l) in
    let f = length-cells w l h.1 in
    let g = h.0 in
    let m : (1 + length l) * w ≡ 1 * w + length l * w = add-mul 1 (length l) w in
    omega arith

length-keys : (l : List (ℕ × List ℕ)) → length (keys_of l) ≡ length l
length-keys l = length-map l (λ (p : ℕ × List ℕ). p.0)

-- ---- words that are written over

over-take : (a b n : ℕ) (xs ys : List ℕ) → a ≤ length xs → n ≡ a + length ys → take n (take a xs ++ (ys ++ drop b xs)) ≡ take a xs ++ ys
over-take a b n xs ys h e =
    let long : length (take a xs ++ ys) ≡ n = length-append (take a xs) ys ∙ let f = length-take-le a xs h in omega arith in
    ap (λ l. take n l) (sym (append_assoc (take a xs) ys (drop b xs))) ∙ take_at (take a xs ++ ys) (drop b xs) n long

over-drop : (a b n : ℕ) (xs ys : List ℕ) → a ≤ length xs → b ≡ a + length ys → b ≤ n → drop n (take a xs ++ (ys ++ drop b xs)) ≡ drop n xs
over-drop a b n xs ys h e f =
    let long : length (take a xs ++ ys) ≡ b = length-append (take a xs) ys ∙ let g = length-take-le a xs h in omega arith in
    let split : n ≡ b + (n - b) = omega arith in
    let all = take a xs ++ (ys ++ drop b xs) in
    ap (λ k. drop k all) split
    ∙ (sym (drop-drop (n - b) b all)
    ∙ (ap (λ l. drop (n - b) l) (ap (λ l. drop b l) (sym (append_assoc (take a xs) ys (drop b xs))) ∙ drop_at (take a xs ++ ys) (drop b xs) b long)
    ∙ (drop-drop (n - b) b xs ∙ ap (λ k. drop k xs) (sym split))))

-- ---- one place more

module _ (w kept place : ℕ) (keys cells : List ℕ) (done left : List (ℕ × List ℕ)) (p : ℕ × List ℕ)
    (whole : length cells ≡ length keys * w) (earlier : kept ≤ place) (within : place < length keys) (m : IsMoving w done (p ∷ left) kept place keys cells) where
  key_here : get_or keys place 0 ≡ p.0
  key_here = let a = drop-cons keys place 0 within in let b = m.back.each_key in cc

  keys_left : drop (place + 1) keys ≡ keys_of left
  keys_left = let a = drop-cons keys place 0 within in let b = m.back.each_key in let e : place + 1 ≡ suc place = omega arith in rw e cc

  next_place : (place + 1) * w ≡ place * w + w
  next_place = let e : (place + 1) * w ≡ place * w + 1 * w = add-mul place 1 w in omega arith

  next_kept : (kept + 1) * w ≡ kept * w + w
  next_kept = let e : (kept + 1) * w ≡ kept * w + 1 * w = add-mul kept 1 w in omega arith

  room : (place + 1) * w ≤ length cells
  room = let e : (place + 1) * w ≤ length keys * w = mul-le-mul (omega arith) (omega arith) in omega arith

  behind : kept * w ≤ place * w
  behind = mul-le-mul earlier (omega arith)

  cell_here : take w (drop (place * w) cells) ≡ p.1
  cell_here = ap (λ l. take w l) m.back.each_cell ∙ take_at p.1 (cells_of left) w m.back.wide.0

  cells_left : drop ((place + 1) * w) cells ≡ cells_of left
  cells_left =
      ap (λ n. drop n cells) next_place
      ∙ (sym (drop-drop w (place * w) cells)
      ∙ (ap (λ l. drop w l) m.back.each_cell ∙ drop_at p.1 (cells_of left) w m.back.wide.0))

  is_left : (keys' cells' : List ℕ) → drop (place + 1) keys' ≡ drop (place + 1) keys → drop ((place + 1) * w) cells' ≡ drop ((place + 1) * w) cells → ArePairs w left (drop (place + 1) keys') (drop ((place + 1) * w) cells')
  is_left keys' cells' k c = record { each_key = k ∙ keys_left; each_cell = c ∙ cells_left; wide = m.back.wide.1 }

  -- a cell that is put at the end
  pub moved_on : (keys' cells' : List ℕ) → keys' ≡ set keys kept (get_or keys place 0) → cells' ≡ copy_within cells (place * w) ((place + 1) * w) (kept * w) → IsMoving w (done ++ p ∷ []) left (kept + 1) (place + 1) keys' cells'
  moved_on keys' cells' k c =
      let width : (place + 1) * w - place * w ≡ w = let e = next_place in omega arith in
      let at = kept * w in
      let near : at ≤ length cells = let e = room in let f = behind in let g = next_place in omega arith in
      let is : cells' ≡ take at cells ++ (p.1 ++ drop (at + w) cells) = c ∙ (append_assoc (take at cells) (take ((place + 1) * w - place * w) (drop (place * w) cells)) (drop (at + ((place + 1) * w - place * w)) cells)
      ∙ (ap (λ n. take at cells ++ (take n (drop (place * w) cells) ++ drop (at + n) cells)) width ∙ ap (λ l. take at cells ++ (l ++ drop (at + w) cells)) cell_here)) in
      let wide : length p.1 ≡ w = m.back.wide.0 in
      let first : take ((kept + 1) * w) cells' ≡ cells_of (done ++ p ∷ []) =
      ap (λ l. take ((kept + 1) * w) l) is
      ∙ (over-take at (at + w) ((kept + 1) * w) cells p.1 near (let e = next_kept in omega arith)
      ∙ (ap (λ l. l ++ p.1) m.front.each_cell ∙ sym (cells-snoc done p))) in
      let keyed : take (kept + 1) keys' ≡ keys_of (done ++ p ∷ []) =
      ap (λ l. take (kept + 1) l) k
      ∙ (take_more_set keys kept (get_or keys place 0) (omega arith)
      ∙ (ap (λ l. l ++ get_or keys place 0 ∷ []) m.front.each_key
      ∙ (ap (λ x. keys_of done ++ x ∷ []) key_here ∙ sym (keys-snoc done p)))) in
      record {
        front = record { each_key = keyed; each_cell = first; wide = wide-snoc w done p m.front.wide wide };
        back = is_left keys' cells'
            (ap (λ l. drop (place + 1) l) k ∙ drop-set-lt (place + 1) keys kept (get_or keys place 0) (omega arith))
            (ap (λ l. drop ((place + 1) * w) l) is ∙ over-drop at (at + w) ((place + 1) * w) cells p.1 near (omega arith) (let e = next_place in let f = behind in omega arith));
      }

  -- a cell that is merged into the last of those that are kept
  pub merged_last : (spec : CellSpec) (before : List (ℕ × List ℕ)) (q : ℕ × List ℕ) (cells' : List ℕ) → w ≡ cell_width spec → done ≡ before ++ q ∷ [] → 0 < kept
      → cells' ≡ take ((kept - 1) * w) cells ++ (merge spec (take w (drop ((kept - 1) * w) cells)) (take w (drop (place * w) cells)) ++ drop ((kept - 1 + 1) * w) cells)
      → IsMoving w (before ++ (q.0, merge spec q.1 p.1) ∷ []) left kept (place + 1) keys cells'
  merged_last spec before q cells' is-w is-done some c =
      let last = kept - 1 in
      let at = last * w in
      let whole_front : Wide w (before ++ q ∷ []) = rw (← is-done) m.front.wide in
      let parts = wide-front w before q whole_front in
      let count : length done ≡ kept = sym (let e = length-take-le kept keys (omega arith) in sym e ∙ (ap (λ l. length l) m.front.each_key ∙ length-keys done)) in
      let shorter : length before ≡ last = let e = length-append before (q ∷ []) in let f : length done ≡ length (before ++ q ∷ []) = ap (λ l. length l) is-done in omega arith in
      let start : length (cells_of before) ≡ at = length-cells w before parts.0 ∙ ap (λ n. n * w) shorter in
      let step : (last + 1) * w ≡ at + w = let e : (last + 1) * w ≡ last * w + 1 * w = add-mul last 1 w in omega arith in
      let end : kept * w ≡ at + w = let e : kept ≡ last + 1 = omega arith in ap (λ n. n * w) e ∙ step in
      let near : at ≤ length cells = let e = room in let f = behind in let g = next_place in omega arith in
      let both : take (kept * w) cells ≡ cells_of before ++ q.1 = m.front.each_cell ∙ (ap cells_of is-done ∙ cells-snoc before q) in
      let first : take at cells ≡ cells_of before = sym (take-take at (kept * w) cells (omega arith)) ∙ (ap (λ l. take at l) both ∙ take_at (cells_of before) q.1 at start) in
      let own : take w (drop at cells) ≡ q.1 = sym (drop-take at w cells) ∙ (ap (λ n. drop at (take n cells)) (sym end) ∙ (ap (λ l. drop at l) both ∙ drop_at (cells_of before) q.1 at start)) in
      let merged = merge spec q.1 p.1 in
      let wide : length merged ≡ w = length-merge_blocks (blocks spec.group spec.labels) spec.items q.1 p.1 ∙ sym is-w in
      let is : cells' ≡ take at cells ++ (merged ++ drop (at + w) cells) = c ∙ (ap (λ l. take at cells ++ (merge spec l (take w (drop (place * w) cells)) ++ drop ((last + 1) * w) cells)) own
      ∙ (ap (λ l. take at cells ++ (merge spec q.1 l ++ drop ((last + 1) * w) cells)) cell_here ∙ ap (λ n. take at cells ++ (merged ++ drop n cells)) step)) in
      record {
        front = record {
          each_key = m.front.each_key ∙ (ap keys_of is-done ∙ (keys-snoc before q ∙ sym (keys-snoc before (q.0, merged))));
          each_cell = ap (λ l. take (kept * w) l) is ∙ (over-take at (at + w) (kept * w) cells merged near (omega arith) ∙ (ap (λ l. l ++ merged) first ∙ sym (cells-snoc before (q.0, merged))));
          wide = wide-snoc w before (q.0, merged) parts.0 wide;
        };
        back = is_left keys cells' refl (ap (λ l. drop ((place + 1) * w) l) is ∙ over-drop at (at + w) ((place + 1) * w) cells merged near (omega arith) (let e = next_place in let f = behind in omega arith));
      }

  -- ---- the last of those that are kept

  count_done : length done ≡ kept
  count_done = sym (length-keys done) ∙ (ap (λ l. length l) (sym m.front.each_key) ∙ length-take-le kept keys (omega arith))

  abbrev pub last : ℕ × List ℕ
  last = get_or done (kept - 1) (0, [])

  with_last : 0 < kept → done ≡ take (kept - 1) done ++ last ∷ []
  with_last some =
      let n = count_done in
      let e : length done ≤ kept - 1 + 1 = omega arith in
      sym (take_all (kept - 1 + 1) done e) ∙ take_more done (kept - 1) (0, []) (omega arith)

  last_key : 0 < kept → last.0 ≡ get_or keys (kept - 1) 0
  last_key some =
      let n = count_done in
      sym (get_or-map {X = ℕ × List ℕ} {Y = ℕ} (λ q. q.0) done (kept - 1) (0, []) 0 (omega arith))
      ∙ (ap (λ l. get_or l (kept - 1) 0) (sym m.front.each_key) ∙ get_or-take kept keys (kept - 1) 0 (omega arith))

  empty : (l : List (ℕ × List ℕ)) → length l ≡ 0 → l ≡ []
  empty [] e = refl
  empty (x ∷ l) e = absurd (omega arith)

  pub put_first : (spec : CellSpec) → kept ≡ 0 → put_behind spec done p ≡ done ++ p ∷ []
  put_first spec none = let e = empty done (count_done ∙ none) in rw e (behind_none spec p)

  pub put_other : (spec : CellSpec) → 0 < kept → get_or keys (kept - 1) 0 ≢ get_or keys place 0 → put_behind spec done p ≡ done ++ p ∷ []
  put_other spec some differ =
      let l = take (kept - 1) done in
      ap (λ d. put_behind spec d p) (with_last some)
      ∙ (behind_other spec l last p (λ e. differ (sym (last_key some) ∙ (e ∙ sym key_here)))
      ∙ (sym (append_assoc l (last ∷ []) (p ∷ [])) ∙ ap (λ d. d ++ p ∷ []) (sym (with_last some))))

  pub put_same : (spec : CellSpec) → 0 < kept → get_or keys (kept - 1) 0 ≡ get_or keys place 0 → put_behind spec done p ≡ take (kept - 1) done ++ (last.0, merge spec last.1 p.1) ∷ []
  put_same spec some same = ap (λ d. put_behind spec d p) (with_last some) ∙ behind_same spec (take (kept - 1) done) last p (last_key some ∙ (same ∙ key_here))

  pub put_moved : (spec : CellSpec) (keys' cells' : List ℕ) → put_behind spec done p ≡ done ++ p ∷ []
      → keys' ≡ set keys kept (get_or keys place 0) → cells' ≡ copy_within cells (place * w) ((place + 1) * w) (kept * w) → IsMoving w (put_behind spec done p) left (kept + 1) (place + 1) keys' cells'
  put_moved spec keys' cells' e k c = subst (λ d. IsMoving w d left (kept + 1) (place + 1) keys' cells') (sym e) (moved_on keys' cells' k c)

  pub put_merged : (spec : CellSpec) (cells' : List ℕ) → w ≡ cell_width spec → 0 < kept → get_or keys (kept - 1) 0 ≡ get_or keys place 0
      → cells' ≡ take ((kept - 1) * w) cells ++ (merge spec (take w (drop ((kept - 1) * w) cells)) (take w (drop (place * w) cells)) ++ drop ((kept - 1 + 1) * w) cells)
      → IsMoving w (put_behind spec done p) left kept (place + 1) keys cells'
  put_merged spec cells' is-w some same c = subst (λ d. IsMoving w d left kept (place + 1) keys cells') (sym (put_same spec some same)) (merged_last spec (take (kept - 1) done) last cells' is-w (with_last some) some c)

-- ---- all places

pub start_moving : (spec : CellSpec) (w : ℕ) (pairs : List (ℕ × List ℕ)) (keys cells : List ℕ) → ArePairs w pairs keys cells → IsMoving w (runs spec (take 0 pairs)) (drop 0 pairs) 0 0 keys cells
start_moving spec w pairs keys cells are =
    let none : 0 * w ≡ 0 = omega arith in record {
      front = record { each_key = refl; each_cell = ap (λ n. take n cells) none; wide = tt };
      back = subst (λ n. ArePairs w pairs keys (drop n cells)) (sym none) are;
    }

pub keep_moving : (spec : CellSpec) (w : ℕ) (pairs : List (ℕ × List ℕ)) (kept kept' place : ℕ) (keys cells keys' cells' : List ℕ) → place < length pairs
    → IsMoving w (runs spec (take place pairs)) (drop place pairs) kept place keys cells
    → ((done left : List (ℕ × List ℕ)) (p : ℕ × List ℕ) → IsMoving w done (p ∷ left) kept place keys cells → IsMoving w (put_behind spec done p) left kept' (place + 1) keys' cells')
    → IsMoving w (runs spec (take (place + 1) pairs)) (drop (place + 1) pairs) kept' (place + 1) keys' cells'
keep_moving spec w pairs kept kept' place keys cells keys' cells' within m step =
    let p : ℕ × List ℕ = get_or pairs place (0, []) in
    let done = runs spec (take place pairs) in
    let now : IsMoving w done (p ∷ drop (place + 1) pairs) kept place keys cells = subst (λ l. IsMoving w done l kept place keys cells) (let e : place + 1 ≡ suc place = omega arith in rw e (drop-cons pairs place (0, []) within)) m in
    let more : runs spec (take (place + 1) pairs) ≡ put_behind spec done p = ap (λ l. runs spec l) (take_more pairs place (0, []) within) ∙ fold-append (put_behind spec) [] (take place pairs) (p ∷ []) in
    subst (λ l. IsMoving w l (drop (place + 1) pairs) kept' (place + 1) keys' cells') (sym more) (step done (drop (place + 1) pairs) p now)

pub all_moved : (spec : CellSpec) (w : ℕ) (pairs : List (ℕ × List ℕ)) (kept place : ℕ) (keys cells : List ℕ) → length pairs ≤ place
    → IsMoving w (runs spec (take place pairs)) (drop place pairs) kept place keys cells → ArePairs w (runs spec pairs) (take kept keys) (take (kept * w) cells)
all_moved spec w pairs kept place keys cells past m = subst (λ l. ArePairs w (runs spec l) (take kept keys) (take (kept * w) cells)) (take_all place pairs past) m.front

-- there are as many pairs as keys
pub count_pairs : (w : ℕ) (pairs : List (ℕ × List ℕ)) (keys cells : List ℕ) → ArePairs w pairs keys cells → length pairs ≡ length keys
count_pairs w pairs keys cells are = sym (ap (λ l. length l) are.each_key ∙ length-keys pairs)
