-- Texts of lines and of labels, as they are printed.
use Rattle.std.proofs.Common.{◌≡◌, ℕ, ◌+◌, ◌<◌, List, [], ◌∷◌, ◌++◌, length, map, take, get_or, refl, sym, ap, ◌∙◌, arith, append_assoc, codes}
use Rattle.std.specs.List.{join_with_byte}
use Rattle.std.proofs.lemmas.List.{take_more, map-append, length-take}
use Rattle.spl_values.specs.Shapes.{ColumnParts, ShapeParts}
use Rattle.spl_values.specs.ShapeTexts.{text_of_lines, column_line, shape_text}
use Rattle.std.specs.Fmt.{decimal}

pub lines-append : (a b : List (List ℕ)) → text_of_lines (a ++ b) ≡ text_of_lines a ++ text_of_lines b
unfolding text_of_lines
lines-append [] b = refl
lines-append (l ∷ ls) b = rw (lines-append ls b) (sym (append_assoc l (10 ∷ text_of_lines ls) (text_of_lines b)))

pub lines-push : (a : List (List ℕ)) (l : List ℕ) → text_of_lines (a ++ l ∷ []) ≡ text_of_lines a ++ (l ++ 10 ∷ [])
unfolding text_of_lines
lines-push a l = lines-append a (l ∷ [])

-- the text of one more column
pub columns_text-more : (cs : List ColumnParts) (i : ℕ) (c : ColumnParts) (text : List ℕ) → i < length cs → c ≡ get_or cs i c
    → (text ++ text_of_lines (map column_line (take i cs))) ++ (column_line c ++ 10 ∷ []) ≡ text ++ text_of_lines (map column_line (take (i + 1) cs))
columns_text-more cs i c text h e =
    let one : take (i + 1) cs ≡ take i cs ++ c ∷ [] = take_more cs i c h ∙ ap (λ x. take i cs ++ x ∷ []) (sym e) in
    let lines : map column_line (take (i + 1) cs) ≡ map column_line (take i cs) ++ column_line c ∷ [] = ap (map column_line) one ∙ map-append column_line (take i cs) (c ∷ []) in
    append_assoc text (text_of_lines (map column_line (take i cs))) (column_line c ++ 10 ∷ [])
    ∙ ap (λ t. text ++ t) (sym (ap text_of_lines lines ∙ lines-push (map column_line (take i cs)) (column_line c)))

-- one more label behind others
join-push : (xs : List (List ℕ)) (y : List ℕ) → 0 < length xs → join_with_byte 124 (xs ++ y ∷ []) ≡ join_with_byte 124 xs ++ 124 ∷ y
join-push [] y h = absurd (omega arith)
join-push (x ∷ []) y h = refl
join-push (x ∷ z ∷ xs) y h = ap (λ t. x ++ 124 ∷ t) (join-push (z ∷ xs) y (omega arith)) ∙ sym (append_assoc x (124 ∷ join_with_byte 124 (z ∷ xs)) (124 ∷ y))

pub labels-first : (labels : List (List ℕ)) (label : List ℕ) → 0 < length labels → label ≡ get_or labels 0 label → join_with_byte 124 (take 1 labels) ≡ label
labels-first [] label h e = absurd (omega arith)
labels-first (l ∷ ls) label h e = sym e

pub labels-more : (labels : List (List ℕ)) (i : ℕ) (label : List ℕ) → 0 < i → i < length labels → label ≡ get_or labels i label
    → join_with_byte 124 (take (i + 1) labels) ≡ join_with_byte 124 (take i labels) ++ 124 ∷ label
labels-more labels i label some h e =
    let one : take (i + 1) labels ≡ take i labels ++ label ∷ [] = take_more labels i label h ∙ ap (λ x. take i labels ++ x ∷ []) (sym e) in
    ap (join_with_byte 124) one ∙ join-push (take i labels) label (omega (arith, length-take i labels))

-- the first two lines and those of the columns
pub text_of_shape : (s : ShapeParts) (text : List ℕ)
    → text ≡ text_of_lines ((codes "table " ++ s.schema.table) ∷ (codes "rows " ++ decimal s.rows) ∷ []) ++ text_of_lines (map column_line s.schema.columns) → text ≡ shape_text s
text_of_shape s text e = e ∙ sym (lines-append ((codes "table " ++ s.schema.table) ∷ (codes "rows " ++ decimal s.rows) ∷ []) (map column_line s.schema.columns))
