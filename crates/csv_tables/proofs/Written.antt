-- Rows and records, as they are written.
use Rattle.std.proofs.Common.{◌≡◌, ℕ, zero, suc, ◌+◌, ◌<◌, ◌≤◌, List, [], ◌∷◌, ◌++◌, length, take, drop, get_or, map, Some, refl, sym, ap, ◌∙◌, add-one, append_assoc, slice_get}
use Rattle.std.proofs.lemmas.List.{append-nil, take_more, map-append, drop_all}
use Rattle.csv.specs.Writing.{default_writer, row_text}
use Rattle.spl_values.specs.CellTexts.{text_of_value}
use Rattle.spl_values.specs.Shapes.{ColumnParts}
use Rattle.spl_values.specs.declared.values.Value.{Value}
use Rattle.csv_tables.specs.Writing.{fields_of_row, records_text}

-- the fields of a row, one by one
pub fields-next : (cs : List ColumnParts) (vs : List Value) (n : ℕ) (c : ColumnParts) (v : Value) → slice_get cs n ≡ Some c → slice_get vs n ≡ Some v
    → fields_of_row (drop n cs) (drop n vs) ≡ text_of_value c.kind v ∷ fields_of_row (drop (n + 1) cs) (drop (n + 1) vs)
unfolding fields_of_row
fields-next cs vs n c v e f = rw add-one (from cs vs n c v e f)
  where
    from : (cs : List ColumnParts) (vs : List Value) (n : ℕ) (c : ColumnParts) (v : Value) → slice_get cs n ≡ Some c → slice_get vs n ≡ Some v
        → fields_of_row (drop n cs) (drop n vs) ≡ text_of_value c.kind v ∷ fields_of_row (drop (suc n) cs) (drop (suc n) vs)
    from [] vs n c v e f = absurd cc
    from (d ∷ ds) [] n c v e f = absurd cc
    from (d ∷ ds) (w ∷ ws) zero c v e f = let one : d ≡ c = cc in let two : w ≡ v = cc in rw (one, two) refl
    from (d ∷ ds) (w ∷ ws) (suc n) c v e f = from ds ws n c v e f

pub fields-more : (cs : List ColumnParts) (vs : List Value) (n : ℕ) (c : ColumnParts) (v : Value) (fields : List (List ℕ)) → slice_get cs n ≡ Some c → slice_get vs n ≡ Some v
    → fields_of_row cs vs ≡ fields ++ fields_of_row (drop n cs) (drop n vs)
    → fields_of_row cs vs ≡ (fields ++ text_of_value c.kind v ∷ []) ++ fields_of_row (drop (n + 1) cs) (drop (n + 1) vs)
fields-more cs vs n c v fields e f whole =
    whole ∙ ap (λ t. fields ++ t) (fields-next cs vs n c v e f) ∙ sym (append_assoc fields (text_of_value c.kind v ∷ []) (fields_of_row (drop (n + 1) cs) (drop (n + 1) vs)))

pub fields-end : (cs : List ColumnParts) (vs : List Value) (n : ℕ) (fields : List (List ℕ)) → length cs ≤ n → fields_of_row cs vs ≡ fields ++ fields_of_row (drop n cs) (drop n vs) → fields_of_row cs vs ≡ fields
unfolding fields_of_row
fields-end cs vs n fields h whole = let over : drop n cs ≡ [] = drop_all n cs h in rw (over, append-nil) at whole

-- records one after another
pub records-push : (rs : List (List (List ℕ))) (r : List (List ℕ)) → records_text (rs ++ r ∷ []) ≡ records_text rs ++ row_text default_writer r
unfolding records_text
records-push [] r = append-nil (row_text default_writer r)
records-push (s ∷ rs) r = ap (λ t. row_text default_writer s ++ t) (records-push rs r) ∙ sym (append_assoc (row_text default_writer s) (records_text rs) (row_text default_writer r))

-- the text of one more row
pub rows_text-more : (f : List Value → List (List ℕ)) (rows : List (List Value)) (n : ℕ) (text : List ℕ) → n < length rows
    → (text ++ records_text (map f (take n rows))) ++ row_text default_writer (f (get_or rows n [])) ≡ text ++ records_text (map f (take (n + 1) rows))
rows_text-more f rows n text h =
    let one : take (n + 1) rows ≡ take n rows ++ get_or rows n [] ∷ [] = take_more rows n [] h in
    let records : map f (take (n + 1) rows) ≡ map f (take n rows) ++ f (get_or rows n []) ∷ [] = ap (map f) one ∙ map-append f (take n rows) (get_or rows n [] ∷ []) in
    append_assoc text (records_text (map f (take n rows))) (row_text default_writer (f (get_or rows n [])))
    ∙ ap (λ t. text ++ t) (sym (ap records_text records ∙ records-push (map f (take n rows)) (f (get_or rows n []))))

pub records-cons : (r : List (List ℕ)) (rs : List (List (List ℕ))) → records_text (r ∷ rs) ≡ row_text default_writer r ++ records_text rs
unfolding records_text
records-cons r rs = refl
