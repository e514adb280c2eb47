-- The canonical text of a shape: it is read as that shape alone, and it is never too long for a frame.
use Rattle.std.proofs.Common.{◌≡◌, ℕ, ◌*◌, ◌≤◌, Bool, true, false, cond, nat_le, ◌&&◌, List, [], ◌∷◌, ◌++◌, length, map, All, Some, None, Result, Ok, Err, refl, ap, ◌∙◌, arith, codes, length-append}
use Rattle.std.specs.Fmt.{decimal}
use Rattle.std.specs.List.{list_all, join_with_byte}
use Rattle.std.specs.Str.{bytes_eq}
use Rattle.std.proofs.lemmas.Fmt.{length-decimal-le}
use Rattle.std.proofs.lemmas.Bool.Decides.{nat_tests}
use Rattle.std.proofs.lemmas.List.Elements.{All-head, All-tail}
use Rattle.std.proofs.lemmas.Slice.Eq.{bytes_eq-Decides}
use Rattle.spl_values.specs.Names.{is_name, is_label}
use Rattle.spl_values.specs.Kinds.{is_kind}
use Rattle.spl_values.specs.Shapes.{ColumnParts, ShapeParts, IsColumn, IsShape}
use Rattle.spl_values.specs.ShapeTexts.{kind_text, column_line, text_of_lines, shape_text, shape_of}
use Rattle.spl_values.specs.declared.kinds.ColumnType.{ColumnType}
use Rattle.spl_values.specs.declared.kinds.ColumnType.TheVariants.{Uint, Text, Enum}
use Rattle.spl_values.specs.declared.shape_reader.ShapeFault.{ShapeFault}
use Rattle.spl_values.proofs.CodeLaws.{number_bits, text_bytes}
use Rattle.spl_values.proofs.ShapeRoundTrip.{printed_reads}
use Rattle.spl_values.proofs.ShapeSpelling.{read_is_text}
use Rattle.key_frames.specs.Texts.{if_canonical, canonical_shape}

some_of : (b : Bool) (x y : ShapeParts) → cond b (Some x) None ≡ Some y → (b ≡ true) × (x ≡ y)
some_of true x y e = (refl, cc)
some_of false x y e = absurd cc

canonical_is : (text : List ℕ) (r : Result ShapeParts ShapeFault) (x : ShapeParts) → if_canonical text r ≡ Some x → (r ≡ Ok x) × (text ≡ shape_text x)
canonical_is text (Ok s) x e =
    let t = some_of (bytes_eq text (shape_text s)) s x e in
    (ap (λ (y : ShapeParts). Ok y) t.1, (bytes_eq-Decides text (shape_text s)).0 t.0 ∙ ap (λ (y : ShapeParts). shape_text y) t.1)
canonical_is text (Err f) x e = absurd cc

pub shape_spelled : (text : List ℕ) (x : ShapeParts) → canonical_shape text ≡ Some x → IsShape x × (text ≡ shape_text x)
unfolding canonical_shape
shape_spelled text x e =
    let c = canonical_is text (shape_of text) x e in
    ((read_is_text text x c.0).valid, c.1)

pub shape_decoded : (x : ShapeParts) → IsShape x → canonical_shape (shape_text x) ≡ Some x
unfolding canonical_shape
shape_decoded x is =
    ap (if_canonical (shape_text x)) (printed_reads x is) ∙ ap (λ (b : Bool). cond b (Some x) None) ((bytes_eq-Decides (shape_text x) (shape_text x)).1 refl)

-- ---- lengths

first_so : (a b : Bool) → (a && b) ≡ true → a ≡ true
first_so true b h = refl
first_so false b h = absurd cc

second_so : (a b : Bool) → (a && b) ≡ true → b ≡ true
second_so true b h = h
second_so false b h = absurd cc

name_length : (name : List ℕ) → is_name name ≡ true → length name ≤ 32
unfolding is_name
name_length [] h = omega arith
name_length (b ∷ bs) h = let few : nat_le (length bs) 31 ≡ true = grind (arith, nat_tests) in grind (arith, nat_tests)

label_length : (label : List ℕ) → is_label label ≡ true → length label ≤ 32
unfolding is_label
label_length label h = grind (arith, nat_tests)

labels_length : (labels : List (List ℕ)) → list_all is_label labels ≡ true → length (join_with_byte 124 labels) ≤ 33 * length labels
labels_length [] h = omega arith
labels_length (label ∷ []) h = omega (arith, label_length label (first_so (is_label label) true h))
labels_length (label ∷ next ∷ labels) h =
    omega (arith, length-append label (124 ∷ join_with_byte 124 (next ∷ labels)), label_length label (first_so (is_label label) (list_all is_label (next ∷ labels)) h), labels_length (next ∷ labels) (second_so (is_label label) (list_all is_label (next ∷ labels)) h))

kind_length : (kind : ColumnType) → is_kind kind ≡ true → length (kind_text kind) ≤ 2118
unfolding kind_text
kind_length (Uint b) h = let some = number_bits b h in omega (arith, length-append (decimal b) (codes ")"), length-decimal-le 2 b (omega arith) (omega (arith, some)) (omega (arith, some)))
kind_length (Text k) h = let some = text_bytes k h in omega (arith, length-append (decimal k) (codes ")"), length-decimal-le 2 k (omega arith) (omega (arith, some)) (omega (arith, some)))
kind_length (Enum labels) h =
    let all : list_all is_label labels ≡ true = grind (arith, nat_tests) in
    let few : length labels ≤ 64 = grind (arith, nat_tests) in
    omega (arith, length-append (join_with_byte 124 labels) (codes ")"), labels_length labels all, few)

columns_length : (cs : List ColumnParts) → All IsColumn cs → length (text_of_lines (map column_line cs)) ≤ 2152 * length cs
unfolding text_of_lines
columns_length [] h = omega arith
columns_length (c ∷ cs) h =
    let column = All-head IsColumn c cs h in
    omega (arith, length-append (column_line c) (10 ∷ text_of_lines (map column_line cs)), length-append c.name (32 ∷ kind_text c.kind), name_length c.name column.named, kind_length c.kind column.typed, columns_length cs (All-tail IsColumn c cs h))

-- a shape's canonical text has 1 to 51,700 bytes
pub shape_length : (s : ShapeParts) → IsShape s → (1 ≤ length (shape_text s)) × (length (shape_text s) ≤ 51700)
unfolding text_of_lines
shape_length s h =
    let rows = text_of_lines (map column_line s.schema.columns) in
    let columns = columns_length s.schema.columns h.schema.columns in
    let name = name_length s.schema.table h.schema.named in
    let number = length-decimal-le 6 s.rows (omega arith) (omega (arith, h.few)) (omega (arith, h.few)) in
    let first = length-append s.schema.table (10 ∷ ((codes "rows " ++ decimal s.rows) ++ 10 ∷ rows)) in
    let second = length-append (decimal s.rows) (10 ∷ rows) in
    (omega (arith, first), omega (arith, first, second, columns, name, number, h.schema.few))

-- so the two bytes of its length hold it
pub shape_fits : (s : ShapeParts) → IsShape s → (1 ≤ length (shape_text s)) × (length (shape_text s) ≤ 65535)
shape_fits s h = let few = shape_length s h in (few.0, omega (arith, few.1))
