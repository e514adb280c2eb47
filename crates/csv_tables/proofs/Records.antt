-- Records of a text, one by one, and the rows that they are.
use Rattle.std.proofs.Common.{◌≡◌, ℕ, zero, suc, ◌+◌, ◌-◌, ◌<◌, ◌≤◌, ◌==◌, Bool, true, false, cond, List, [], ◌∷◌, ◌++◌, length, take, Option, Some, None, Result, Ok, Err, refl, sym, ap, subst, ◌∙◌, arith, append_assoc, length-append}
use Rattle.std.specs.Borrow.{Bor}
use Rattle.std.specs.Cmp.Lexicographic.{pointwise}
use Rattle.std.specs.Str.{bytes_eq}
use Rattle.std.proofs.lemmas.List.{append-nil}
use Rattle.csv.specs.Machine.{Read, in_field, start_field, start_record, ends_with, step, is_end, ends_at_end, next_record, fields_after, field_after}
use Rattle.csv.specs.Reading.{default_config, records_from, strip_bom}
use Rattle.csv.specs.declared.parser.State.{State}
use Rattle.csv.specs.declared.parser.State.TheVariants as st
use Rattle.csv.specs.declared.parser.Terminator.TheVariants as term
use Rattle.csv.specs.declared.parser.Action.{Action}
use Rattle.csv.specs.declared.parser.Action.TheVariants as act
use Rattle.csv.specs.declared.reader.Reader.{Reader}
use Rattle.spl_values.specs.Shapes.{ColumnParts, names_of}
use Rattle.spl_values.specs.ShapeTexts.{result_and_then}
use Rattle.spl_values.specs.declared.values.Value.{Value}
use Rattle.csv_tables.specs.Reading.{row_of, rows_of, rows_under_header, records_of, joined}
use Rattle.csv_tables.specs.Standing.{StandsAt, Took}
use Rattle.csv_tables.specs.declared.fault.TableFault.{TableFault}
use Rattle.csv_tables.specs.declared.fault.TableFault.TheVariants as fault

-- a byte that ends a record leaves the machine where the text may end
in_field_end : (c : ℕ) → is_end (in_field default_config c).1 ≡ true → ends_at_end (in_field default_config c).0 ≡ false
in_field_end c h =
    elim (c == 44) as (λ a. is_end (inner a (ends_with term.CRLF c) (c == 13)).1 ≡ true → ends_at_end (inner a (ends_with term.CRLF c) (c == 13)).0 ≡ false) [
      | true ↦ λ e. absurd cc
      | false ↦ λ e. elim (ends_with term.CRLF c) as (λ b. is_end (inner false b (c == 13)).1 ≡ true → ends_at_end (inner false b (c == 13)).0 ≡ false) [
        | true ↦ λ f. elim (c == 13) as (λ d. ends_at_end (inner false true d).0 ≡ false) [ true ↦ refl | false ↦ refl ]
        | false ↦ λ f. absurd cc
      ] e
    ] h
  where
    inner : Bool → Bool → Bool → State × Action
    inner a b d = cond a (st.StartField, act.EndField) (cond b (cond d st.AfterCr st.StartRecord, act.EndRecord) (st.InField, act.Copy))

start_field_end : (c : ℕ) → is_end (start_field default_config c).1 ≡ true → ends_at_end (start_field default_config c).0 ≡ false
start_field_end c h =
    elim (c == 34) as (λ a. is_end (cond {A = State × Action} a (st.InQuoted, act.Skip) (in_field default_config c)).1 ≡ true → ends_at_end (cond {A = State × Action} a (st.InQuoted, act.Skip) (in_field default_config c)).0 ≡ false)
    [ true ↦ λ e. absurd cc | false ↦ λ e. in_field_end c e ] h

start_record_end : (c : ℕ) → is_end (start_record default_config c).1 ≡ true → ends_at_end (start_record default_config c).0 ≡ false
start_record_end c h =
    elim (ends_with term.CRLF c) as (λ a. is_end (cond {A = State × Action} a (st.StartRecord, act.Skip) (start_field default_config c)).1 ≡ true → ends_at_end (cond {A = State × Action} a (st.StartRecord, act.Skip) (start_field default_config c)).0 ≡ false)
    [ true ↦ λ e. absurd cc | false ↦ λ e. start_field_end c e ] h

end_state : (s : State) (c : ℕ) → is_end (step default_config s c).1 ≡ true → ends_at_end (step default_config s c).0 ≡ false
end_state st.StartRecord c h = start_record_end c h
end_state st.StartField c h = start_field_end c h
end_state st.InField c h = in_field_end c h
end_state st.InQuoted c h =
    elim (c == 34) as (λ a. is_end (cond {A = State × Action} a (st.AfterQuote, act.Skip) (st.InQuoted, act.Copy)).1 ≡ true → ends_at_end (cond {A = State × Action} a (st.AfterQuote, act.Skip) (st.InQuoted, act.Copy)).0 ≡ false)
    [ true ↦ λ e. absurd cc | false ↦ λ e. absurd cc ] h
end_state st.InEscape c h = absurd cc
end_state st.AfterQuote c h =
    elim (c == 34) as (λ a. is_end (cond {A = State × Action} a (st.InQuoted, act.Copy) (in_field default_config c)).1 ≡ true → ends_at_end (cond {A = State × Action} a (st.InQuoted, act.Copy) (in_field default_config c)).0 ≡ false)
    [ true ↦ λ e. absurd cc | false ↦ λ e. in_field_end c e ] h
end_state st.InComment c h =
    elim (c == 10) as (λ a. is_end (cond {A = State × Action} a (st.StartRecord, act.Skip) (st.InComment, act.Skip)).1 ≡ true → ends_at_end (cond {A = State × Action} a (st.StartRecord, act.Skip) (st.InComment, act.Skip)).0 ≡ false)
    [ true ↦ λ e. absurd cc | false ↦ λ e. absurd cc ] h
end_state st.AfterCr c h =
    elim (c == 10) as (λ a. is_end (cond {A = State × Action} a (st.StartRecord, act.Skip) (start_record default_config c)).1 ≡ true → ends_at_end (cond {A = State × Action} a (st.StartRecord, act.Skip) (start_record default_config c)).0 ≡ false)
    [ true ↦ λ e. absurd cc | false ↦ λ e. start_record_end c e ] h

-- what a record leaves of a text: less of it, unless the text ended in the record
pub record Leaves (s : State) (xs : List ℕ) (p : Read) : Type 0 where
  pub shorter : ends_at_end s ≡ false → length p.2 < length xs
  pub short : length p.2 ≤ length xs
  pub ends : ends_at_end p.1 ≡ false

pub record_leaves : (xs : List ℕ) (s : State) (fields : List (List ℕ)) (field : List ℕ) (p : Read) → next_record default_config s fields field xs ≡ Some p → Leaves s xs p
unfolding next_record
record_leaves [] s fields field p e =
    elim (ends_at_end s) as (λ b. ends_at_end s ≡ b → cond b (Some (fields ++ (field ∷ []), st.StartRecord, [])) None ≡ Some p → Leaves s [] p) [
      | true ↦ λ t f. let same : (fields ++ (field ∷ []), st.StartRecord, []) ≡ p = some_is (fields ++ (field ∷ []), st.StartRecord, []) p f in
          subst (λ (q : Read). Leaves s [] q) same (record { shorter = λ u. absurd cc; short = omega arith; ends = refl })
      | false ↦ λ t f. absurd cc
    ] refl e
  where
    some_is : (a b : Read) → ◌≡◌ {A = Option Read} (Some a) (Some b) → a ≡ b
    some_is a b e = cc
record_leaves (c ∷ rest) s fields field p e =
    by_end (is_end (step default_config s c).1) refl e
    (λ f. record_leaves rest (step default_config s c).0 (fields_after (step default_config s c).1 fields field) (field_after (step default_config s c).1 c field) p f)
  where
    some_is : (a b : Read) → ◌≡◌ {A = Option Read} (Some a) (Some b) → a ≡ b
    some_is a b e = cc

    by_end : (t : Bool) → is_end (step default_config s c).1 ≡ t
        → cond t (Some (fields_after (step default_config s c).1 fields field, (step default_config s c).0, rest))
        (next_record default_config (step default_config s c).0 (fields_after (step default_config s c).1 fields field) (field_after (step default_config s c).1 c field) rest) ≡ Some p
        → (next_record default_config (step default_config s c).0 (fields_after (step default_config s c).1 fields field) (field_after (step default_config s c).1 c field) rest ≡ Some p → Leaves (step default_config s c).0 rest p)
        → Leaves s (c ∷ rest) p
    by_end true h f again =
        let same = some_is (fields_after (step default_config s c).1 fields field, (step default_config s c).0, rest) p f in
        subst (λ (q : Read). Leaves s (c ∷ rest) q) same (record { shorter = λ u. omega arith; short = omega arith; ends = end_state s c h })
    by_end false h f again = let tail = again f in record { shorter = λ u. omega (arith, tail.short); short = omega (arith, tail.short); ends = tail.ends }

-- the records of a text from one on
pub records-some : (n : ℕ) (s : State) (xs : List ℕ) (p : Read) → 0 < n → next_record default_config s [] [] xs ≡ Some p → records_from default_config n s xs ≡ p.0 ∷ records_from default_config (n - 1) p.1 p.2
unfolding records_from
records-some zero s xs p h e = absurd (omega arith)
records-some (suc n) s xs p h e = let less : suc n - 1 ≡ n = omega arith in rw (e, less) refl

pub records-none : (n : ℕ) (s : State) (xs : List ℕ) → next_record default_config s [] [] xs ≡ None → records_from default_config n s xs ≡ []
unfolding records_from
records-none zero s xs e = refl
records-none (suc n) s xs e = rw e refl

-- what is read behind rows that were read
abbrev pub with_rows : List (List Value) → Result (List (List Value)) TableFault → Result (List (List Value)) TableFault
with_rows front (Ok rows) = Ok (front ++ rows)
with_rows front (Err f) = Err f

pub with_rows-none : (r : Result (List (List Value)) TableFault) → r ≡ with_rows [] r
with_rows-none (Ok rows) = refl
with_rows-none (Err f) = refl

with_rows-push : (front : List (List Value)) (v : List Value) (r : Result (List (List Value)) TableFault) → with_rows front (result_and_then (λ rows. Ok (v ∷ rows)) r) ≡ with_rows (front ++ v ∷ []) r
with_rows-push front v (Ok rows) = ap Ok (sym (append_assoc front (v ∷ []) rows))
with_rows-push front v (Err f) = refl

rows-cons : (n : ℕ) (columns : List ColumnParts) (fields : List (List ℕ)) (rest : List (List (List ℕ))) (v : List Value) → row_of n columns fields ≡ Ok v
    → rows_of n columns (fields ∷ rest) ≡ result_and_then (λ rows. Ok (v ∷ rows)) (rows_of (n + 1) columns rest)
unfolding rows_of
rows-cons n columns fields rest v e = rw e refl

rows-bad : (n : ℕ) (columns : List ColumnParts) (fields : List (List ℕ)) (rest : List (List (List ℕ))) (f : TableFault) → row_of n columns fields ≡ Err f → rows_of n columns (fields ∷ rest) ≡ Err f
unfolding rows_of
rows-bad n columns fields rest f e = rw e refl

rows-none : (n : ℕ) (columns : List ColumnParts) → rows_of n columns [] ≡ Ok []
unfolding rows_of
rows-none n columns = refl

-- where the reading of a table's rows stands
pub record Judged (columns : List ColumnParts) (all : List (List (List ℕ))) (r : Reader (Bor (List ℕ))) (number most : ℕ) (cells : List Value) : Type 0 where
  pub rows : List (List Value)
  pub fuel : ℕ
  pub text : List ℕ
  pub stands : StandsAt r r.state text
  pub ends : ends_at_end r.state ≡ false
  pub enough : length text < fuel
  pub judged : rows_of 0 columns all ≡ with_rows rows (rows_of number columns (records_from default_config fuel r.state text))
  pub counted : length rows ≡ number
  pub kept : cells ≡ take most (joined rows)

-- values kept of some, and of more
take-behind : (n : ℕ) (xs ys : List Value) → take n (take n xs ++ ys) ≡ take n (xs ++ ys)
take-behind zero xs ys = refl
take-behind (suc n) [] ys = refl
take-behind (suc n) (x ∷ xs) ys = ap (λ t. x ∷ t) (take-front n xs ys)
  where
    take-front : (n : ℕ) (xs ys : List Value) → take n (take n xs ++ ys) ≡ take n (xs ++ ys)
    take-front zero xs ys = refl
    take-front (suc n) [] ys = refl
    take-front (suc n) (x ∷ xs) ys = ap (λ t. x ∷ t) (take-front n xs ys)

joined-push : (rows : List (List Value)) (v : List Value) → joined (rows ++ v ∷ []) ≡ joined rows ++ v
unfolding joined
joined-push [] v = append-nil v
joined-push (row ∷ rows) v = ap (λ t. row ++ t) (joined-push rows v) ∙ sym (append_assoc row (joined rows) v)

-- one more row
pub judged-more : (columns : List ColumnParts) (all : List (List (List ℕ))) (r q : Reader (Bor (List ℕ))) (number most : ℕ) (cells more : List Value) (values : List Value) (p : Read)
    → (j : Judged columns all r number most cells) → next_record default_config r.state [] [] j.text ≡ Some p → StandsAt q p.1 p.2 → row_of number columns p.0 ≡ Ok values → more ≡ take most (cells ++ values)
    → Judged columns all q (number + 1) most more
judged-more columns all r q number most cells more values p j e stands good kept =
    let leaves = record_leaves j.text r.state [] [] p e in
    let records = records-some j.fuel r.state j.text p (omega (arith, j.enough)) e in
    let judged = j.judged ∙ ap (λ rs. with_rows j.rows (rows_of number columns rs)) records
    ∙ ap (with_rows j.rows) (rows-cons number columns p.0 (records_from default_config (j.fuel - 1) p.1 p.2) values good)
    ∙ with_rows-push j.rows values (rows_of (number + 1) columns (records_from default_config (j.fuel - 1) p.1 p.2)) in
    let count = length-append j.rows (values ∷ []) in
    record {
      rows = j.rows ++ values ∷ [];
      fuel = j.fuel - 1;
      text = p.2;
      stands = record { untrimmed = stands.untrimmed; flexible = stands.flexible; ready = stands.ready; config = stands.config; state = refl; source = stands.source };
      ends = ap ends_at_end stands.state ∙ leaves.ends;
      enough = omega (arith, leaves.shorter j.ends, j.enough);
      judged = judged ∙ ap (λ s. with_rows (j.rows ++ values ∷ []) (rows_of (number + 1) columns (records_from default_config (j.fuel - 1) s p.2))) (sym stands.state);
      counted = omega (arith, count, j.counted);
      kept = kept ∙ ap (λ c. take most (c ++ values)) j.kept ∙ take-behind most (joined j.rows) values ∙ ap (take most) (sym (joined-push j.rows values));
    }

-- a row at fault
pub judged-bad : (columns : List ColumnParts) (all : List (List (List ℕ))) (r : Reader (Bor (List ℕ))) (number most : ℕ) (cells : List Value) (p : Read) (f : TableFault)
    → (j : Judged columns all r number most cells) → next_record default_config r.state [] [] j.text ≡ Some p → row_of number columns p.0 ≡ Err f → rows_of 0 columns all ≡ Err f
judged-bad columns all r number most cells p f j e bad =
    let records = records-some j.fuel r.state j.text p (omega (arith, j.enough)) e in
    j.judged ∙ ap (λ rs. with_rows j.rows (rows_of number columns rs)) records ∙ ap (with_rows j.rows) (rows-bad number columns p.0 (records_from default_config (j.fuel - 1) p.1 p.2) f bad)

-- no row is left
pub judged-end : (columns : List ColumnParts) (all : List (List (List ℕ))) (r : Reader (Bor (List ℕ))) (number most : ℕ) (cells : List Value)
    → (j : Judged columns all r number most cells) → next_record default_config r.state [] [] j.text ≡ None → rows_of 0 columns all ≡ Ok j.rows
judged-end columns all r number most cells j e =
    j.judged ∙ ap (λ rs. with_rows j.rows (rows_of number columns rs)) (records-none j.fuel r.state j.text e) ∙ ap (with_rows j.rows) (rows-none number columns) ∙ ap Ok (append-nil j.rows)

-- the first record
pub header-none : (columns : List ColumnParts) (text : List ℕ) → next_record default_config st.StartRecord [] [] (strip_bom text) ≡ None → rows_under_header columns (records_of text) ≡ Err fault.BadHeader
unfolding rows_under_header records_of
header-none columns text e = rw (records-none (length (strip_bom text) + 1) st.StartRecord (strip_bom text) e) refl

header-some : (columns : List ColumnParts) (text : List ℕ) (p : Read) → next_record default_config st.StartRecord [] [] (strip_bom text) ≡ Some p → records_of text ≡ p.0 ∷ records_from default_config (length (strip_bom text) + 1 - 1) p.1 p.2
unfolding records_of
header-some columns text p e = records-some (length (strip_bom text) + 1) st.StartRecord (strip_bom text) p (omega arith) e

pub header-bad : (columns : List ColumnParts) (text : List ℕ) (p : Read) → next_record default_config st.StartRecord [] [] (strip_bom text) ≡ Some p → pointwise bytes_eq p.0 (names_of columns) ≡ false
    → rows_under_header columns (records_of text) ≡ Err fault.BadHeader
unfolding rows_under_header
header-bad columns text p e bad = rw (header-some columns text p e, bad) refl

pub header-good : (columns : List ColumnParts) (text : List ℕ) (p : Read) → next_record default_config st.StartRecord [] [] (strip_bom text) ≡ Some p → pointwise bytes_eq p.0 (names_of columns) ≡ true
    → rows_under_header columns (records_of text) ≡ rows_of 0 columns (records_from default_config (length (strip_bom text)) p.1 p.2)
unfolding rows_under_header
header-good columns text p e good = let less : length (strip_bom text) + 1 - 1 ≡ length (strip_bom text) = omega arith in rw (header-some columns text p e, good, less) refl

-- reading starts behind the header
pub judged-start : (columns : List ColumnParts) (text : List ℕ) (r : Reader (Bor (List ℕ))) (most : ℕ) (p : Read) → next_record default_config st.StartRecord [] [] (strip_bom text) ≡ Some p → StandsAt r p.1 p.2
    → Judged columns (records_from default_config (length (strip_bom text)) p.1 p.2) r 0 most []
unfolding joined
judged-start columns text r most p e stands =
    let leaves = record_leaves (strip_bom text) st.StartRecord [] [] p e in
    record {
      rows = [];
      fuel = length (strip_bom text);
      text = p.2;
      stands = record { untrimmed = stands.untrimmed; flexible = stands.flexible; ready = stands.ready; config = stands.config; state = refl; source = stands.source };
      ends = ap ends_at_end stands.state ∙ leaves.ends;
      enough = leaves.shorter refl;
      judged = with_rows-none (rows_of 0 columns (records_from default_config (length (strip_bom text)) p.1 p.2)) ∙ ap (λ s. with_rows [] (rows_of 0 columns (records_from default_config (length (strip_bom text)) s p.2))) (sym stands.state);
      counted = refl;
      kept = none_of most;
    }
  where
    none_of : (n : ℕ) → [] ≡ take {A = Value} n []
    none_of zero = refl
    none_of (suc n) = refl

-- what a read that found a record took, and one that found none
pub took-some : (r : Reader (Bor (List ℕ))) (found : Bool) (fields : List (List ℕ)) (o : Option Read) → Took r found fields o → found ≡ true → (p : Read) × (o ≡ Some p) × (fields ≡ p.0) × StandsAt r p.1 p.2
took-some r found fields None h e = absurd cc
took-some r found fields (Some p) h e = (p, refl, h.1, h.2)

pub took-none : (r : Reader (Bor (List ℕ))) (found : Bool) (fields : List (List ℕ)) (o : Option Read) → Took r found fields o → found ≡ false → o ≡ None
took-none r found fields None h e = refl
took-none r found fields (Some p) h e = absurd cc
