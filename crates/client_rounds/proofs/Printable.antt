-- The canonical text of a query is printable, and has 1 to 4,096 bytes.
use Rattle.std.proofs.Common.{◌≡◌, ℕ, ◌≤◌, Bool, true, false, cond, eqb, nat_lt, List, [], ◌∷◌, ◌++◌, length, None, refl, ◌∙◌, arith}
use Rattle.std.specs.List.{list_all, position, position_or_len}
use Rattle.std.specs.Fmt as fmt
use Rattle.std.proofs.lemmas.Bool.Decides.{nat_tests}
use Rattle.std.proofs.lemmas.List.Folds.{list_all-append}
use Rattle.spl_values.specs.Kinds.{is_printable}
use Rattle.spl_values.specs.Names.{is_name_byte}
use Rattle.spl_values.specs.Shapes.{SchemaParts}
use Rattle.query_grammar.specs.declared.token.Aggregate.{Aggregate as TheAggregate}
use Rattle.query_grammar.specs.declared.token.Aggregate.TheVariants as aggregate
use Rattle.query_grammar.specs.declared.token.Symbol.{Symbol}
use Rattle.query_grammar.specs.declared.token.Symbol.TheVariants as symbol
use Rattle.query_grammar.specs.declared.token.Token.{Token}
use Rattle.query_grammar.specs.declared.token.Token.TheVariants.{Symbol as TheSymbol, Aggregate, Name, Number, Text, Nothing}
use Rattle.query_grammar.specs.Queries.{QueryParts}
use Rattle.query_grammar.specs.Canonical.{canonical}
use Rattle.query_grammar.proofs.AtomLists.{both}
use Rattle.query_tokens.specs.Lexing.{is_digit}
use Rattle.query_tokens.specs.Printing.{symbol_text, aggregate_text, doubled, spelled, CanStand, AllCanStand, gap, space, printed_behind, printed, canonical_text, IsWellFormed}
use Rattle.query_tokens.proofs.Names.{name_parts}
use Rattle.query_tokens.proofs.Printed.{digits_of}
use Rattle.query_tokens.proofs.Writable.{canonical_stands}
use Rattle.query_parser.specs.declared.fault.QueryFault.TheVariants.{TooLong}
use Rattle.query_reader.specs.Accepted.{IsAccepted}
use Rattle.query_reader.proofs.Few.{unrefused, not_if, at_most}
use Rattle.key_frames.specs.Texts.{is_bad}

-- every byte is printable
abbrev pub Printable : List ℕ → Type 0
Printable bytes = list_all is_printable bytes ≡ true

print_both : (xs ys : List ℕ) → Printable xs → Printable ys → Printable (xs ++ ys)
print_both xs ys a b = list_all-append is_printable xs ys ∙ rw (a, b) refl

print_more : (b : ℕ) (bs : List ℕ) → is_printable b ≡ true → Printable bs → Printable (b ∷ bs)
print_more b bs here more = rw (here, more) refl

-- bytes of a kind that is printable
each_prints : (p : ℕ → Bool) → ((b : ℕ) → p b ≡ true → is_printable b ≡ true) → (bytes : List ℕ) → list_all p bytes ≡ true → Printable bytes
each_prints p kind [] h = refl
each_prints p kind (b ∷ bs) h = let parts = both (p b) (list_all p bs) h in print_more b bs (kind b parts.0) (each_prints p kind bs parts.1)

name_byte_prints : (b : ℕ) → is_name_byte b ≡ true → is_printable b ≡ true
name_byte_prints b h = grind (arith, nat_tests)

digit_prints : (b : ℕ) → is_digit b ≡ true → is_printable b ≡ true
digit_prints b h = grind (arith, nat_tests)

-- ---- tokens

symbol_prints : (s : Symbol) → Printable (symbol_text s)
symbol_prints symbol.Select = refl
symbol_prints symbol.From = refl
symbol_prints symbol.Where = refl
symbol_prints symbol.And = refl
symbol_prints symbol.Or = refl
symbol_prints symbol.Between = refl
symbol_prints symbol.Group = refl
symbol_prints symbol.By = refl
symbol_prints symbol.Count = refl
symbol_prints symbol.TopK = refl
symbol_prints symbol.Open = refl
symbol_prints symbol.Close = refl
symbol_prints symbol.Comma = refl
symbol_prints symbol.Star = refl
symbol_prints symbol.Equals = refl
symbol_prints symbol.Question = refl
symbol_prints symbol.Semicolon = refl

aggregate_prints : (o : TheAggregate) → Printable (aggregate_text o)
aggregate_prints aggregate.Sum = refl
aggregate_prints aggregate.Avg = refl
aggregate_prints aggregate.Max = refl
aggregate_prints aggregate.Min = refl

quoted_prints : (quote : Bool) (b : ℕ) (bs : List ℕ) → is_printable b ≡ true → Printable bs → Printable (cond quote (39 ∷ 39 ∷ bs) (b ∷ bs))
quoted_prints true b bs here more = print_more 39 (39 ∷ bs) refl (print_more 39 bs refl more)
quoted_prints false b bs here more = print_more b bs here more

doubled_prints : (text : List ℕ) → Printable text → Printable (doubled text)
doubled_prints [] h = refl
doubled_prints (b ∷ bs) h = let parts = both (is_printable b) (list_all is_printable bs) h in quoted_prints (eqb b 39) b (doubled bs) parts.0 (doubled_prints bs parts.1)

token_prints : (t : Token) → CanStand t → Printable (spelled t)
token_prints (TheSymbol s) h = symbol_prints s
token_prints (Aggregate o) h = aggregate_prints o
token_prints (Name w) h = each_prints is_name_byte name_byte_prints w (name_parts w h).bytes
token_prints (Number n) h = each_prints is_digit digit_prints (fmt.decimal n) (digits_of n h).digits
token_prints (Text t) h = print_more 39 (doubled t ++ 39 ∷ []) refl (print_both (doubled t) (39 ∷ []) (doubled_prints t h) refl)
token_prints Nothing h = absurd h

space_prints : (b : Bool) → Printable (space b)
space_prints true = refl
space_prints false = refl

behind_prints : (t : Token) (ts : List Token) → AllCanStand ts → Printable (printed_behind t ts)
behind_prints t [] h = refl
behind_prints t (u ∷ us) h =
    print_both (space (gap t u)) (spelled u ++ printed_behind u us) (space_prints (gap t u)) (print_both (spelled u) (printed_behind u us) (token_prints u h.0) (behind_prints u us h.1))

tokens_print : (ts : List Token) → AllCanStand ts → Printable (printed ts)
tokens_print [] h = refl
tokens_print (t ∷ ts) h = print_both (spelled t) (printed_behind t ts) (token_prints t h.0) (behind_prints t ts h.1)

-- ---- the canonical text

pub text_prints : (q : QueryParts) → IsWellFormed q → Printable (canonical_text q)
text_prints q is = tokens_print (canonical q) (canonical_stands q is.writable)

not_bad : (b : ℕ) → is_printable b ≡ true → is_bad b ≡ false
not_bad b h = grind (arith, nat_tests)

no_bad_byte : (bytes : List ℕ) → Printable bytes → position_or_len is_bad bytes ≡ length bytes
no_bad_byte [] h = refl
no_bad_byte (b ∷ bs) h = let parts = both (is_printable b) (list_all is_printable bs) h in let e = not_bad b parts.0 in rw (e, no_bad_byte bs parts.1) (omega arith)

not_less : (n : ℕ) → nat_lt n n ≡ false
not_less n = grind (arith, nat_tests)

pub none_bad : (bytes : List ℕ) → Printable bytes → position is_bad bytes ≡ None
none_bad bytes h = let e = no_bad_byte bytes h in rw (e, not_less (length bytes)) refl

-- a canonical text begins with SELECT
pub text_some : (q : QueryParts) → 1 ≤ length (canonical_text q)
text_some q = omega arith

pub text_short : (q : QueryParts) (schema : SchemaParts) → IsAccepted q schema → length (canonical_text q) ≤ 4096
text_short q schema h =
    at_most 4096 (length (canonical_text q)) (not_if (nat_lt 4096 (length (canonical_text q))) (TooLong (length (canonical_text q))) (unrefused q schema h).short)
