-- Writing lists with a separator, an element at a time.
use Rattle.std.proofs.Common.{◌≡◌, ℕ, ◌+◌, ◌<◌, ◌≤◌, Bool, true, false, List, [], ◌∷◌, ◌++◌, length, drop, get_or, Result, Ok, Err, IfOk, sym, ◌∙◌, ap, arith}
use Rattle.query_grammar.specs.declared.condition.Atom.{Atom}
use Rattle.query_grammar.specs.declared.token.Token.{Token}
use Rattle.query_grammar.specs.declared.token.Token.TheVariants.{Symbol, Name}
use Rattle.query_grammar.specs.declared.token.Symbol.TheVariants.{Select, From, Comma, Or, Open, Close}
use Rattle.query_grammar.specs.Queries.{QueryParts}
use Rattle.query_grammar.specs.Grammar.{joined, item_text, branch_text, Either, group_text}
use Rattle.query_grammar.specs.Canonical.{branch_parts, canonical}
use Rattle.query_tokens.specs.Printing.{Written, put, written, begun, canonical_text}
use Rattle.query_tokens.proofs.Writing.{left_of, one_left, one_first, written_both, written_is_printed}
use Rattle.query_printer.specs.Leading.{lead, led}
use Rattle.query_printer.proofs.Leads.{led_step}

pub next_behind : {A : Type 0} (separator : Token) (f : A → List Token) (p r : Written) (xs : List A) (i : ℕ) (x : A) → i < length xs → x ≡ get_or xs i x → r ≡ written (put p separator) (f x)
    → written r (left_of separator f false (drop (i + 1) xs)) ≡ written p (left_of separator f false (drop i xs))
next_behind separator f p r xs i x h is e =
    ap (λ w. written w (left_of separator f false (drop (i + 1) xs))) (e ∙ ap (λ y. written (put p separator) (f y)) is) ∙ sym (one_left separator f p xs i x h)

pub next_first : {A : Type 0} (separator : Token) (f : A → List Token) (p r : Written) (xs : List A) (i : ℕ) (x : A) → i < length xs → x ≡ get_or xs i x → r ≡ written p (f x)
    → written r (left_of separator f false (drop (i + 1) xs)) ≡ written p (left_of separator f true (drop i xs))
next_first separator f p r xs i x h is e =
    ap (λ w. written w (left_of separator f false (drop (i + 1) xs))) (e ∙ ap (λ y. written p (f y)) is) ∙ sym (one_first separator f p xs i x h)

-- several branches in their parentheses
pub several : (first : Bool) (w : Written) (bs : List (List Atom)) → 2 ≤ length bs
    → put (written (put (put w (lead first)) (Symbol Open)) (joined (Symbol Or) branch_text bs)) (Symbol Close) ≡ written w (led first (branch_parts bs))
several first w [] h = absurd (omega arith)
several first w (b ∷ []) h = absurd (omega arith)
several first w (b ∷ c ∷ bs) h =
    sym (written_both (put (put w (lead first)) (Symbol Open)) (joined (Symbol Or) branch_text (b ∷ c ∷ bs)) ((Symbol Close) ∷ []))
    ∙ sym (led_step first (Either (b ∷ c ∷ bs)) [] w)

pub if_ok : {X E : Type 0} (r : Result X E) (a b c : Written) → IfOk r (λ _. a ≡ b) → b ≡ c → IfOk r (λ _. a ≡ c)
if_ok (Ok x) a b c h e = h ∙ e
if_ok (Err x) a b c h e = tt

-- the whole query
pub whole : (w : Written) (q : QueryParts) (ps : _)
    → written (written (put (put (written (put w (Symbol Select)) (joined (Symbol Comma) item_text q.items)) (Symbol From)) (Name q.table)) ps) (group_text q.group)
    ≡ written w ((Symbol Select) ∷ joined (Symbol Comma) item_text q.items ++ ((Symbol From) ∷ Name q.table ∷ ps ++ group_text q.group))
whole w q ps =
    sym (written_both (put (put (written (put w (Symbol Select)) (joined (Symbol Comma) item_text q.items)) (Symbol From)) (Name q.table)) ps (group_text q.group))
    ∙ sym (written_both (put w (Symbol Select)) (joined (Symbol Comma) item_text q.items) ((Symbol From) ∷ Name q.table ∷ ps ++ group_text q.group))

pub whole_text : (q : QueryParts) (w : Written) → w ≡ written begun (canonical q) → w.text ≡ canonical_text q
whole_text q w e = ap (λ x. x.text) e ∙ written_is_printed (canonical q)
