-- The loops that find slots.
use Rattle.std.proofs.Common.{◌≡◌, ℕ, ◌+◌, ◌-◌, ◌<◌, ◌≤◌, List, [], ◌∷◌, ◌++◌, length, map, take, drop, get_or, replicate, Option, Some, None, IfSome, refl, ap, sym, subst, ◌∙◌, arith}
use Rattle.std.specs.List.{AllByRecursion}
use Rattle.std.proofs.lemmas.List.{append_assoc, append-nil, drop_all, drop_more, length-map, replicate_more, take_all}
use Rattle.std.proofs.lemmas.List.Elements.{All-head, All-tail}
use Rattle.interval_keys.specs.Intervals.{Span}
use Rattle.interval_keys.specs.Slots.{EachSpan, IsSpan, allowed, padded, slots}
use Rattle.interval_keys.specs.Merging.{add_span, add_spans, hull, rest_with}
use Rattle.interval_keys.proofs.Merging.{add_span-both, add_span-here, add_span-later, add_span-nil}
use Rattle.interval_keys.proofs.SlotEnds.{spans_between-ends}

-- ---- one interval among disjoint ones

pub none_waits : (out new : List Span) (t : Span) (l : List Span) → new ≡ out ++ t ∷ [] → new ++ rest_with None l ≡ out ++ rest_with None (t ∷ l)
unfolding rest_with
none_waits out new t l is = ap (λ r. r ++ l) is ∙ append_assoc out (t ∷ []) l

pub waits_on : (out new : List Span) (s t : Span) (l : List Span) → t.hi < s.lo → new ≡ out ++ t ∷ [] → new ++ rest_with (Some s) l ≡ out ++ rest_with (Some s) (t ∷ l)
unfolding rest_with
waits_on out new s t l h is =
    ap (λ r. r ++ add_span s l) is ∙ (append_assoc out (t ∷ []) (add_span s l) ∙ ap (λ r. out ++ r) (sym (add_span-later s t l h)))

pub placed_here : (out mid new : List Span) (s t : Span) (l : List Span) → s.lo ≤ t.hi → s.hi < t.lo → mid ≡ out ++ s ∷ [] → new ≡ mid ++ t ∷ []
    → new ++ rest_with None l ≡ out ++ rest_with (Some s) (t ∷ l)
unfolding rest_with
placed_here out mid new s t l h k is-mid is =
    ap (λ r. r ++ l) (is ∙ ap (λ r. r ++ t ∷ []) is-mid)
    ∙ (append_assoc (out ++ s ∷ []) (t ∷ []) l
    ∙ (append_assoc out (s ∷ []) (t ∷ l)
    ∙ ap (λ r. out ++ r) (sym (add_span-here s t l h k))))

pub both_wait : (out : List Span) (s t : Span) (l : List Span) → s.lo ≤ t.hi → t.lo ≤ s.hi → out ++ rest_with (Some (hull s t)) l ≡ out ++ rest_with (Some s) (t ∷ l)
unfolding rest_with
both_wait out s t l h k = ap (λ r. out ++ r) (sym (add_span-both s t l h k))

pub rest_first : (out : List Span) (s : Span) (l : List Span) → out ≡ [] → out ++ rest_with (Some s) l ≡ add_span s l
unfolding rest_with
rest_first out s l e = ap (λ r. r ++ add_span s l) e

pub rest_end : (out : List Span) (l all : List Span) (i : ℕ) → length l ≤ i → out ++ rest_with None (drop i l) ≡ all → out ≡ all
unfolding rest_with
rest_end out l all i h is = sym (append-nil out) ∙ (ap (λ r. out ++ r) (sym (drop_all i l h)) ∙ is)

pub rest_last : (out new : List Span) (s : Span) (l all : List Span) (i : ℕ) → length l ≤ i → new ≡ out ++ s ∷ [] → out ++ rest_with (Some s) (drop i l) ≡ all → new ≡ all
unfolding rest_with
rest_last out new s l all i h is-new is =
    is-new ∙ (ap (λ r. out ++ r) (sym (add_span-nil s)) ∙ (ap (λ r. out ++ add_span s r) (sym (drop_all i l h)) ∙ is))

pub rest_more : (p q : Option Span) (out new : List Span) (t : Span) (l all : List Span) (i : ℕ) → i < length l → t ≡ get_or l i t
    → ((r : List Span) → new ++ rest_with q r ≡ out ++ rest_with p (t ∷ r)) → out ++ rest_with p (drop i l) ≡ all → new ++ rest_with q (drop (i + 1) l) ≡ all
rest_more p q out new t l all i h is step inv =
    let back : drop i l ≡ t ∷ drop (i + 1) l = drop_more l i t h ∙ ap (λ x. x ∷ drop (i + 1) l) (sym is) in
    step (drop (i + 1) l) ∙ (ap (λ r. out ++ rest_with p r) (sym back) ∙ inv)

-- ---- one branch after another

pub none_allowed : (list : List Span) (l : List (Option Span)) → add_spans list (allowed l) ≡ add_spans list (allowed (None ∷ l))
unfolding allowed
none_allowed list l = refl

pub some_allowed : (list new : List Span) (s : Span) (l : List (Option Span)) → new ≡ add_span s list → add_spans new (allowed l) ≡ add_spans list (allowed (Some s ∷ l))
unfolding allowed add_spans
some_allowed list new s l e = ap (λ r. add_spans r (allowed l)) e

pub each_taken : (P : Span → Type 0) (branches : List (Option Span)) (i : ℕ) → length branches ≤ i → EachSpan P (take i branches) → EachSpan P branches
each_taken P branches i h p = subst (EachSpan P) (take_all i branches h) p

pub each_allowed : (P : Span → Type 0) (branches : List (Option Span)) → EachSpan P branches → AllByRecursion P (allowed branches)
unfolding allowed
each_allowed P [] h = tt
each_allowed P (None ∷ l) h = each_allowed P l (All-tail (λ b. IfSome b P) None l h)
each_allowed P (Some s ∷ l) h = (All-head (λ b. IfSome b P) (Some s) l h, each_allowed P l (All-tail (λ b. IfSome b P) (Some s) l h))

pub slots_padded : (branches : List (Option Span)) (list : List Span) (i : ℕ) → length branches ≤ i → AllByRecursion IsSpan (allowed branches)
    → add_spans list (allowed (drop i branches)) ≡ add_spans [] (allowed branches) → padded (length branches) list ≡ slots branches
unfolding allowed add_spans
slots_padded branches list i h v inv =
    let left : list ≡ add_spans [] (allowed branches) = sym (ap (λ r. add_spans list (allowed r)) (drop_all i branches h)) ∙ inv in
    ap (λ l. padded (length branches) l) (left ∙ sym (spans_between-ends (allowed branches) v))

-- ---- empty slots at the end

pub pad_first : (l : List Span) (out : List (Option Span)) (i : ℕ) → length l ≤ i → out ≡ map (λ s. Some s) (take i l) → out ≡ map (λ s. Some s) l ++ replicate (length l - length l) None
pad_first l out i h e =
    let none : length l - length l ≡ 0 = omega arith in
    e ∙ (ap (λ r. map (λ s. Some s) r) (take_all i l h) ∙ sym (rw none (append-nil (map (λ s. Some s) l))))

pub pad_first_count : (l : List Span) (out : List (Option Span)) (i : ℕ) → length l ≤ i → out ≡ map (λ s. Some s) (take i l) → length out ≡ length l
pad_first_count l out i h e = ap (λ r. length r) (e ∙ ap (λ r. map (λ s. Some s) r) (take_all i l h)) ∙ length-map l (λ s. Some s)

pub pad_more : (l : List Span) (out new : List (Option Span)) (i : ℕ) → length l ≤ i → out ≡ map (λ s. Some s) l ++ replicate (i - length l) None → new ≡ out ++ None ∷ []
    → new ≡ map (λ s. Some s) l ++ replicate (i + 1 - length l) None
pad_more l out new i h e is =
    let n : i - length l + 1 ≡ i + 1 - length l = omega arith in
    is ∙ (ap (λ r. r ++ None ∷ []) e
    ∙ (append_assoc (map (λ s. Some s) l) (replicate (i - length l) None) (None ∷ [])
    ∙ ap (λ r. map (λ s. Some s) l ++ r) (replicate_more (i - length l) None ∙ ap (λ k. replicate k None) n)))

pub pad_end : (l : List Span) (out : List (Option Span)) (i count : ℕ) → i ≡ count → out ≡ map (λ s. Some s) l ++ replicate (i - length l) None → out ≡ padded count l
pad_end l out i count h e = e ∙ ap (λ k. map (λ s. Some s) l ++ replicate (k - length l) None) h
