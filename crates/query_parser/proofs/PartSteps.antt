-- What reading a part of a condition does to the verdict.
use Rattle.std.proofs.Common.{◌≡◌, ℕ, Bool, true, false, ◌&&◌, List, [], ◌∷◌, Option, Some, None, Result, Ok, Err, refl, if◌then◌else◌}
use Rattle.query_grammar.specs.declared.condition.Literal.{Literal}
use Rattle.query_grammar.specs.declared.condition.Literal.TheVariants as literal
use Rattle.query_grammar.specs.declared.condition.Public.TheVariants as public
use Rattle.query_grammar.specs.declared.condition.Atom.TheVariants as atom
use Rattle.query_grammar.specs.declared.mode.Mode.{Mode}
use Rattle.query_parser.specs.declared.found.Ending.{Ending}
use Rattle.query_parser.specs.declared.found.Ending.TheVariants as ending
use Rattle.query_grammar.specs.declared.token.Token.{Token}
use Rattle.query_grammar.specs.declared.token.Token.TheVariants.{Symbol as TheSymbol, Name, Number, Text}
use Rattle.query_grammar.specs.declared.token.Symbol.TheVariants.{Where, And, Or, Between, Group, By, Open, Close, Equals, Question, Semicolon}
use Rattle.query_grammar.specs.declared.token.Placed.{Placed}
use Rattle.query_grammar.specs.Queries.{QueryParts}
use Rattle.query_grammar.specs.Machine.{State, Head, Found, PartStart, Named, Equal, Low, Mark, MarkAnd, Least, LeastAnd, PartEnd, TableEnd, GroupBy, GroupName, GroupEnd, Done, nothing_found, may_atom, may_public_in, may_go_on, opens_in, none_yet, ends_in, or_in, close_in, opened, close, add_atom, add_public, query_of, if_may, or_step, if_ends, step}
use Rattle.query_grammar.specs.Faults.{ended, after, verdict}
use Rattle.query_parser.specs.Reading.{Left, verdict_at}
use Rattle.spl_words.specs.Results.{◌>>=◌}
use Rattle.query_parser.specs.Parsing.{take_at, symbol_of, any_symbol_at, symbol_at, name_of, name_at, operand_of, operand_at, equal_of, equal_at, mark_at, greatest_of, greatest_at, least_of, least_at, named_of, named_at, inner_at, part_of, part_at, nothing_at, done_at, behind_of, behind_at, or_of, end_of, end_at, ending_state, turn_at, semicolon_of, semicolon_at, group_at, opening_of, opening_at, closing_at}
use Rattle.query_parser.proofs.Steps.{is_symbol, chain, kind_then, symbol_then, take_then, name_then}

choose : {A : Type 0} (b : Bool) (z : State) (at : ℕ) (l : Left) (m : Result A ℕ) (k : A → Result QueryParts ℕ) → verdict_at z l ≡ (m >>= k)
    → after (if_may b z) at (λ y. verdict_at y l) ≡ ((if b then m else Err at) >>= k)
choose true z at l m k e = e
choose false z at l m k e = refl

-- where a part ends
abbrev pub with_part : Head → Found × Left → Result QueryParts ℕ
with_part h x = verdict_at (PartEnd h x.0) x.1

equal_step : (h : Head) (w : Found) (n : List ℕ) (t : Token) (at : ℕ) (l : Left)
    → after (step (Equal h w n) t) at (λ y. verdict_at y l) ≡ (operand_of t at l >>= λ o. equal_of w n o.0.0 o.0.1 o.1 >>= with_part h)
equal_step h w n (TheSymbol Question) at l = choose (may_atom w) (PartEnd h (add_atom w (atom.Equal n))) at l (Ok (add_atom w (atom.Equal n), l)) (with_part h) refl
equal_step h w n (Number k) at l =
    choose (may_public_in w.mode) (PartEnd h (add_public w (public.Equal n (literal.Number k)))) at l (Ok (add_public w (public.Equal n (literal.Number k)), l)) (with_part h) refl
equal_step h w n (Text k) at l =
    choose (may_public_in w.mode) (PartEnd h (add_public w (public.Equal n (literal.Text k)))) at l (Ok (add_public w (public.Equal n (literal.Text k)), l)) (with_part h) refl
equal_step h w n _ at l = refl

equal_law : (h : Head) (w : Found) (n : List ℕ) (l : Left) → verdict_at (Equal h w n) l ≡ (equal_at w n l >>= with_part h)
unfolding equal_at operand_at
equal_law h w n l = kind_then (Equal h w n) l operand_of (λ o. equal_of w n o.0.0 o.0.1 o.1) (with_part h) refl (equal_step h w n)

mark_and : (h : Head) (w : Found) (n : List ℕ) (t : Token) → step (Mark h w n) t ≡ if_may (is_symbol And t) (MarkAnd h w n)
mark_and h w n (TheSymbol And) = refl
mark_and h w n _ = refl

mark_end : (h : Head) (w : Found) (n : List ℕ) (t : Token) → step (MarkAnd h w n) t ≡ if_may (is_symbol Question t) (PartEnd h (add_atom w (atom.Between n)))
mark_end h w n (TheSymbol Question) = refl
mark_end h w n _ = refl

mark_law : (h : Head) (w : Found) (n : List ℕ) (l : Left) → verdict_at (Mark h w n) l ≡ (mark_at w n l >>= with_part h)
unfolding mark_at
mark_law h w n l =
    chain _ (symbol_at And l) _ _ _ (symbol_then (Mark h w n) (MarkAnd h w n) And l (record { steps = mark_and h w n; end = refl }))
    (λ a. chain _ (symbol_at Question a) _ _ _ (symbol_then (MarkAnd h w n) (PartEnd h (add_atom w (atom.Between n))) Question a (record { steps = mark_end h w n; end = refl })) (λ x. refl))

least_and : (h : Head) (w : Found) (n : List ℕ) (k : Literal) (t : Token) → step (Least h w n k) t ≡ if_may (is_symbol And t) (LeastAnd h w n k)
least_and h w n k (TheSymbol And) = refl
least_and h w n k _ = refl

greatest_step : (h : Head) (w : Found) (n : List ℕ) (k : Literal) (t : Token) (at : ℕ) (l : Left)
    → after (step (LeastAnd h w n k) t) at (λ y. verdict_at y l) ≡ (operand_of t at l >>= λ o. greatest_of w n k o.0.0 o.0.1 o.1 >>= with_part h)
greatest_step h w n k (TheSymbol Question) at l = refl
greatest_step h w n k (Number j) at l = refl
greatest_step h w n k (Text j) at l = refl
greatest_step h w n k _ at l = refl

greatest_law : (h : Head) (w : Found) (n : List ℕ) (k : Literal) (l : Left) → verdict_at (Least h w n k) l ≡ (greatest_at w n k l >>= with_part h)
unfolding greatest_at operand_at
greatest_law h w n k l =
    chain _ (symbol_at And l) _ _ _ (symbol_then (Least h w n k) (LeastAnd h w n k) And l (record { steps = least_and h w n k; end = refl }))
    (λ a. kind_then (LeastAnd h w n k) a operand_of (λ o. greatest_of w n k o.0.0 o.0.1 o.1) (with_part h) refl (greatest_step h w n k))

least_step : (h : Head) (w : Found) (n : List ℕ) (t : Token) (at : ℕ) (l : Left)
    → after (step (Low h w n) t) at (λ y. verdict_at y l) ≡ (operand_of t at l >>= λ o. least_of w n o.0.0 o.0.1 o.1 >>= with_part h)
least_step h w n (TheSymbol Question) at l = choose (may_atom w) (Mark h w n) at l (mark_at w n l) (with_part h) (mark_law h w n l)
least_step h w n (Number k) at l = choose (may_public_in w.mode) (Least h w n (literal.Number k)) at l (greatest_at w n (literal.Number k) l) (with_part h) (greatest_law h w n (literal.Number k) l)
least_step h w n (Text k) at l = choose (may_public_in w.mode) (Least h w n (literal.Text k)) at l (greatest_at w n (literal.Text k) l) (with_part h) (greatest_law h w n (literal.Text k) l)
least_step h w n _ at l = refl

least_law : (h : Head) (w : Found) (n : List ℕ) (l : Left) → verdict_at (Low h w n) l ≡ (least_at w n l >>= with_part h)
unfolding least_at operand_at
least_law h w n l = kind_then (Low h w n) l operand_of (λ o. least_of w n o.0.0 o.0.1 o.1) (with_part h) refl (least_step h w n)

named_step : (h : Head) (w : Found) (n : List ℕ) (t : Token) (at : ℕ) (l : Left)
    → after (step (Named h w n) t) at (λ y. verdict_at y l) ≡ (symbol_of t at l >>= λ s. named_of w n s.0.0 s.0.1 s.1 >>= with_part h)
named_step h w n (TheSymbol Equals) at l = equal_law h w n l
named_step h w n (TheSymbol Between) at l = least_law h w n l
named_step h w n _ at l = refl

named_law : (h : Head) (w : Found) (n : List ℕ) (l : Left) → verdict_at (Named h w n) l ≡ (named_at w n l >>= with_part h)
unfolding named_at any_symbol_at
named_law h w n l = kind_then (Named h w n) l symbol_of (λ s. named_of w n s.0.0 s.0.1 s.1) (with_part h) refl (named_step h w n)

inner_step : (h : Head) (w : Found) (t : Token) (at : ℕ) (l : Left)
    → after (step (PartStart h (opened w)) t) at (λ y. verdict_at y l) ≡ (name_of t at l >>= λ x. verdict_at (Named h (opened w) x.0) x.1)
inner_step h w (Name n) at l = refl
inner_step h w (TheSymbol Open) at l = refl
inner_step h w _ at l = refl

inner_law : (h : Head) (w : Found) (l : Left) → verdict_at (PartStart h (opened w)) l ≡ (inner_at (opened w) l >>= with_part h)
unfolding inner_at
inner_law h w l =
    chain _ (name_at l) _ _ _ (name_then (PartStart h (opened w)) (λ n. Named h (opened w) n) l (record { steps = inner_step h w; end = refl }))
    (λ n. named_law h (opened w) n.0 n.1)

part_step : (h : Head) (w : Found) (t : Token) (at : ℕ) (l : Left) → after (step (PartStart h w) t) at (λ y. verdict_at y l) ≡ (part_of w t at l >>= with_part h)
part_step h w (Name n) at l = named_law h w n l
part_step h w (TheSymbol Open) at l = choose (opens_in w.mode && none_yet w.atoms) (PartStart h (opened w)) at l (inner_at (opened w) l) (with_part h) (inner_law h w l)
part_step h w _ at l = refl

pub part_law : (h : Head) (w : Found) (l : Left) → verdict_at (PartStart h w) l ≡ (part_at w l >>= with_part h)
unfolding part_at
part_law h w l = chain _ (take_at l) _ _ _ (take_then (PartStart h w) l refl) (λ p. part_step h w p.0.token p.0.at p.1)

-- where a part's end leaves the reader
abbrev pub with_ending : Head → (Found × Ending) × Left → Result QueryParts ℕ
with_ending h x = verdict_at (ending_state h x.0.0 x.0.1) x.1

done_law : (h : Head) (w : Found) (l : Left) → verdict_at (Done (query_of h w None)) l ≡ (done_at w l >>= with_ending h)
done_law h w l = refl

behind_step : (h : Head) (w : Found) (t : Token) (at : ℕ) (l : Left)
    → after (step (PartEnd h (close w)) t) at (λ y. verdict_at y l) ≡ ((symbol_of t at l >>= λ s. behind_of (close w) s.0.0 s.0.1 s.1) >>= with_ending h)
behind_step h w (TheSymbol And) at l = refl
behind_step h w (TheSymbol Group) at l = refl
behind_step h w (TheSymbol Semicolon) at l = done_law h (close w) l
behind_step h w _ at l = refl

behind_steps : (h : Head) (w : Found) (ps : List Placed) (end : ℕ) → verdict (PartEnd h (close w)) ps end ≡ (behind_at (close w) (record { tokens = ps; end = end }) >>= with_ending h)
unfolding behind_at any_symbol_at take_at
behind_steps h w [] end = refl
behind_steps h w (p ∷ ps) end = behind_step h w p.token p.at (record { tokens = ps; end = end })

or_step_law : (h : Head) (w : Found) (m : Option Mode) (at : ℕ) (l : Left) → after (or_step h w m) at (λ y. verdict_at y l) ≡ (or_of w m at l >>= with_ending h)
or_step_law h w None at l = refl
or_step_law h w (Some m) at l = refl

end_step : (h : Head) (w : Found) (t : Token) (at : ℕ) (l : Left)
    → after (step (PartEnd h w) t) at (λ y. verdict_at y l) ≡ ((symbol_of t at l >>= λ s. end_of w s.0.0 s.0.1 s.1) >>= with_ending h)
end_step h w (TheSymbol And) at l = choose (may_go_on w) (PartStart h w) at l (Ok ((w, ending.More), l)) (with_ending h) refl
end_step h w (TheSymbol Or) at l = or_step_law h w (or_in w.mode) at l
end_step h w (TheSymbol Close) at l = choose (close_in w.mode) (PartEnd h (close w)) at l (behind_at (close w) l) (with_ending h) (behind_steps h w l.tokens l.end)
end_step h w (TheSymbol Group) at l = choose (ends_in w.mode) (GroupBy h w) at l (Ok ((w, ending.Group), l)) (with_ending h) refl
end_step h w (TheSymbol Semicolon) at l = choose (ends_in w.mode) (Done (query_of h w None)) at l (done_at w l) (with_ending h) (done_law h w l)
end_step h w _ at l = refl

stops_here : (h : Head) (w : Found) (b : Bool) (end : ℕ)
    → ended (if_ends b (query_of h w None)) end ≡ ((if b then Ok ((w, ending.Done), record { tokens = []; end = end }) else Err end) >>= with_ending h)
stops_here h w true end = refl
stops_here h w false end = refl

end_steps : (h : Head) (w : Found) (ps : List Placed) (end : ℕ) → verdict (PartEnd h w) ps end ≡ (end_at w (record { tokens = ps; end = end }) >>= with_ending h)
unfolding end_at any_symbol_at take_at
end_steps h w [] end = stops_here h w (ends_in w.mode) end
end_steps h w (p ∷ ps) end = end_step h w p.token p.at (record { tokens = ps; end = end })

pub end_law : (h : Head) (w : Found) (l : Left) → verdict_at (PartEnd h w) l ≡ (end_at w l >>= with_ending h)
end_law h w l = end_steps h w l.tokens l.end

-- one turn: a part, and what stands behind it
pub turn_law : (h : Head) (w : Found) (l : Left) → verdict_at (PartStart h w) l ≡ (turn_at w l >>= with_ending h)
unfolding turn_at
turn_law h w l = chain _ (part_at w l) _ _ _ (part_law h w l) (λ x. end_law h x.0 x.1)

opening_step : (h : Head) (t : Token) (at : ℕ) (l : Left)
    → after (step (TableEnd h) t) at (λ y. verdict_at y l) ≡ ((symbol_of t at l >>= λ s. opening_of s.0.0 s.0.1 s.1) >>= λ x. verdict_at (ending_state h nothing_found x.0) x.1)
opening_step h (TheSymbol Where) at l = refl
opening_step h (TheSymbol Group) at l = refl
opening_step h (TheSymbol Semicolon) at l = refl
opening_step h _ at l = refl

opening_steps : (h : Head) (ps : List Placed) (end : ℕ) → verdict (TableEnd h) ps end ≡ (opening_at (record { tokens = ps; end = end }) >>= λ x. verdict_at (ending_state h nothing_found x.0) x.1)
unfolding opening_at any_symbol_at take_at
opening_steps h [] end = refl
opening_steps h (p ∷ ps) end = opening_step h p.token p.at (record { tokens = ps; end = end })

pub opening_law : (h : Head) (l : Left) → verdict_at (TableEnd h) l ≡ (opening_at l >>= λ x. verdict_at (ending_state h nothing_found x.0) x.1)
opening_law h l = opening_steps h l.tokens l.end

nothing_steps : (q : QueryParts) (ps : List Placed) (end : ℕ) → verdict (Done q) ps end ≡ (nothing_at (record { tokens = ps; end = end }) >>= λ m. Ok q)
unfolding nothing_at take_at
nothing_steps q [] end = refl
nothing_steps q (p ∷ ps) end = refl

semicolon_step : (q : QueryParts) (t : Token) (at : ℕ) (l : Left)
    → after (step (GroupEnd q) t) at (λ y. verdict_at y l) ≡ ((symbol_of t at l >>= λ s. semicolon_of s.0.0 s.0.1 s.1) >>= λ m. nothing_at m >>= λ z. Ok q)
semicolon_step q (TheSymbol Semicolon) at l = nothing_steps q l.tokens l.end
semicolon_step q _ at l = refl

semicolon_steps : (q : QueryParts) (ps : List Placed) (end : ℕ) → verdict (GroupEnd q) ps end ≡ (semicolon_at (record { tokens = ps; end = end }) >>= λ m. nothing_at m >>= λ z. Ok q)
unfolding semicolon_at any_symbol_at take_at nothing_at
semicolon_steps q [] end = refl
semicolon_steps q (p ∷ ps) end = semicolon_step q p.token p.at (record { tokens = ps; end = end })

group_by : (h : Head) (w : Found) (t : Token) → step (GroupBy h w) t ≡ if_may (is_symbol By t) (GroupName h w)
group_by h w (TheSymbol By) = refl
group_by h w _ = refl

group_name : (h : Head) (w : Found) (t : Token) (at : ℕ) (l : Left)
    → after (step (GroupName h w) t) at (λ y. verdict_at y l) ≡ (name_of t at l >>= λ x. verdict_at (GroupEnd (query_of h w (Some x.0))) x.1)
group_name h w (Name n) at l = refl
group_name h w _ at l = refl

group_law : (h : Head) (w : Found) (l : Left) → verdict_at (GroupBy h w) l ≡ (group_at l >>= λ x. Ok (query_of h w (Some x.0)))
unfolding group_at
group_law h w l =
    chain _ (symbol_at By l) _ _ _ (symbol_then (GroupBy h w) (GroupName h w) By l (record { steps = group_by h w; end = refl }))
    (λ a. chain _ (name_at a) _ _ _ (name_then (GroupName h w) (λ n. GroupEnd (query_of h w (Some n))) a (record { steps = group_name h w; end = refl }))
    (λ n. chain _ (semicolon_at n.1) _ _ _ (semicolon_steps (query_of h w (Some n.0)) n.1.tokens n.1.end)
    (λ b. chain _ (nothing_at b) _ _ _ refl (λ c. refl))))

pub closing_law : (h : Head) (w : Found) (e : Ending) (l : Left) → (e ≡ ending.More → ⊥) → verdict_at (ending_state h w e) l ≡ (closing_at e l >>= λ x. Ok (query_of h w x.0))
unfolding closing_at
closing_law h w ending.More l other = absurd (other refl)
closing_law h w ending.Group l other = chain _ (group_at l) _ _ _ (group_law h w l) (λ x. refl)
closing_law h w ending.Done l other = chain _ (nothing_at l) _ _ _ (nothing_steps (query_of h w None) l.tokens l.end) (λ x. refl)
