use Rattle.std.proofs.Common.{◌≡◌, ◌++◌, ◌<◌, ◌≤◌, ℕ, Some, min, max, ap, ap₂, ◌∙◌, arith}
use Rattle.interval_keys.specs.Intervals.{Span}
use Rattle.interval_keys.specs.Merging.{rest_with}
use Rattle.interval_keys.proofs.SlotSteps.{both_wait, none_waits, placed_here, waits_on}
use Rattle.interval_keys.proofs.slots.pass_on.Goals as goal

pub returns-in_default-clause-items : goal.returns-in_default-clause-items
returns-in_default-clause-items c = λ l. rw c.in_default.is (none_waits c.args.out.now.items c.push.new.self.items c.args.next l c.push.ensures.items)

pub returns-then-next-current-clause-items : goal.returns-then-next-current-clause-items
returns-then-next-current-clause-items c = λ l.
    let hi = ap (λ (s : Span). s.hi) c.next.view_is in
    let lo = ap (λ (s : Span). s.lo) c.current.view_is in
    let below : c.args.next.hi < c.in-Some.current.lo = omega arith in
    rw c.in-Some.is (waits_on c.args.out.now.items c.push-then-next-current.new.self.items c.in-Some.current c.args.next l below c.push-then-next-current.ensures.items)

pub returns-then-current-next-clause-items : goal.returns-then-current-next-clause-items
returns-then-current-next-clause-items c = λ l.
    let next_hi = ap (λ (s : Span). s.hi) c.next.view_is in
    let next_lo = ap (λ (s : Span). s.lo) c.next.view_is in
    let hi = ap (λ (s : Span). s.hi) c.current.view_is in
    let lo = ap (λ (s : Span). s.lo) c.current.view_is in
    let not_below : c.in-Some.current.lo ≤ c.args.next.hi = omega arith in
    let above : c.in-Some.current.hi < c.args.next.lo = omega arith in
    rw c.in-Some.is
    (placed_here c.args.out.now.items c.push-then-current-next.new.self.items c.push-then-current-next-2.new.self.items c.in-Some.current c.args.next l not_below above
    c.push-then-current-next.ensures.items c.push-then-current-next-2.ensures.items)

pub returns-clause-items : goal.returns-clause-items
returns-clause-items c = λ l.
    let next_hi = ap (λ (s : Span). s.hi) c.next.view_is in
    let next_lo = ap (λ (s : Span). s.lo) c.next.view_is in
    let hi = ap (λ (s : Span). s.hi) c.current.view_is in
    let lo = ap (λ (s : Span). s.lo) c.current.view_is in
    let not_below : c.in-Some.current.lo ≤ c.args.next.hi = omega arith in
    let not_above : c.args.next.lo ≤ c.in-Some.current.hi = omega arith in
    let least : c.min.result ≡ min c.in-Some.current.lo c.args.next.lo = c.min.ensures ∙ ap₂ min lo next_lo in
    let greatest : c.max.result ≡ max c.in-Some.current.hi c.args.next.hi = c.max.ensures ∙ ap₂ max hi next_hi in
    let span : ℕ → ℕ → Span = λ x y. record { lo = x; hi = y } in
    rw c.in-Some.is
    (ap (λ s. c.args.out.now.items ++ rest_with (Some s) l) (ap₂ span least greatest)
    ∙ both_wait c.args.out.now.items c.in-Some.current c.args.next l not_below not_above)
