use Rattle.std.proofs.Common.{◌++◌, IfSome, Option, sym, ap, subst, ◌∙◌, rules}
use Rattle.std.specs.List.{AllByRecursion, flat_map}
use Rattle.std.specs.Slice.Iter.{chunks_exact_rest}
use Rattle.interval_keys.specs.Intervals.{Span}
use Rattle.private_plan.specs.Slots.{IsSlot, cover_secrets, position_slots}
use Rattle.private_plan.proofs.PositionSlots.{next_slot, no_more, slots_by_pairs}
use Rattle.private_plan.proofs.slot_secrets.positions_secrets.Goals as goal

pub push_cover-requires-clause-slot : goal.push_cover-requires-clause-slot
push_cover-requires-clause-slot c =
    let invariant = c.loop-pair.invariant in
    let steps = c.in-Some.ensures.steps in
    let P = λ (slot : Option Span). IfSome slot (IsSlot c.args.bits c.args.bits) in
    let slots = slots_by_pairs (chunks_exact_rest c.loop-pair.pair-iterator) c.in-Some.pair.now (chunks_exact_rest c.next.new.self) steps.1.0 (steps.1.1 ∙ invariant.2) in
    subst P (sym c.position_slot.ensures) (subst (AllByRecursion P) slots invariant.3).0

pub loop-pair-preserved : goal.loop-pair-preserved
loop-pair-preserved c =
    let invariant = c.loop-pair.invariant in
    let steps = c.in-Some.ensures.steps in
    let P = λ (slot : Option Span). IfSome slot (IsSlot c.args.bits c.args.bits) in
    let f = cover_secrets c.args.bits c.args.bits in
    let slots = slots_by_pairs (chunks_exact_rest c.loop-pair.pair-iterator) c.in-Some.pair.now (chunks_exact_rest c.next.new.self) steps.1.0 (steps.1.1 ∙ invariant.2) in (
      search rules,
      tt,
      steps.0 ∙ invariant.2,
      (subst (AllByRecursion P) slots invariant.3).1,
      ap (λ l. l ++ flat_map f (position_slots (chunks_exact_rest c.next.new.self))) c.in_ok-push_cover.ensures
          ∙ (next_slot f c.loop-pair.secrets.items c.position_slot.result _ (position_slots (chunks_exact_rest c.loop-pair.pair-iterator)) (position_slots (chunks_exact_rest c.next.new.self)) c.position_slot.ensures slots ∙ invariant.4),
    )

pub returns : goal.returns
returns c =
    let short = rw c.loop-pair.invariant.2 at c.in-None.ensures.steps.1.0 in
    sym (no_more (cover_secrets c.args.bits c.args.bits) c.loop-pair.secrets.items (chunks_exact_rest c.loop-pair.pair-iterator) short) ∙ c.loop-pair.invariant.4
