use Rattle.std.proofs.Common.{◌-◌, ◌<◌, ◌^◌, All, sym, ap, subst, ◌∙◌}
use Rattle.interval_keys.specs.Intervals.{Span}
use Rattle.aligned_ranges.specs.Covers.{cover}
use Rattle.aligned_ranges.specs.declared.ranges.Range.{Range}
use Rattle.query_reader.proofs.Lists.{all_at}
use Rattle.private_plan.specs.Slots.{slot_level}
use Rattle.private_plan.proofs.CoverSecrets.{level_of_cover, of_level, slot_low}
use Rattle.private_plan.proofs.covers.cover_of.Goals as goal

pub returns-in-Some-clause-levels : goal.returns-in-Some-clause-levels
returns-in-Some-clause-levels c = λ level h.
    let s = c.in-Some.interval in
    let ranges = c.cover.ensures ∙ ap (λ (t : Span). cover t.lo t.hi c.args.width) c.interval.view_is in
    ap (of_level level) ranges ∙ (level_of_cover s.lo s.hi c.args.width level h ∙ ap (λ slot. slot_level c.args.width slot level) (sym c.in-Some.is))

pub returns-in-Some-clause-indices : goal.returns-in-Some-clause-indices
returns-in-Some-clause-indices c = λ level h.
    let s = c.in-Some.interval in
    let ranges = c.cover.ensures ∙ ap (λ (t : Span). cover t.lo t.hi c.args.width) c.interval.view_is in
    let are = ap (of_level level) ranges ∙ (level_of_cover s.lo s.hi c.args.width level h ∙ ap (λ slot. slot_level c.args.width slot level) (sym c.in-Some.is)) in
    let P = λ (r : Range). r.index < 2 ^ (c.args.bits - level) in
    subst (All P) (sym are) (all_at P (slot_level c.args.width c.args.slot level) (slot_low c.args.bits c.args.width c.args.slot level c.requires.inside h c.requires.slot))
