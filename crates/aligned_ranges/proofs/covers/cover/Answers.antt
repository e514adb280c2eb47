use Rattle.std.proofs.Common.{◌≡◌, ◌+◌, ◌-◌, ◌*◌, ◌/◌, ◌^◌, ◌<◌, length, map, ap, sym, ◌∙◌, arith}
use Rattle.std.specs.List.{range_with_len}
use Rattle.std.proofs.Math.Nat.{div-mul-le_self}
use Rattle.aligned_ranges.specs.Climbing.{outer}
use Rattle.aligned_ranges.specs.Covers.{cover, cover_level, range}
use Rattle.aligned_ranges.proofs.Ends.{end_fits}
use Rattle.aligned_ranges.proofs.Offsets.{base_even, base_lowest, base_up, below-above, highest-above, lowest-above, two_highest, up-above}
use Rattle.aligned_ranges.proofs.Pushing.{level_first, level_last, level_next}
use Rattle.aligned_ranges.proofs.covers.cover.Goals as goal

pub loop-level-init : goal.loop-level-init
loop-level-init c =
    let low = div-mul-le_self c.args.lo (2 ^ c.args.w) in
    let all : c.args.w - 0 ≡ c.args.w = omega arith in
    record {
      items = level_first c.args.lo c.args.hi c.args.w c.new-ranges.result.items c.new-ranges.ensures;
      count = let none = ap length c.new-ranges.ensures in omega arith;
      ends = lowest-above c.args.lo c.args.hi _ (omega arith) c.requires.order;
      base = base_lowest c.args.lo c.args.w (omega arith) ∙ ap (λ n. c.args.lo / 2 ^ c.args.w * 2 ^ n) (sym all);
    }

pub push_outer-requires-clause-room : goal.push_outer-requires-clause-room
push_outer-requires-clause-room c = omega arith

pub push_outer-requires-clause-fits : goal.push_outer-requires-clause-fits
push_outer-requires-clause-fits c =
    end_fits c.args.lo c.args.hi c.loop-level.level (c.loop-level.base + c.loop-level.start) (c.loop-level.base + c.loop-level.end) (2 ^ 128) c.loop-level.invariant.ends (omega arith)

pub loop-level-preserved : goal.loop-level-preserved
loop-level-preserved c =
    let d = c.args.lo / 2 ^ c.args.w in
    let below : c.loop-level.level < c.args.w = omega arith in
    let even = base_even c.loop-level.base d c.args.w c.loop-level.level below c.loop-level.invariant.base in
    record {
      items =
          level_next (cover_level c.args.lo c.args.hi c.args.w) c.loop-level.ranges.items c.push_outer.new.ranges.items (cover c.args.lo c.args.hi c.args.w)
          (map (λ k. range c.loop-level.level (c.loop-level.base + k)) (outer c.loop-level.start c.loop-level.end)) c.loop-level.level c.args.w below c.push_outer.ensures.items
          (below-above c.args.lo c.args.hi c.args.w c.loop-level.level c.loop-level.base c.loop-level.start c.loop-level.end c.loop-level.invariant.ends (omega arith) even)
          c.loop-level.invariant.items;
      count = omega arith;
      ends = up-above c.args.lo c.args.hi c.loop-level.level c.loop-level.base c.loop-level.start c.loop-level.end c.div_ceil-start.result c.loop-level.invariant.ends even c.div_ceil-start.ensures;
      base = base_up c.loop-level.base d c.args.w c.loop-level.level below c.loop-level.invariant.base;
    }

pub push_all-requires-clause-room : goal.push_all-requires-clause-room
push_all-requires-clause-room c =
    let two =
    two_highest c.args.lo c.args.hi c.args.w c.loop-level.level (c.loop-level.base + c.loop-level.start) (c.loop-level.base + c.loop-level.end) c.loop-level.invariant.ends (omega arith)
    c.requires.subtree in
    omega arith

pub push_all-requires-clause-fits : goal.push_all-requires-clause-fits
push_all-requires-clause-fits c =
    end_fits c.args.lo c.args.hi c.loop-level.level (c.loop-level.base + c.loop-level.start) (c.loop-level.base + c.loop-level.end) (2 ^ 128) c.loop-level.invariant.ends (omega arith)

pub returns : goal.returns
returns c =
    let level : c.args.w - 1 ≡ c.loop-level.level = omega arith in
    level_last (cover_level c.args.lo c.args.hi c.args.w) c.loop-level.ranges.items c.push_all.new.ranges.items (cover c.args.lo c.args.hi c.args.w)
    (map (λ k. range c.loop-level.level (c.loop-level.base + k)) (range_with_len c.loop-level.start (c.loop-level.end - c.loop-level.start))) c.loop-level.level c.args.w (omega arith)
    (rw level at c.push_all.ensures)
    (highest-above c.args.lo c.args.hi c.args.w c.loop-level.level c.loop-level.base c.loop-level.start c.loop-level.end c.loop-level.invariant.ends (omega arith))
    c.loop-level.invariant.items
