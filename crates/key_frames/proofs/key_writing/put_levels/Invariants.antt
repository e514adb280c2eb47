use Rattle.std.proofs.Common.{◌≡◌, ◌++◌, take}
use Rattle.std.specs.List.{flat_map, AllByRecursion}
use Rattle.key_frames.specs.Keys.{threshold_level, LevelTyped}
use Rattle.key_frames.proofs.key_writing.put_levels.Given as goal

abbrev pub invariant-loop-level : goal.invariant-loop-level
invariant-loop-level l = (l.out.items ≡ l.fn.out.items ++ flat_map threshold_level (take l.level-index l.levels)) × AllByRecursion LevelTyped (take l.level-index l.levels)
