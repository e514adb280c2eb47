use Rattle.std.proofs.Common.{◌≡◌, ◌++◌, take}
use Rattle.std.specs.List.{flat_map, AllByRecursion}
use Rattle.key_frames.specs.Keys.{key, KeyTyped}
use Rattle.key_frames.proofs.key_writing.put_keys.Given as goal

abbrev pub invariant-loop-k : goal.invariant-loop-k
invariant-loop-k l = (l.out.items ≡ l.fn.out.items ++ flat_map key (take l.k-index l.keys)) × AllByRecursion KeyTyped (take l.k-index l.keys)
