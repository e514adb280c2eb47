use Rattle.std.proofs.Common.{◌≡◌, ◌++◌, take}
use Rattle.std.specs.List.{flat_map}
use Rattle.std.specs.Int.{w128, to_be_bytes}
use Rattle.key_frames.proofs.note_writing.put_params.Given as goal

abbrev pub invariant-loop-param : goal.invariant-loop-param
invariant-loop-param l = l.out.items ≡ l.fn.out.items ++ flat_map (to_be_bytes w128) (take l.param-index l.params)
