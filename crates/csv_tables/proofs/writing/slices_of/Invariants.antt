use Rattle.std.proofs.Common.{◌≡◌, map, take}
use Rattle.csv_tables.proofs.writing.slices_of.Given as goal

abbrev pub invariant-loop-field : goal.invariant-loop-field
invariant-loop-field l = map (λ s. s.now) l.slices.items ≡ take l.field-index l.fields
