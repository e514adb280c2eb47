use Rattle.std.proofs.Common.{◌≡◌, ◌+◌, ◌*◌, ◌^◌, [], drop, get_or}
use Rattle.spl_values.specs.Tables.{key_bits, key_of}
use Rattle.spl_values.proofs.tables.join_key.Given as goal

abbrev pub invariant-loop-number : goal.invariant-loop-number
invariant-loop-number l =
    key_of l.table.shape.schema.columns (get_or l.table.rows l.row []) l.columns
    ≡ l.key * 2 ^ key_bits l.table.shape.schema.columns (drop l.number-index l.columns)
    + key_of l.table.shape.schema.columns (get_or l.table.rows l.row []) (drop l.number-index l.columns)
