use Rattle.query_reader.proofs.Known.{checked_publics, checked_columns, checked_some, checked_branches, checked_bits, checked_narrow, checked_least}
use Rattle.query_reader.proofs.laws.accepted_has_keys.Goals as goal

pub returns : goal.returns
returns c = record {
  public = checked_publics;
  columns = checked_columns;
  some = checked_some;
  branches = checked_branches;
  bits = checked_bits;
  narrow = checked_narrow;
  wide = checked_least;
}
