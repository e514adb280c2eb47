use Rattle.clear_sql.proofs.printing.push_number.Goals as goal

pub returns : goal.returns
returns c = rw (c.as_bytes.ensures.value, c.in_ok-digits.ensures.ok) at c.in_ok-extend_from_slice.ensures.items
