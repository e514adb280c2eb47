use Rattle.std.proofs.Common.{◌-◌, ap, arith}
use Rattle.spl_values.specs.declared.values.Value.TheVariants as value
use Rattle.spl_values.proofs.Powers.{unit_of, bytes_bits}
use Rattle.spl_values.proofs.CodeLaws.{text_bytes, kept_fits}
use Rattle.spl_values.proofs.values.candidate.Goals as goal

pub returns-in_err-checked_mul-in-Text : goal.returns-in_err-checked_mul-in-Text
returns-in_err-checked_mul-in-Text c =
    let typed = rw c.in-Text.is at c.requires in
    let bytes = text_bytes c.in-Text.bytes typed in
    let unit = unit_of (16 - c.in-Text.bytes) (omega (arith, bytes)) in
    let over = rw (unit, bytes_bits) at c.in_err-checked_mul-in-Text.ensures in
    rw (c.from_residual-in_err-checked_mul-in-Text.ensures, c.in-Text.is) (λ h. over (kept_fits c.in-Text.bytes c.args.code h))

pub returns-in_ok-checked_mul-in-Text : goal.returns-in_ok-checked_mul-in-Text
returns-in_ok-checked_mul-in-Text c =
    let typed = rw c.in-Text.is at c.requires in
    let bytes = text_bytes c.in-Text.bytes typed in
    let unit = unit_of (16 - c.in-Text.bytes) (omega (arith, bytes)) in
    let product = rw unit at c.in_ok-checked_mul-in-Text.ensures in
    rw c.in-Text.is (ap value.Text product.1)
