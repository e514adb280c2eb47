use Rattle.std.proofs.Common.{◌≡◌, ap, subst, sym, ◌∙◌, IsTrue, false, refl}
use Rattle.spl_values.specs.Kinds.{Fits}
use Rattle.spl_values.specs.Codes.{code_of, value_with}
use Rattle.spl_values.specs.declared.values.Value.{Value}
use Rattle.spl_values.proofs.CodeLaws.{value-with, code-with}
use Rattle.spl_values.proofs.values.decode.Goals as goal

pub returns-in_err-value : goal.returns-in_err-value
returns-in_err-value c =
    rw c.from_residual.ensures (λ v f e.
    let same : v ≡ value_with c.args.kind.now c.args.code = value-with c.args.kind.now v c.requires f ∙ ap (value_with c.args.kind.now) e in
    c.in_err-value.ensures (subst (λ (w : Value). Fits c.args.kind.now w) same f))

pub returns-then-fits : goal.returns-then-fits
returns-then-fits c =
    let fits = c.if-fits.ensures.0 refl in
    let only = subst (λ (w : Value). Fits c.args.kind.now w) c.in_ok-value.ensures fits in
    (fits, ap (code_of c.args.kind.now) c.in_ok-value.ensures ∙ code-with c.args.kind.now c.args.code c.requires only)

pub returns-else-fits : goal.returns-else-fits
returns-else-fits c v f e =
    let same : v ≡ c.in_ok-value.value = value-with c.args.kind.now v c.requires f ∙ ap (value_with c.args.kind.now) e ∙ sym c.in_ok-value.ensures in
    let fits = subst (λ (w : Value). Fits c.args.kind.now w) same f in
    let bad : IsTrue false = c.if-fits.ensures.1 fits in
    absurd cc
