use Rattle.std.proofs.Common.{◌≡◌, ◌+◌, ◌<◌, ◌≤◌, ◌^◌, ℕ, true, length, take, refl, ap, ◌∙◌, arith, below_more, inl, inr}
use Rattle.std.proofs.lemmas.Bool.{cases_lt}
use Rattle.spl_values.specs.Shapes.{ShapeParts}
use Rattle.cell_merge.specs.TableRows.{rows_of}
use Rattle.sum_bounds.specs.Sums.{column_sum, is_bounded}
use Rattle.sum_bounds.proofs.Steps.{all_rows, length-rows, over, sum-more, sum-part, within}
use Rattle.sum_bounds.proofs.check_sum.Goals as goal

pub returns-in-Err-clause-bound : goal.returns-in-Err-clause-bound
returns-in-Err-clause-bound c =
    let t = c.args.table.now in
    let count = ap (λ (s : ShapeParts). s.rows) (c.behind-table.view_is ∙ c.shape.ensures.shape) in
    let there : c.loop-row.row < length t.rows = omega (arith, count, c.shape.ensures.valid.count, c.loop-row-test.true) in
    let more = sum-more t c.args.column c.loop-row.row there in
    let part = sum-part t c.args.column (c.loop-row.row + 1) in
    let high : 2 ^ 64 ≤ c.loop-row.total + c.number_at.result = elim (cases_lt (c.loop-row.total + c.number_at.result) (2 ^ 64)) [ inl lt ↦ absurd (c.in-Err.ensures lt) | inr ge ↦ ge ] in
    let no = over t.shape.schema.columns c.args.column (rows_of t) (omega (arith, more, part, high, c.number_at.ensures, c.loop-row.invariant.summed)) in
    ((λ e. absurd cc), (λ e. absurd (cc (no, e))))

pub returns-in-Err-clause-first : goal.returns-in-Err-clause-first
returns-in-Err-clause-first c =
    let t = c.args.table.now in
    let count = ap (λ (s : ShapeParts). s.rows) (c.behind-table.view_is ∙ c.shape.ensures.shape) in
    let there : c.loop-row.row < length t.rows = omega (arith, count, c.shape.ensures.valid.count, c.loop-row-test.true) in
    let more = sum-more t c.args.column c.loop-row.row there in
    let high : 2 ^ 64 ≤ c.loop-row.total + c.number_at.result = elim (cases_lt (c.loop-row.total + c.number_at.result) (2 ^ 64)) [ inl lt ↦ absurd (c.in-Err.ensures lt) | inr ge ↦ ge ] in
    record {
      within = omega (arith, there, length-rows t c.args.column);
      total = omega (arith, more, c.number_at.ensures, c.loop-row.invariant.summed);
      over = over t.shape.schema.columns c.args.column (take (c.loop-row.row + 1) (rows_of t)) (omega (arith, more, high, c.number_at.ensures, c.loop-row.invariant.summed));
      first = c.loop-row.invariant.bounded;
    }

pub loop-row-preserved : goal.loop-row-preserved
loop-row-preserved c =
    let t = c.args.table.now in
    let columns = t.shape.schema.columns in
    let count = ap (λ (s : ShapeParts). s.rows) (c.behind-table.view_is ∙ c.shape.ensures.shape) in
    let there : c.loop-row.row < length t.rows = omega (arith, count, c.shape.ensures.valid.count, c.loop-row-test.true) in
    let more = sum-more t c.args.column c.loop-row.row there in
    let summed : c.in-Ok.next ≡ column_sum columns c.args.column (take (c.loop-row.row + 1) (rows_of t)) = omega (arith, more, c.in-Ok.ensures, c.number_at.ensures, c.loop-row.invariant.summed) in
    let here = within columns c.args.column (take (c.loop-row.row + 1) (rows_of t)) (omega (arith, summed, c.in-Ok.ensures)) in
    record { summed = summed; bounded = below_more (λ (k : ℕ). is_bounded columns c.args.column (take (k + 1) (rows_of t)) ≡ true) c.loop-row.row c.loop-row.invariant.bounded here }

pub returns-clause-sum : goal.returns-clause-sum
returns-clause-sum c =
    let t = c.args.table.now in
    let count = ap (λ (s : ShapeParts). s.rows) (c.behind-table.view_is ∙ c.shape.ensures.shape) in
    let all = all_rows t c.args.column c.loop-row.row (omega (arith, count, c.shape.ensures.valid.count, c.loop-row-test.false)) in
    c.loop-row.invariant.summed ∙ ap (column_sum t.shape.schema.columns c.args.column) all

pub returns-clause-bound : goal.returns-clause-bound
returns-clause-bound c =
    let t = c.args.table.now in
    let count = ap (λ (s : ShapeParts). s.rows) (c.behind-table.view_is ∙ c.shape.ensures.shape) in
    let all = all_rows t c.args.column c.loop-row.row (omega (arith, count, c.shape.ensures.valid.count, c.loop-row-test.false)) in
    let sum = c.loop-row.invariant.summed ∙ ap (column_sum t.shape.schema.columns c.args.column) all in
    ((λ e. within t.shape.schema.columns c.args.column (rows_of t) (omega (arith, sum))), (λ e. refl))
