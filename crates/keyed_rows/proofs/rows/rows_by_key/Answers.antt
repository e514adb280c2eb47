use Rattle.std.proofs.Common.{rules, ap, subst, ◌∙◌}
use Rattle.std.specs.Prelude.{◌==◌}
use Rattle.std.specs.List.{filter}
use Rattle.std.specs.List.Sorted.{IsPermutation}
use Rattle.std.proofs.lemmas.List.Sorted.{answers_always, All-permutation, IsNonDecreasingBy-from_sort_by_key}
use Rattle.keyed_rows.specs.declared.rows.KeyedRow.{KeyedRow}
use Rattle.keyed_rows.specs.KeyedRows.{IsKeyed}
use Rattle.keyed_rows.proofs.Sorted.{stable_by_key}
use Rattle.keyed_rows.proofs.rows.rows_by_key.Goals as goal

pub returns-clause-rows : goal.returns-clause-rows
returns-clause-rows c = All-permutation (IsKeyed c.args.checked.now c.args.table.now) _ _ c.in_ok-sort_by_key.ensures.permutation c.in_ok-keyed.ensures.keyed

pub returns-clause-rising : goal.returns-clause-rising
returns-clause-rising c = IsNonDecreasingBy-from_sort_by_key (λ k. k.key) _ c.in_ok-sort_by_key.ensures.sorted (λ a r q k. search rules)

pub returns-clause-same : goal.returns-clause-same
returns-clause-same c = λ n.
    stable_by_key _ _ (c.in_ok-sort_by_key.ensures.stable (λ k. k.key) (answers_always _ _ _ (λ f a r g h. search rules))) n
    ∙ ap (λ l. filter (λ (k : KeyedRow). k.key == n) l) c.in_ok-keyed.ensures.rows

pub returns-clause-permutation : goal.returns-clause-permutation
returns-clause-permutation c = subst (λ l. IsPermutation l c.sort_by_key.new.self.items) c.in_ok-keyed.ensures.rows c.in_ok-sort_by_key.ensures.permutation
