-- What an accepted query is, in numbers.
use Rattle.std.proofs.Common.{◌≡◌, ℕ, ◌-◌, ◌^◌, ◌≤◌, Bool, true, false, length, min, nat_lt, Option, Some, None, refl, sym, ◌∙◌, ap, arith}
use Rattle.std.proofs.lemmas.Bool.Decides.{nat_tests}
use Rattle.spl_values.specs.Shapes.{SchemaParts}
use Rattle.query_grammar.specs.Queries.{QueryParts}
use Rattle.query_parser.specs.declared.fault.QueryFault.{QueryFault}
use Rattle.query_tokens.specs.Printing.{canonical_text}
use Rattle.query_reader.specs.Uses.{uses_of}
use Rattle.query_reader.specs.Accepted.{IsAccepted, IsUnrefused, IsCheckedFor, checked_of}
use Rattle.query_reader.specs.declared.checked.Checked.{Checked}
use Rattle.query_reader.specs.Refusals.{fault_if, or_else, refusal, name_refusal, form_refusal, size_refusal, key_bits, spec_of, no_table, no_column, wrong_type, no_secret, branches_differ, too_wide, too_many_branches, bad_topk, cells_too_wide, too_long}
use Rattle.query_parser.specs.declared.fault.QueryFault.TheVariants.{TooWide, TooManyBranches}

pub none_of : (a b : Option QueryFault) → or_else a b ≡ None → (a ≡ None) × (b ≡ None)
none_of None b h = (refl, h)
none_of (Some e) b h = cc

pub not_if : (t : Bool) (e : QueryFault) → fault_if t e ≡ None → t ≡ false
not_if true e h = cc
not_if false e h = refl

pub at_most : (m n : ℕ) → nat_lt m n ≡ false → n ≤ m
at_most m n h = grind (arith, nat_tests)

pub unrefused : (q : QueryParts) (schema : SchemaParts) → refusal q schema ≡ None → IsUnrefused q schema
unfolding refusal name_refusal form_refusal size_refusal
unrefused q schema h =
    let all = none_of (name_refusal q schema) (or_else (form_refusal q schema) (size_refusal q schema)) h in
    let rest = none_of (form_refusal q schema) (size_refusal q schema) all.1 in
    let names = none_of (no_table q schema) (or_else (no_column (uses_of q) schema) (wrong_type (uses_of q) schema)) all.0 in
    let columns = none_of (no_column (uses_of q) schema) (wrong_type (uses_of q) schema) names.1 in
    let a = none_of (no_secret q) (or_else (branches_differ q) (or_else (too_wide q schema) (or_else (too_many_branches q) (bad_topk q)))) rest.0 in
    let b = none_of (branches_differ q) (or_else (too_wide q schema) (or_else (too_many_branches q) (bad_topk q))) a.1 in
    let d = none_of (too_wide q schema) (or_else (too_many_branches q) (bad_topk q)) b.1 in
    let e = none_of (too_many_branches q) (bad_topk q) d.1 in
    let f = none_of (cells_too_wide (spec_of q schema)) (too_long (canonical_text q)) rest.1 in
    record {
      table = names.0;
      columns = columns.0;
      types = columns.1;
      secret = a.0;
      same = b.0;
      narrow = d.0;
      few = e.0;
      topk = e.1;
      cells = f.0;
      short = f.1;
    }

pub few_branches : (q : QueryParts) (schema : SchemaParts) → refusal q schema ≡ None → length q.branches ≤ 8
few_branches q schema h =
    at_most 8 (length q.branches) (not_if (nat_lt 8 (length q.branches)) (TooManyBranches (length q.branches)) (unrefused q schema h).few)

pub narrow_key : (q : QueryParts) (schema : SchemaParts) → refusal q schema ≡ None → key_bits q schema ≤ 128
narrow_key q schema h =
    at_most 128 (key_bits q schema) (not_if (nat_lt 128 (key_bits q schema)) (TooWide (min (key_bits q schema) (2 ^ 64 - 1))) (unrefused q schema h).narrow)

pub checked_for : (c : Checked) (q : QueryParts) (schema : SchemaParts) → IsAccepted q schema → c ≡ checked_of q schema → IsCheckedFor c schema
checked_for c q schema a e =
    let p : c.query ≡ q = ap (λ (x : Checked). x.query) e in
    record { accepted = rw p a; known = e ∙ ap (λ x. checked_of x schema) (sym p) }
