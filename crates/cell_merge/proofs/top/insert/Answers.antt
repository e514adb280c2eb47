use Rattle.std.proofs.Common.{◌≡◌, slice_index, refl, arith, ◌∙◌, sym, ap}
use Rattle.cell_merge.proofs.Triples.{all_pushed, all_taken, more_pushed, none_pushed, one_taken, with_entry-other}
use Rattle.cell_merge.specs.Triples.{triples}
use Rattle.cell_merge.proofs.top.insert.Goals as goal

pub loop-i-init : goal.loop-i-init
loop-i-init c = record { entries = none_pushed c.args.entry c.args.words.now (triples c.args.used c.args.words.now); rest = λ j h. refl }

pub loop-i-preserved : goal.loop-i-preserved
loop-i-preserved c = record {
  entries = more_pushed c.args.used c.loop-i.i c.args.words.now c.loop-i.words c.push_down.new.words c.loop-i.placed c.push_down.result.1 c.loop-i.moved c.push_down.result.0 c.args.entry (omega arith) c.loop-i.invariant.rest c.push_down.ensures.low c.push_down.ensures.entries c.loop-i.invariant.entries;
  rest = λ j h. c.push_down.ensures.high j (omega arith) ∙ c.loop-i.invariant.rest j (omega arith);
}

pub returns-then-used-most-clause-entries : goal.returns-then-used-most-clause-entries
returns-then-used-most-clause-entries c =
    let e : c.loop-i.i ≡ c.args.used = omega arith in
    let inv = rw e at c.loop-i.invariant.entries in
    let m : c.args.used ≡ c.args.most = c.if-used-most.true in
    let all = all_taken c.args.used c.args.words.now c.loop-i.words c.loop-i.moved c.args.entry (all_pushed c.args.used c.args.words.now c.loop-i.words c.loop-i.placed c.loop-i.moved c.args.entry inv) in
    rw (sym m) all

pub returns-clause-entries : goal.returns-clause-entries
returns-clause-entries c =
    let e : c.loop-i.i ≡ c.args.used = omega arith in
    let inv = rw e at c.loop-i.invariant.entries in
    let all = all_pushed c.args.used c.args.words.now c.loop-i.words c.loop-i.placed c.loop-i.moved c.args.entry inv in
    one_taken c.args.used c.args.most c.args.words.now c.loop-i.words c.write_entry.new.words c.loop-i.moved c.args.entry (omega arith) (omega arith) c.write_entry.ensures (λ j h. ap (λ w. slice_index w j) c.write_entry.ensures ∙ with_entry-other c.loop-i.words c.args.used c.loop-i.moved j (λ q. omega arith) (λ q. omega arith) (λ q. omega arith)) all
