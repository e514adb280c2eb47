use Rattle.std.proofs.Common.{◌+◌, ◌*◌, [], ◌++◌, ◌-◌, drop, length, replicate, refl, arith, ◌∙◌, ap}
use Rattle.std.proofs.lemmas.List.{length-drop, length-take-le}
use Rattle.cell_merge.specs.Entries.{before, ordered, entries_of}
use Rattle.cell_merge.specs.Triples.{triples}
use Rattle.cell_merge.proofs.Triples.{entry_at-same}
use Rattle.cell_merge.proofs.Kept.{scan_more, scan_last, scan_next, scan_none, filled}
use Rattle.cell_merge.proofs.top.merge_top.Goals as goal

pub loop-i-init : goal.loop-i-init
loop-i-init c = record { used = omega arith; entries = scan_none c.args.most c.args.into.now; rest = λ j h. refl }

pub loop-i-preserved : goal.loop-i-preserved
loop-i-preserved c =
    let i = c.loop-i.i in
    let at = entry_at-same i c.args.into.now c.loop-i.into (λ j p q. c.loop-i.invariant.rest j p) in
    record {
      used = omega arith;
      entries = scan_more c.args.most i c.args.into.now [] (triples c.loop-i.used c.loop-i.into) (triples c.take_in-used.result c.take_in-used.new.words) c.read_entry-entry.result c.take_in-used.ensures.entries c.loop-i.invariant.entries (c.read_entry-entry.ensures ∙ at) (omega arith);
      rest = λ j h. c.take_in-used.ensures.rest j (omega arith) ∙ c.loop-i.invariant.rest j (omega arith);
    }

pub loop-j-init : goal.loop-j-init
loop-j-init c = record {
  used = omega arith;
  entries = scan_next c.args.most c.loop-i.i c.args.into.now (triples c.loop-i.used c.loop-i.into) (omega arith) c.requires.into c.loop-i.invariant.entries;
}

pub loop-j-preserved : goal.loop-j-preserved
loop-j-preserved c =
    let j = c.loop-j.j in
    record {
      used = omega arith;
      entries = scan_more c.args.most j c.args.from.now (entries_of c.args.into.now) (triples c.loop-j.used c.loop-j.into) (triples c.take_in-used-in-loop-j.result c.take_in-used-in-loop-j.new.words) c.read_entry-entry-in-loop-j.result c.take_in-used-in-loop-j.ensures.entries c.loop-j.invariant.entries c.read_entry-entry-in-loop-j.ensures (omega arith);
    }

pub returns : goal.returns
returns c =
    let last = scan_last c.args.most c.loop-j.j (entries_of c.args.into.now) c.args.from.now (triples c.loop-j.used c.loop-j.into) (omega arith) c.requires.from c.loop-j.invariant.entries in
    filled c.loop-j.used c.args.most c.loop-j.into c.fill.new.self (ordered before (entries_of c.args.into.now ++ entries_of c.args.from.now)) (omega arith) (omega arith) last (c.fill.ensures.after (λ y e. e) ∙ ap (λ n. replicate n 0) (length-take-le (length c.loop-j.into - 3 * c.loop-j.used) (drop (3 * c.loop-j.used) c.loop-j.into) (omega (arith, length-drop (3 * c.loop-j.used) c.loop-j.into))))
