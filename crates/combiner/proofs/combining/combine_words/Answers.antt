use Rattle.std.proofs.Common.{sym, ◌∙◌}
use Rattle.spl_words.specs.declared.provider.Provider.TheVariants.{Zero, One}
use Rattle.combiner.proofs.Adding.{counted, length-added}
use Rattle.combiner.proofs.combining.combine_words.Goals as goal

pub add_words-requires : goal.add_words-requires
add_words-requires c =
    let zero = counted c.args.note.now c.args.expected Zero c.in_ok-zero.zero.now c.in_ok-answers.field-0 (sym c.in_ok-answers.ensures) in
    let one = counted c.args.note.now c.args.expected One c.in_ok-zero.one.now c.in_ok-answers-2.field-0 (sym c.in_ok-answers-2.ensures) in
    rw (c.as_slice.ensures, c.as_slice-2.ensures) (zero ∙ sym one)

pub returns-clause-length : goal.returns-clause-length
returns-clause-length c =
    let zero = counted c.args.note.now c.args.expected Zero c.in_ok-zero.zero.now c.in_ok-answers.field-0 (sym c.in_ok-answers.ensures) in
    let one = counted c.args.note.now c.args.expected One c.in_ok-zero.one.now c.in_ok-answers-2.field-0 (sym c.in_ok-answers-2.ensures) in
    rw (c.in_ok-add_words.ensures, c.as_slice.ensures, c.as_slice-2.ensures) (length-added c.in_ok-zero.zero.now.words c.in_ok-zero.one.now.words c.args.expected (sym zero) (sym one))
