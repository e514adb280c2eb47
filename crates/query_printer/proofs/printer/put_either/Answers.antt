use Rattle.std.proofs.Common.{◌≡◌, get_or, ◌∙◌, ap}
use Rattle.query_grammar.specs.declared.token.Token.TheVariants.{Symbol}
use Rattle.query_grammar.specs.declared.token.Symbol.TheVariants.{Or}
use Rattle.query_grammar.specs.Grammar.{branch_text}
use Rattle.query_tokens.specs.Printing.{written}
use Rattle.query_printer.proofs.Either.{next_behind, next_first}
use Rattle.query_printer.proofs.printer.put_either.Goals as goal
use Rattle.query_printer.proofs.printer.put_either.Goals.{then-not-first+in_ok-symbol, else-not-first}

pub loop-branch-preserved : goal.loop-branch-preserved
loop-branch-preserved c =
    let bs = c.args.branches.now in
    let i = c.loop-branch.branch-index in
    let x = c.as_slice.result.now in
    let w0 = c.loop-branch.printer in
    let is : x ≡ get_or bs i x = cc in
    let e = c.in_ok-put_branch.ensures in
    elim c.if-not-first.branch [
      | then-not-first+in_ok-symbol w ↦
          let inv = rw w.if-not-first.true at c.loop-branch.invariant in
          next_behind (Symbol Or) branch_text w0 c.put_branch.new.printer bs i x c.loop-branch-test.true is (e ∙ ap (λ p. written p (branch_text x)) (w.printer-is ∙ w.in_ok-symbol.ensures)) ∙ inv
      | else-not-first w ↦
          let inv = rw w.if-not-first.false at c.loop-branch.invariant in
          next_first (Symbol Or) branch_text w0 c.put_branch.new.printer bs i x c.loop-branch-test.true is (e ∙ ap (λ p. written p (branch_text x)) w.printer-is) ∙ inv
    ]
