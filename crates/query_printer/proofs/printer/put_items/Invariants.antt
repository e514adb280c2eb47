use Rattle.std.proofs.Common.{◌≡◌, drop}
use Rattle.query_grammar.specs.declared.token.Token.TheVariants.{Symbol}
use Rattle.query_grammar.specs.declared.token.Symbol.TheVariants.{Comma}
use Rattle.query_grammar.specs.Grammar.{joined, item_text}
use Rattle.query_tokens.specs.Printing.{written}
use Rattle.query_tokens.proofs.Writing.{left_of}
use Rattle.query_printer.proofs.printer.put_items.Given as goal

abbrev pub invariant-loop-item : goal.invariant-loop-item
invariant-loop-item l = written l.printer (left_of (Symbol Comma) item_text l.first (drop l.item-index l.items)) ≡ written l.initial.printer (joined (Symbol Comma) item_text l.items)
