use Rattle.std.proofs.Common.{◌≡◌, ◌+◌, ◌∷◌, [], false, Some, None, arith, get_or, drop, length-drop, append_assoc}
use Rattle.std.proofs.lemmas.List.{append-nil}
use Rattle.query_tokens.specs.Lexing.{is_blank}
use Rattle.query_tokens.specs.Tokens.{lexeme, lexed, place, tokens_in}
use Rattle.query_tokens.proofs.Scan.{at_token, at_nothing, at_the_end, lexeme_within, rest_taken}
use Rattle.query_tokens.proofs.lexer.tokens.Goals as goal

pub returns-in-None : goal.returns-in-None
unfolding tokens_in
returns-in-None c =
    let text = c.args.text.now in
    let at = c.loop-at.at in
    let r = rest_taken at text in
    let m = c.in_ok-front.ensures in
    let f : lexeme (drop at text) ≡ None = cc in
    let b : is_blank (get_or text at 0) ≡ false = cc in
    let n = at_nothing text at c.loop-at-test.true b f in
    let i = c.in_ok-push_back-in-None.ensures.items in
    cc

pub overflow_add-at-in-Some : goal.overflow_add-at-in-Some
overflow_add-at-in-Some c =
    let text = c.args.text.now in
    let at = c.loop-at.at in
    let r = rest_taken at text in
    let m = c.in_ok-front.ensures in
    let f : lexeme (drop at text) ≡ Some c.in-Some.lexeme = cc in
    let w = lexeme_within (drop at text) c.in-Some.lexeme (omega (arith, length-drop at text)) f in
    omega (arith, length-drop at text)

pub overflow_add-at-in-Some-2 : goal.overflow_add-at-in-Some-2
overflow_add-at-in-Some-2 c =
    let text = c.args.text.now in
    let at = c.loop-at.at in
    let r = rest_taken at text in
    let m = c.in_ok-front.ensures in
    let f : lexeme (drop at text) ≡ Some c.in-Some.lexeme = cc in
    let w = lexeme_within (drop at text) c.in-Some.lexeme (omega (arith, length-drop at text)) f in
    omega (arith, length-drop at text)

pub loop-at-preserved : goal.loop-at-preserved
loop-at-preserved c =
    let text = c.args.text.now in
    let at = c.loop-at.at in
    let x = c.in-Some.lexeme in
    let r = rest_taken at text in
    let m = c.in_ok-front.ensures in
    let f : lexeme (drop at text) ≡ Some x = cc in
    let w = lexeme_within (drop at text) x (omega (arith, length-drop at text)) f in
    let b : is_blank (get_or text at 0) ≡ false = cc in
    let n = at_token text at x c.loop-at-test.true b f in
    let i = c.in_ok-push_back-in-Some.ensures.items in
    let a = append_assoc c.loop-at.tokens.items (place x.token at ∷ []) (lexed 0 (at + (x.more + 1)) (drop (at + (x.more + 1)) text)) in
    (cc, omega (arith, length-drop at text))

pub returns : goal.returns
unfolding tokens_in
returns c =
    let e = at_the_end c.args.text.now c.loop-at.at c.loop-at-test.false in
    let n = append-nil c.loop-at.tokens.items in
    cc
