use Rattle.std.proofs.Common.{◌∙◌}
use Rattle.spl_words.specs.declared.provider.Provider.TheVariants.{Zero, One}
use Rattle.session_model.specs.Sessions.{clear_text}
use Rattle.splinter_commands.proofs.SessionsEnd.{own_answer, own_frame, same_answer, same_frame, same_end, text_is}
use Rattle.splinter_commands.proofs.sessions.session_text.Goals as goal

pub answer_of-requires-clause-comes : goal.answer_of-requires-clause-comes
answer_of-requires-clause-comes g c κs within =
    let t = c.args.traced.now in
    let words = c.requires.round.0 in
    let of = c.requires.round.1 in
    (own_answer t words Zero, same_answer t Zero c.as_slice-left.result.now c.args.round.now.left (own_answer t words Zero) c.as_slice-left.ensures (c.round_is_answered.ensures.zero words of))

pub answer_of-requires-2-clause-comes : goal.answer_of-requires-2-clause-comes
answer_of-requires-2-clause-comes g c κs within =
    let t = c.args.traced.now in
    let words = c.requires.round.0 in
    let of = c.requires.round.1 in
    (own_answer t words One, same_answer t One c.as_slice-right.result.now c.args.round.now.right (own_answer t words One) c.as_slice-right.ensures (c.round_is_answered.ensures.one words of))

pub result_of-requires : goal.result_of-requires
result_of-requires g c =
    let t = c.args.traced.now in
    let round = c.args.round.now in
    let words = c.requires.round.0 in
    let of = c.requires.round.1 in
    let a = own_answer t words Zero in
    let b = own_answer t words One in
    let zero = c.in_ok-zero.ensures a (same_answer t Zero c.as_slice-left.result.now round.left a c.as_slice-left.ensures (c.round_is_answered.ensures.zero words of)) in
    let one = c.in_ok-one.ensures b (same_answer t One c.as_slice-right.result.now round.right b c.as_slice-right.ensures (c.round_is_answered.ensures.one words of)) in (
      clear_text t.asked.checked t.asked.params t.table,
      same_end c.as_slice.result.now c.deref.result.now c.deref-2.result.now round.note a b (clear_text t.asked.checked t.asked.params t.table) c.as_slice.ensures (c.deref.ensures.value ∙ zero) (c.deref-2.ensures.value ∙ one)
          (c.round_is_answered.ensures.ended words of),
    )

pub words_of-requires : goal.words_of-requires
words_of-requires g c =
    let t = c.args.traced.now in
    let words = c.requires.round.0 in
    let of = c.requires.round.1 in
    let a = own_answer t words Zero in
    let zero = c.in_ok-zero.ensures a (same_answer t Zero c.as_slice-left.result.now c.args.round.now.left a c.as_slice-left.ensures (c.round_is_answered.ensures.zero words of)) in
    (own_frame t words Zero, same_frame c.deref-3.result.now a (own_frame t words Zero) (c.deref-3.ensures.value ∙ zero) (c.round_is_answered.ensures.frames Zero words of))

pub words_of-requires-2 : goal.words_of-requires-2
words_of-requires-2 g c =
    let t = c.args.traced.now in
    let words = c.requires.round.0 in
    let of = c.requires.round.1 in
    let b = own_answer t words One in
    let one = c.in_ok-one.ensures b (same_answer t One c.as_slice-right.result.now c.args.round.now.right b c.as_slice-right.ensures (c.round_is_answered.ensures.one words of)) in
    (own_frame t words One, same_frame c.deref-4.result.now b (own_frame t words One) (c.deref-4.ensures.value ∙ one) (c.round_is_answered.ensures.frames One words of))

pub returns : goal.returns
returns g c = λ words of.
    let t = c.args.traced.now in
    let round = c.args.round.now in
    let a = own_answer t words Zero in
    let b = own_answer t words One in
    let text = clear_text t.asked.checked t.asked.params t.table in
    let zero = c.in_ok-zero.ensures a (same_answer t Zero c.as_slice-left.result.now round.left a c.as_slice-left.ensures (c.round_is_answered.ensures.zero words of)) in
    let one = c.in_ok-one.ensures b (same_answer t One c.as_slice-right.result.now round.right b c.as_slice-right.ensures (c.round_is_answered.ensures.one words of)) in
    let zero_words = c.in_ok-zero-2.ensures (own_frame t words Zero) (same_frame c.deref-3.result.now a (own_frame t words Zero) (c.deref-3.ensures.value ∙ zero) (c.round_is_answered.ensures.frames Zero words of)) in
    let one_words = c.in_ok-one-2.ensures (own_frame t words One) (same_frame c.deref-4.result.now b (own_frame t words One) (c.deref-4.ensures.value ∙ one) (c.round_is_answered.ensures.frames One words of)) in
    let ended = c.in_ok-result.ensures text (same_end c.as_slice.result.now c.deref.result.now c.deref-2.result.now round.note a b text c.as_slice.ensures (c.deref.ensures.value ∙ zero) (c.deref-2.ensures.value ∙ one)
    (c.round_is_answered.ensures.ended words of)) in
    text_is t words c.as_slice-2.result.now c.as_slice-3.result.now c.in_ok-text.text.items c.as_slice-4.result.now c.extend_from_slice.new.self.items (c.as_slice-2.ensures ∙ zero_words) (c.as_slice-3.ensures ∙ one_words)
    c.in_ok-text.ensures (c.as_slice-4.ensures ∙ ended) c.in_ok-extend_from_slice.ensures.items
