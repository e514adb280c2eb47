use Rattle.std.proofs.Common.{sym, ◌∙◌}
use Rattle.key_frames.proofs.NoteLaws.{none_is_prefix}
use Rattle.key_frames.proofs.laws.notes_have_one_spelling.Goals as goal

pub returns-clause-prefix : goal.returns-clause-prefix
returns-clause-prefix c = λ b1 b2 more f g a b e. none_is_prefix b1 b2 more f g a b e

pub returns-clause-one : goal.returns-clause-one
returns-clause-one c = λ b1 b2 f a b. a.spelled ∙ sym b.spelled
