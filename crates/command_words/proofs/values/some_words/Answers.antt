use Rattle.std.proofs.Common.{sym, ◌∙◌, ap, map, option_map, Some}
use Rattle.clap.specs.Words.{found_of}
use Rattle.clap.proofs.WalkLemmas.{raw_values-rows}
use Rattle.command_words.proofs.values.some_words.Goals as goal

pub returns-in_ok-copied-in-Some : goal.returns-in_ok-copied-in-Some
returns-in_ok-copied-in-Some c =
    sym (c.get_strs.ensures ∙ raw_values-rows (found_of c.args.matches.now) c.args.name.now)
    ∙ ap (option_map (λ s. map (λ v. v.now) s.now)) c.in-Some.is
    ∙ ap Some (sym c.in_ok-copied-in-Some.ensures)

pub returns-in-None : goal.returns-in-None
returns-in-None c =
    sym (c.get_strs.ensures ∙ raw_values-rows (found_of c.args.matches.now) c.args.name.now)
    ∙ ap (option_map (λ s. map (λ v. v.now) s.now)) c.in-None.is
