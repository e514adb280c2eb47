use Rattle.clap.specs.Words.{found_of, rows_of}
use Rattle.clap.specs.declared.parser.matches.ArgMatches.{ArgMatches}
use Rattle.clap.proofs.WalkLemmas.{both}
use Rattle.command_words.proofs.Rows.{read_rows, refused}
use Rattle.command_words.proofs.values.matches_of.Goals as goal

pub returns-in-Ok : goal.returns-in-Ok
returns-in-Ok c = read_rows _ _ _ (c.in-Ok.ensures.kinds c.requires) (c.in-Ok.ensures.matches (both _ _ c.requires).0).0

pub returns-in-Err : goal.returns-in-Err
returns-in-Err c = refused ArgMatches (λ m. rows_of (found_of m)) _ _ c.in-Err.error c.fault_of.result c.fault_of.ensures (c.in-Err.ensures.kinds c.requires)
