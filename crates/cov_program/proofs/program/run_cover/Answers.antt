use Rattle.std.proofs.Common.{refl, Some}
use Rattle.cov_words.specs.SeenCommand.{seen_cover}
use Rattle.command_ending.specs.Ending.{line_at}
use Rattle.command_ending.specs.declared.status.Status.TheVariants.{NoMemory}
use Rattle.cover_answer.specs.CoverPromise.{cover_promise}
use Rattle.cov_program.specs.Words.{covering}
use Rattle.cov_program.proofs.ProgramLemmas.{cover_not_words, leaves_wanting, spares_nothing, want_is_no_line}
use Rattle.cov_program.proofs.program.run_cover.Goals as goal

pub returns-in-Ok-clause-words : goal.returns-in-Ok-clause-words
returns-in-Ok-clause-words g c = cover_not_words (seen_cover c.args.asked.now) _ (line_at c.cover_files.result) c.cover_files.ensures.leaves.line

pub returns-in-Err-clause-leaves : goal.returns-in-Err-clause-leaves
returns-in-Err-clause-leaves g c =
    leaves_wanting (cover_promise (seen_cover c.args.asked.now)) (g.F.Files.held c.args.files.now) (g.F.Files.faults c.args.files.now)
    (g.O.Sink.written c.args.out.now) (g.O.Sink.faults c.args.out.now) refl

pub returns-in-Err-clause-sparing : goal.returns-in-Err-clause-sparing
returns-in-Err-clause-sparing g c =
    spares_nothing (Some (covering (seen_cover c.args.asked.now))) NoMemory _ (g.F.Files.held c.args.files.now) want_is_no_line
