use Rattle.std.proofs.Common.{refl}
use Rattle.command_ending.specs.Ending.{line_at}
use Rattle.command_check.specs.CheckPromise.{check_promise}
use Rattle.cov_program.proofs.ProgramLemmas.{check_not_words, leaves_wanting}
use Rattle.cov_program.proofs.program.run_check.Goals as goal

pub returns-in-Ok-clause-leaves : goal.returns-in-Ok-clause-leaves
returns-in-Ok-clause-leaves g c = rw (c.as_slice.ensures.value, c.in-Ok.ensures) at c.check_files.ensures.leaves

pub returns-in-Ok-clause-words : goal.returns-in-Ok-clause-words
returns-in-Ok-clause-words g c = check_not_words _ _ (line_at c.check_files.result) c.check_files.ensures.leaves.line

pub returns-in-Err-clause-leaves : goal.returns-in-Err-clause-leaves
returns-in-Err-clause-leaves g c =
    leaves_wanting (check_promise c.args.names.now) (g.F.Files.held c.args.files.now) (g.F.Files.faults c.args.files.now)
    (g.O.Sink.written c.args.out.now) (g.O.Sink.faults c.args.out.now) refl
