use Rattle.std.specs.Prelude.{option_copied}
use Rattle.std.proofs.lemmas.Result.{IfErr-weaker}
use Rattle.command_cover.proofs.SparingLemmas.{spares_name, unopened_is_no_line}
use Rattle.cover_answer.specs.Gathering.{keeps}
use Rattle.cover_gather.proofs.StepLemmas.{untaken_stops}
use Rattle.cover_gather.proofs.reading.add_file.Goals as goal

pub returns-in-Ok-clause-sparing : goal.returns-in-Ok-clause-sparing
returns-in-Ok-clause-sparing g c =
    IfErr-weaker c.add_open.result _ _
    (λ e is bad. spares_name (g.F.Files.held c.args.files.now) c.args.name.now _ _ _ c.in-Ok.ensures.opened (is bad))
    c.add_open.ensures.sparing

pub returns-in-Err-clause-err : goal.returns-in-Err-clause-err
returns-in-Err-clause-err g c =
    untaken_stops (keeps (option_copied c.args.filter)) c.args.ranks (g.F.Files.held c.args.files.now) c.args.name.now c.args.tally.now _ _
    c.in-Err.ending c.in-Err.ensures.err

pub returns-in-Err-clause-sparing : goal.returns-in-Err-clause-sparing
returns-in-Err-clause-sparing g c = λ bad. absurd (unopened_is_no_line _ _ _ _ c.in-Err.ending c.in-Err.ensures.err bad)
