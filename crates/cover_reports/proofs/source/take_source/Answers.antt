use Rattle.cover_reports.proofs.SourceLemmas.{long_stops, untaken_stops}
use Rattle.cover_reports.proofs.source.take_source.Goals as goal

pub returns-in-Ok-clause-err : goal.returns-in-Ok-clause-err
returns-in-Ok-clause-err g c =
    long_stops (g.F.Files.held c.args.files.now) c.args.left c.args.name.now c.in-Ok.text _ _ c.over_limit.result c.in-Ok.ensures.ok_quiet c.in-Ok.ensures.ok
    (rw c.len.ensures at c.if-len-left.true) c.over_limit.ensures

pub returns-in-Err-clause-err : goal.returns-in-Err-clause-err
returns-in-Err-clause-err g c = untaken_stops (g.F.Files.held c.args.files.now) c.args.left c.args.name.now _ _ c.in-Err.ending c.in-Err.ensures.err
