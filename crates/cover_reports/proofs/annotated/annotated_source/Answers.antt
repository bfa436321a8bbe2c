use Rattle.std.proofs.Common.{sym}
use Rattle.cov_report.specs.Reports.{ordered}
use Rattle.cover_reports.proofs.AnnotatedLemmas.{short_stops, untaken_annotated}
use Rattle.cover_reports.proofs.annotated.annotated_source.Goals as goal

pub returns-in-Err-clause-err : goal.returns-in-Err-clause-err
returns-in-Err-clause-err g c =
    untaken_annotated (g.F.Files.held c.args.files.now) (ordered c.args.report.now) c.args.left c.args.name.now _ _ c.in-Err.ending c.in-Err.ensures.err

pub returns-clause-err : goal.returns-clause-err
returns-clause-err g c =
    short_stops (g.F.Files.held c.args.files.now) (ordered c.args.report.now) c.args.left c.args.name.now c.in-Ok.source c.in-Err-annotate.fault _ _
    c.short_refusal.result
    c.in-Ok.ensures.ok_quiet c.in-Ok.ensures.ok c.in-Ok.ensures.within (rw (c.as_slice.ensures, sym c.requires.name) at c.in-Err-annotate.ensures.fault)
    c.short_refusal.ensures
