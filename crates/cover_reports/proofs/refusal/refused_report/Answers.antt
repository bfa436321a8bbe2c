use Rattle.std.proofs.Common.{ap, codes}
use Rattle.command_ending.specs.Answer.{over_limit}
use Rattle.command_ending.specs.Stops.{without_memory}
use Rattle.cover_answer.specs.Reports.{bad_file}
use Rattle.cover_reports.specs.Sources.{answer_to}
use Rattle.cover_reports.proofs.SourceLemmas.{told}
use Rattle.cover_reports.proofs.refusal.refused_report.Goals as goal

pub returns-in-BadKeyLine : goal.returns-in-BadKeyLine
returns-in-BadKeyLine c = told c.bad_file.result c.args.fault (bad_file (codes "BadKeyLine") c.in-BadKeyLine.file) (ap answer_to c.in-BadKeyLine.is)
    (rw c.as_slice.ensures at c.bad_file.ensures)

pub returns-in-BadFileName : goal.returns-in-BadFileName
returns-in-BadFileName c =
    told c.bad_file-in-BadFileName.result c.args.fault (bad_file (codes "BadFileName") c.in-BadFileName.file) (ap answer_to c.in-BadFileName.is)
    (rw c.as_slice-in-BadFileName.ensures at c.bad_file-in-BadFileName.ensures)

pub returns-in-SameBaseName : goal.returns-in-SameBaseName
returns-in-SameBaseName c =
    told c.bad_file-in-SameBaseName.result c.args.fault (bad_file (codes "SameBaseName") c.in-SameBaseName.file) (ap answer_to c.in-SameBaseName.is)
    (rw c.as_slice-in-SameBaseName.ensures at c.bad_file-in-SameBaseName.ensures)

pub returns-in-Limit : goal.returns-in-Limit
returns-in-Limit c = told c.over_limit.result c.args.fault (over_limit c.in-Limit.name) (ap answer_to c.in-Limit.is) c.over_limit.ensures

pub returns-in-ShortSource : goal.returns-in-ShortSource
returns-in-ShortSource c = without_memory
