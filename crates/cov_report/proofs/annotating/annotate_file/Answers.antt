use Rattle.std.proofs.Common.{◌∙◌, ap}
use Rattle.report_text.specs.Tables.{seen_table}
use Rattle.cov_report.proofs.TableLemmas.{table_at}
use Rattle.cov_report.proofs.annotating.annotate_file.Goals as goal

pub returns-clause-text : goal.returns-clause-text
returns-clause-text c = λ counts file is stands.
    c.annotate_table.ensures.text counts file (ap seen_table c.index-tables-place.is
    ∙ table_at c.args.tables.now counts c.args.place c.index-tables-place.result file is stands)

pub returns-clause-long : goal.returns-clause-long
returns-clause-long c = λ counts file is stands.
    c.annotate_table.ensures.long counts file (ap seen_table c.index-tables-place.is
    ∙ table_at c.args.tables.now counts c.args.place c.index-tables-place.result file is stands)

pub returns-clause-fault : goal.returns-clause-fault
returns-clause-fault c = λ counts file is stands.
    c.annotate_table.ensures.fault counts file (ap seen_table c.index-tables-place.is
    ∙ table_at c.args.tables.now counts c.args.place c.index-tables-place.result file is stands)
