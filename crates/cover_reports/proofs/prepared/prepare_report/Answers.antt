use Rattle.std.specs.FinMap.{entries}
use Rattle.cov_dat.specs.DataText.{count_map}
use Rattle.cover_reports.proofs.PrepareLemmas.{counts_refused, counts_sound, names_sound, never_short}
use Rattle.cover_reports.proofs.prepared.prepare_report.Goals as goal

pub refused_report-requires : goal.refused_report-requires
refused_report-requires c = λ lines is. never_short c.args.options.now (entries (count_map c.args.merged.now)) c.in-Err.fault lines c.in-Err.ensures.fault is

pub returns-in-Ok-clause-sound : goal.returns-in-Ok-clause-sound
returns-in-Ok-clause-sound c = counts_sound c.args.options.now (entries (count_map c.args.merged.now)) c.in-Ok.ensures.sound

pub returns-in-Ok-clause-names : goal.returns-in-Ok-clause-names
returns-in-Ok-clause-names c = names_sound c.args.options.now (entries (count_map c.args.merged.now)) c.in-Ok.ensures.sound

pub returns-in-Err-clause-refused : goal.returns-in-Err-clause-refused
returns-in-Err-clause-refused c =
    counts_refused c.args.options.now (entries (count_map c.args.merged.now)) c.in-Err.fault c.refused_report.result c.in-Err.ensures.fault
    c.refused_report.ensures
