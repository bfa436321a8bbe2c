use Rattle.std.proofs.Common.{refl, sym, ◌∙◌}
use Rattle.cov_words.specs.SeenCommand.{seen_cover}
use Rattle.cov_report.specs.Reports.{ordered}
use Rattle.cover_answer.specs.Reports.{in_key_order}
use Rattle.cover_reporting.proofs.RefusalLemmas.{counts_stop, prepared_by, prepared_sound, prepared_stop}
use Rattle.cover_reporting.proofs.making.add_reports.Goals as goal

pub returns-in-Ok-clause-sound : goal.returns-in-Ok-clause-sound
returns-in-Ok-clause-sound g c =
    let asked = seen_cover c.args.asked.now in
    let options = c.report_options-options.result in
    prepared_sound c.add_prepared.result (g.F.Files.held c.args.files.now) asked options (in_key_order c.args.merged.now) (ordered c.in-Ok.report)
    (prepared_by asked options c.args.merged.now c.in-Ok.report.counts (sym c.looks_at_lines.ensures ∙ c.if-not-looks_at_lines.false)
    c.report_options-options.ensures c.in-Ok.ensures.report.0 c.in-Ok.ensures.sound c.in-Ok.ensures.names)
    c.add_prepared.ensures.sound

pub returns-in-Ok-clause-err : goal.returns-in-Ok-clause-err
returns-in-Ok-clause-err g c =
    let asked = seen_cover c.args.asked.now in
    let options = c.report_options-options.result in
    prepared_stop c.add_prepared.result (g.F.Files.held c.args.files.now) asked options (in_key_order c.args.merged.now) (ordered c.in-Ok.report) _ _
    (prepared_by asked options c.args.merged.now c.in-Ok.report.counts (sym c.looks_at_lines.ensures ∙ c.if-not-looks_at_lines.false)
    c.report_options-options.ensures c.in-Ok.ensures.report.0 c.in-Ok.ensures.sound c.in-Ok.ensures.names)
    c.add_prepared.ensures.err

pub returns-in-Err-clause-err : goal.returns-in-Err-clause-err
returns-in-Err-clause-err g c =
    counts_stop (g.F.Files.held c.args.files.now) (seen_cover c.args.asked.now) c.report_options-options.result (in_key_order c.args.merged.now)
    _ _ c.in-Err.ending refl (sym c.looks_at_lines.ensures ∙ c.if-not-looks_at_lines.false) c.report_options-options.ensures c.in-Err.ensures.refused
