use Rattle.std.proofs.Common.{◌≡◌, ℕ, List, [], get_or, ap, subst}
use Rattle.std.specs.Result.{IfOk}
use Rattle.report_text.specs.Annotation.{annotated_text}
use Rattle.report_text.specs.declared.options.ReportOptions.{ReportOptions}
use Rattle.cov_report.specs.Reports.{ReportValue, files_annotated, options_of, ordered}
use Rattle.cov_report.proofs.TableLemmas.{report_stands}
use Rattle.cov_report.proofs.report.Report.annotate.Goals as goal

pub returns-clause-text : goal.returns-clause-text
returns-clause-text c =
    let v = c.args.self.now in
    let file = get_or (files_annotated v) c.args.file [] in
    let stands =
    report_stands (record { counts = c.self.inside.merged.now; options = c.self.inside.options.now }) c.args.self.now c.self.inside.tables.items
    c.as_slice.result.now
    c.self.inside.names c.self.inside.places.items c.as_slice-places.result.now c.args.file c.self.view_is c.self.invariant c.as_slice.ensures.value
    c.as_slice-places.ensures.value c.requires in
    subst (λ (o : ReportOptions). IfOk c.annotate_file.result (λ (text : List ℕ). text
    ≡ annotated_text (options_of o) (ordered v) file c.args.source.now)) (ap (λ (r : ReportValue). r.options) c.self.view_is)
    (c.annotate_file.ensures.text (ordered v) file stands.1 stands.0)

pub returns-clause-long : goal.returns-clause-long
returns-clause-long c =
    let v = c.args.self.now in
    let stands =
    report_stands (record { counts = c.self.inside.merged.now; options = c.self.inside.options.now }) c.args.self.now c.self.inside.tables.items
    c.as_slice.result.now
    c.self.inside.names c.self.inside.places.items c.as_slice-places.result.now c.args.file c.self.view_is c.self.invariant c.as_slice.ensures.value
    c.as_slice-places.ensures.value c.requires in
    c.annotate_file.ensures.long (ordered v) (get_or (files_annotated v) c.args.file []) stands.1 stands.0

pub returns-clause-fault : goal.returns-clause-fault
returns-clause-fault c =
    let v = c.args.self.now in
    let stands =
    report_stands (record { counts = c.self.inside.merged.now; options = c.self.inside.options.now }) c.args.self.now c.self.inside.tables.items
    c.as_slice.result.now
    c.self.inside.names c.self.inside.places.items c.as_slice-places.result.now c.args.file c.self.view_is c.self.invariant c.as_slice.ensures.value
    c.as_slice-places.ensures.value c.requires in
    c.annotate_file.ensures.fault (ordered v) (get_or (files_annotated v) c.args.file []) stands.1 stands.0
