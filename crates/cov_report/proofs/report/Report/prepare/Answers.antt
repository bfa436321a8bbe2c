use Rattle.std.proofs.Common.{◌≡◌, ◌∙◌, List, [], Option, get_or, sym, ap, subst}
use Rattle.std.specs.FinMap.{entries}
use Rattle.cov_dat.specs.DataText.{count_map}
use Rattle.report_text.specs.Faults.{prepare_fault, TellsFault}
use Rattle.report_text.specs.Tables.{seen_tables}
use Rattle.report_text.specs.declared.file_table.FileTable.{FileTable}
use Rattle.report_text.specs.declared.report_fault.ReportFault.{ReportFault}
use Rattle.cov_report.specs.Choosing.{StandsAt}
use Rattle.cov_report.specs.Names.{name_fault_if}
use Rattle.cov_report.proofs.TableLemmas.{names_annotated, prepare_is}
use Rattle.cov_report.proofs.report.Report.prepare.Goals as goal

pub returns-in-Err-clause-fault : goal.returns-in-Err-clause-fault
returns-in-Err-clause-fault c =
    let counts = entries (count_map c.args.merged.now) in
    let options = c.args.options.now in
    let named = c.in_ok-chosen.ensures.names ∙ names_annotated options.all options.min counts c.as_slice.result.now (ap seen_tables c.as_slice.ensures.value
    ∙ c.in_ok-tables.ensures.tables) in
    let is : prepare_fault options counts
    ≡ name_fault_if options.annotate c.as_slice-2.result.now = prepare_is options counts c.as_slice-2.result.now c.in_ok-tables.ensures.sound
    (c.as_slice-2.ensures ∙ named) in
    subst (λ (o : Option ReportFault). TellsFault o c.in-Err.fault) (sym is) c.in-Err.ensures.fault

pub returns-clause-sound : goal.returns-clause-sound
returns-clause-sound c =
    let counts = entries (count_map c.args.merged.now) in
    let options = c.args.options.now in
    let named = c.in_ok-chosen.ensures.names ∙ names_annotated options.all options.min counts c.as_slice.result.now (ap seen_tables c.as_slice.ensures.value
    ∙ c.in_ok-tables.ensures.tables) in
    let is : prepare_fault options counts
    ≡ name_fault_if options.annotate c.as_slice-2.result.now = prepare_is options counts c.as_slice-2.result.now c.in_ok-tables.ensures.sound
    (c.as_slice-2.ensures ∙ named) in
    is ∙ c.in_default.ensures.sound

pub invariant_of-result : goal.invariant_of-result
invariant_of-result c =
    let counts = entries (count_map c.args.merged.now) in
    let options = c.args.options.now in
    let named = c.in_ok-chosen.ensures.names ∙ names_annotated options.all options.min counts c.as_slice.result.now (ap seen_tables c.as_slice.ensures.value
    ∙ c.in_ok-tables.ensures.tables) in
    record {
      tabled = c.in_ok-tables.ensures.tables;
      named = named;
      stands = λ i within. subst (λ (ts : List FileTable). StandsAt ts (get_or c.in_ok-chosen.chosen.places.items i 0)
          (get_or c.in_ok-chosen.chosen.names i [])) c.as_slice.ensures.value (c.in_ok-chosen.ensures.places i within);
      len = c.in_ok-chosen.ensures.len;
    }
