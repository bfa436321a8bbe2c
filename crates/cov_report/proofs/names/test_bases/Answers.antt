use Rattle.std.proofs.Common.{◌≡◌, ◌∙◌, true, false, Option, is_some, get_or, sym, ap, subst}
use Rattle.std.specs.BTreeMap.{get}
use Rattle.report_text.specs.FileNames.{base_name}
use Rattle.report_text.specs.Faults.{TellsFault}
use Rattle.report_text.specs.declared.report_fault.ReportFault.{ReportFault}
use Rattle.cov_report.specs.Names.{by_bytes, same_name_of}
use Rattle.cov_report.proofs.NameLemmas.{same_name_here, other_name_here, bases_here, any_here}
use Rattle.cov_report.proofs.names.test_bases.Goals as goal

pub returns-in-Ok-Some-clause-fault : goal.returns-in-Ok-Some-clause-fault
returns-in-Ok-Some-clause-fault c =
    let names = c.args.names.now in
    let k = c.names.place in
    let d = c.index-names-place.result in
    let name : c.as_slice-name.result.now ≡ get_or names k d = c.as_slice-name.ensures ∙ c.index-names-place.is in
    subst (λ (o : Option ReportFault). TellsFault o c.same_name.result)
    (ap same_name_of name ∙ sym (same_name_here names k d c.names-test.true c.names.invariant.so_far
    (any_here names k d c.base_name.result (get by_bytes c.names.bases c.base_name.result) true (c.base_name.ensures
    ∙ ap base_name name) (c.names.invariant.has c.base_name.result)
    (ap is_some (sym c.in-Ok-Some.ensures.old ∙ c.in-Ok-Some.field-0-is)))))
    c.same_name.ensures

pub names-preserved : goal.names-preserved
names-preserved c =
    let names = c.args.names.now in
    let k = c.names.place in
    let d = c.index-names-place.result in
    let name : c.as_slice-name.result.now ≡ get_or names k d = c.as_slice-name.ensures ∙ c.index-names-place.is in
    let base = c.base_name.ensures ∙ ap base_name name in
    record {
      so_far = other_name_here names k d c.names-test.true c.names.invariant.so_far
          (any_here names k d c.base_name.result (get by_bytes c.names.bases c.base_name.result) false base (c.names.invariant.has c.base_name.result)
          (ap is_some (sym c.in-Ok-None.ensures.old ∙ c.in-Ok-None.field-0-is)));
      has = bases_here names k d c.names-test.true c.base_name.result (λ q. get by_bytes c.names.bases q) (λ q. get by_bytes c.insert.new.self q) base
          c.names.invariant.has (λ q. c.in-Ok-None.ensures.updates.0 q);
    }
