use Rattle.std.proofs.Common.{◌≡◌, ◌∙◌, Option, Some, sym, subst, arith}
use Rattle.report_text.specs.Faults.{TellsFault}
use Rattle.report_text.specs.declared.report_fault.ReportFault.{ReportFault}
use Rattle.report_table.proofs.PlaceLemmas.{bad_here, placed_here, sum_here}
use Rattle.report_table.proofs.placing.test_places.Goals as goal

pub returns-in-Ok-None-clause-fault : goal.returns-in-Ok-None-clause-fault
returns-in-Ok-None-clause-fault c =
    subst (λ (o : Option ReportFault). TellsFault o c.bad_key_line.result)
    (sym (bad_here c.args.points.now c.points.point-index _ c.points-test.true c.in-Ok-None.field-0 c.points.invariant.placed c.in-Ok-None.field-0-is
    c.in-Ok-None.ensures))
    c.bad_key_line.ensures

pub points-preserved : goal.points-preserved
points-preserved c =
    let up = c.args.points.now in
    let k = c.points.point-index in
    let more : Some c.in-Ok-Some.more ≡ c.in-Ok-Some.field-0 = sym c.in-Ok-Some.field-0-is in
    record {
      placed = placed_here up k _ c.points-test.true c.in-Ok-Some.more c.points.invariant.placed (more ∙ c.in-Ok-Some.ensures);
      sum = sum_here up k _ c.points-test.true c.in-Ok-Some.more c.points.entries c.capped_sum-entries.result c.points.invariant.sum (more
          ∙ c.in-Ok-Some.ensures) c.capped_sum-entries.ensures;
      within = omega (arith, c.capped_sum-entries.ensures);
    }
