use Rattle.std.proofs.Common.{Bool, List, sym, subst}
use Rattle.std.proofs.lemmas.Result.{IfOk-weaker}
use Rattle.mark_numbers.specs.Numbers.{HaveNumbers}
use Rattle.arm_counters.specs.Needed.{AreNeeded}
use Rattle.arm_counters.specs.Counters.{AreCarrying, AreCounters}
use Rattle.arm_counters.proofs.Few as few
use Rattle.arm_counters.proofs.counters.arm_counters.Goals as goal

pub returns : goal.returns
returns c =
    let rows = c.args.rows.now in
    let points = c.args.points.now in
    let marks = c.as_slice.result.now in
    let flags = c.as_slice-2.result.now in
    let needed = subst (λ (ms : List Bool). AreNeeded rows points 0 ms) (sym c.as_slice.ensures.value) c.in_ok-marks.ensures in
    let carrying = subst (λ (fs : List Bool). AreCarrying rows marks fs) (sym c.as_slice-2.ensures.value) c.in_ok-flags.ensures in
    IfOk-weaker c.number_marks.result (λ r. HaveNumbers flags 0 r.next r.numbers) (λ r. AreCounters rows points r.next r.numbers)
    (λ r h. few.counters rows points marks flags r.next r.numbers c.requires.rows needed carrying h c.requires.many c.requires.assignments)
    c.number_marks.ensures
