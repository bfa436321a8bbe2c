use Rattle.std.proofs.Common.{◌≡◌, ◌∙◌, sym, ap, subst, List, ℕ, ◌+◌, ◌<◌, true, false, not, length, slice_index_or, arith}
use Rattle.std.specs.Prelude.{IsTrue}
use Rattle.std.proofs.lemmas.List.{get_or_default}
use Rattle.design_tree.specs.declared.design.Process.{Process}
use Rattle.circuit_run.specs.Kinds.{is_assign}
use Rattle.design_meaning.specs.Processes.{kind_of, process_of, no_process}
use Rattle.place_marks.specs.Marked.{is_marked}
use Rattle.cycle_phases.proofs.Passing.{not_other, one_marked, one_unmarked}
use Rattle.cycle_phases.proofs.others.mark_others.Goals as goal
use Rattle.cycle_phases.proofs.others.mark_others.Goals.{then-is_other, else-is_other}

pub loop-at-preserved : goal.loop-at-preserved
loop-at-preserved c =
    let d = c.args.design.now in
    let n = c.loop-at.at in
    let same = c.as_slice-processes.ensures in
    let item = c.index-processes-at.result in
    let many : length c.as_slice-processes.result.now ≡ length d.processes = ap (λ (ps : List Process). length ps) same in
    let here : n < length d.processes = omega (arith, c.loop-at-test.true, many) in
    let is : slice_index_or c.as_slice-processes.result.now n item ≡ process_of d n =
    ap (λ ps. slice_index_or ps n item) same ∙ get_or_default d.processes n item no_process here in
    let is_assigned = λ (p : ℕ). IsTrue (is_assign (kind_of d p)) in
    elim c.if-is_other.branch [
      | then-is_other w ↦ record {
        room = omega (arith, c.loop-at.invariant.room, w.mark.ensures.room, ap (λ (l : List ℕ). length l) w.marks-is);
        others = subst (λ (marks : List ℕ). (p : ℕ) → p < n + 1 → is_marked marks p ≡ false → IsTrue (is_assign (kind_of d p))) (sym w.marks-is)
            (one_marked is_assigned n c.loop-at.marks w.mark.new.self w.mark.ensures.marks c.loop-at.invariant.others);
      }
      | else-is_other w ↦ record {
        room = omega (arith, c.loop-at.invariant.room, ap (λ (l : List ℕ). length l) w.marks-is);
        others = subst (λ (marks : List ℕ). (p : ℕ) → p < n + 1 → is_marked marks p ≡ false → IsTrue (is_assign (kind_of d p))) (sym w.marks-is)
            (one_unmarked is_assigned n c.loop-at.marks
            (not_other (is_assign (kind_of d n)) (sym (ap (λ p. not (is_assign p.kind)) is) ∙ sym c.is_other.ensures ∙ w.if-is_other.false))
            c.loop-at.invariant.others);
      }
    ]
