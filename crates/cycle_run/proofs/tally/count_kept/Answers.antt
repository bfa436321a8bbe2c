use Rattle.std.proofs.Common.{◌≡◌, ◌∙◌, sym, ap, subst, List, ℕ, ◌+◌, ◌<◌, ◌≤◌, ◌^◌, true, false, length, slice_index, slice_index_or, arith}
use Rattle.std.proofs.lemmas.List.{get_or_default}
use Rattle.design_tree.specs.declared.design.Process.{Process}
use Rattle.circuit_run.specs.Kinds.{is_comb}
use Rattle.design_meaning.specs.Counters.{HasCounted}
use Rattle.design_meaning.specs.Processes.{kind_of, process_of, no_process}
use Rattle.cycle_parts.specs.Raised.{none_raised}
use Rattle.cycle_settle.specs.Settling.{kept_of}
use Rattle.cycle_run.proofs.TallyLaws.{Counted, all_counted, can_raise, no_comb, none_counted, none_counted_on, not_counted, one_counted}
use Rattle.cycle_run.proofs.tally.count_kept.Goals as goal
use Rattle.cycle_run.proofs.tally.count_kept.Goals.{then-is_combinational, else-is_combinational}

pub process-init : goal.process-init
process-init c =
    let d = c.args.design.now in
    let kept = c.args.kept.now in
    let counts = c.args.counts.now in
    let next = c.next_before-at.result in
    let many : length c.as_slice-processes.result.now ≡ length d.processes = ap (λ (ps : List Process). length ps) c.as_slice-processes.ensures in
    let within : next ≤ length d.processes = omega (arith, many, c.next_before-at.ensures.end) in
    record {
      counted = none_counted_on d kept 0 next counts counts (omega arith) within
          (λ k from lt. no_comb (kind_of d k) (c.requires.others k (omega (arith, lt, within)) (c.next_before-at.ensures.between k from lt)))
          (none_counted d kept counts);
      within = within;
    }

pub raise-requires : goal.raise-requires
raise-requires c k =
    let d = c.args.design.now in
    let kept = c.args.kept.now in
    let n = c.process.at in
    let same = c.as_slice-processes.ensures in
    let item = c.index-processes-at.result in
    let many : length c.as_slice-processes.result.now ≡ length d.processes = ap (λ (ps : List Process). length ps) same in
    let here : n < length d.processes = omega (arith, c.process-test.true, many) in
    let in_kept : n < length kept = omega (arith, here, c.requires.few.as_many) in
    let is : slice_index_or c.as_slice-processes.result.now n item ≡ process_of d n =
    ap (λ ps. slice_index_or ps n item) same ∙ get_or_default d.processes n item no_process here in
    let kind : is_comb (kind_of d n) ≡ true = sym (ap (λ p. is_comb p.kind) is) ∙ sym c.is_combinational.ensures ∙ c.if-is_combinational.true in
    let counters = c.counters.ensures ∙ ap (λ r. r.counters) (c.index-kept-at.is ∙ get_or_default kept n c.index-kept-at.result (none_raised 0) in_kept) in
    subst (λ r. slice_index c.process.counts k + length r < 2 ^ 64) (sym counters)
    (can_raise d kept n c.args.counts.now c.process.counts here c.requires.few kind c.requires.fit c.process.invariant.counted k)

pub process-preserved : goal.process-preserved
process-preserved c =
    let d = c.args.design.now in
    let kept = c.args.kept.now in
    let n = c.process.at in
    let old = c.args.counts.now in
    let same = c.as_slice-processes.ensures in
    let item = c.index-processes-at.result in
    let many : length c.as_slice-processes.result.now ≡ length d.processes = ap (λ (ps : List Process). length ps) same in
    let here : n < length d.processes = omega (arith, c.process-test.true, many) in
    let in_kept : n < length kept = omega (arith, here, c.requires.few.as_many) in
    let is : slice_index_or c.as_slice-processes.result.now n item ≡ process_of d n =
    ap (λ ps. slice_index_or ps n item) same ∙ get_or_default d.processes n item no_process here in
    let next = c.next_before-at-in-process.result in
    let within : next ≤ length d.processes = omega (arith, many, c.next_before-at-in-process.ensures.end) in
    let none = λ (k : ℕ) (from : n + 1 ≤ k) (lt : k < next).
    no_comb (kind_of d k) (c.requires.others k (omega (arith, lt, within)) (c.next_before-at-in-process.ensures.between k from lt)) in
    elim c.if-is_combinational.branch [
      | then-is_combinational w ↦
          let kind : is_comb (kind_of d n) ≡ true = sym (ap (λ p. is_comb p.kind) is) ∙ sym c.is_combinational.ensures ∙ w.if-is_combinational.true in
          let counters = w.counters.ensures ∙ ap (λ r. r.counters) (w.index-kept-at.is
          ∙ get_or_default kept n w.index-kept-at.result (none_raised 0) in_kept) in
          record {
            counted = none_counted_on d kept (n + 1) next old c.if-is_combinational.counts c.next_before-at-in-process.ensures.from within none
                (subst (Counted d kept (n + 1) old) (sym w.counts-is)
                (one_counted d kept n old c.process.counts w.raise.new.counts here c.requires.few kind c.process.invariant.counted
                (subst (λ r. HasCounted c.process.counts r w.raise.new.counts) counters w.raise.ensures)));
            within = within;
          }
      | else-is_combinational w ↦
          let kind : is_comb (kind_of d n) ≡ false = sym (ap (λ p. is_comb p.kind) is) ∙ sym c.is_combinational.ensures ∙ w.if-is_combinational.false in
          record {
            counted = none_counted_on d kept (n + 1) next old c.if-is_combinational.counts c.next_before-at-in-process.ensures.from within none
                (subst (Counted d kept (n + 1) old) (sym w.counts-is) (not_counted d kept n old c.process.counts here kind c.process.invariant.counted));
            within = within;
          }
    ]

pub returns : goal.returns
returns c s are =
    let d = c.args.design.now in
    let end : c.process.at ≡ length d.processes =
    omega (arith, c.process-test.false, c.process.invariant.within, ap (λ (ps : List Process). length ps) c.as_slice-processes.ensures) in
    all_counted d c.args.kept.now c.process.at c.args.counts.now c.process.counts end c.process.invariant.counted s are
