use Rattle.std.proofs.Common.{◌≡◌, ◌∙◌, sym, ap, subst, ◌+◌, ◌<◌, ◌≤◌, true, false, length, slice_index_or, arith}
use Rattle.std.specs.Prelude.{All}
use Rattle.std.proofs.lemmas.List.{get_or_default}
use Rattle.circuit_run.specs.Kinds.{settles}
use Rattle.design_meaning.specs.Processes.{kind_of, process_of, no_process}
use Rattle.flow_spans.specs.Reads.{IsSpanOf}
use Rattle.flow_uses.specs.Uses.{AreUsesOf, no_uses}
use Rattle.cycle_start.specs.Cleared.{AreCleared}
use Rattle.cycle_start.proofs.Starts.{IsStarting, one_settles, none_settles, is_start}
use Rattle.cycle_start.proofs.start.start_state.Goals as goal
use Rattle.cycle_start.proofs.start.start_state.Goals.{then-does_settle, else-does_settle}

pub clear_spans-requires-clause-spans : goal.clear_spans-requires-clause-spans
clear_spans-requires-clause-spans c =
    let d = c.args.design.now in
    let n = c.loop-at.at in
    let us = c.in_ok-uses.uses.items in
    let here : n < length d.processes = omega (arith, c.loop-at-test.true, ap length c.loop-at.invariant.same) in
    let many : n < length us = omega (arith, here, c.in_ok-uses.ensures.many) in
    let is = c.as_slice.ensures ∙ ap (λ u. u.sets) (c.index.ensures ∙ get_or_default us n c.index.result.now no_uses many) in
    subst (All (IsSpanOf d.vars)) (sym is) (c.in_ok-uses.ensures.uses n here).sets_in

pub clear_spans-requires-then-does_settle-clause-spans : goal.clear_spans-requires-then-does_settle-clause-spans
clear_spans-requires-then-does_settle-clause-spans c =
    let d = c.args.design.now in
    let n = c.loop-at.at in
    let us = c.in_ok-uses.uses.items in
    let here : n < length d.processes = omega (arith, c.loop-at-test.true, ap length c.loop-at.invariant.same) in
    let many : n < length us = omega (arith, here, c.in_ok-uses.ensures.many) in
    let is = c.as_slice-then-does_settle.ensures
    ∙ ap (λ u. u.defers) (c.index-then-does_settle.ensures ∙ get_or_default us n c.index-then-does_settle.result.now no_uses many) in
    subst (All (IsSpanOf d.vars)) (sym is) (c.in_ok-uses.ensures.uses n here).defers_in

pub loop-at-preserved : goal.loop-at-preserved
loop-at-preserved c =
    let d = c.args.design.now in
    let n = c.loop-at.at in
    let us = c.in_ok-uses.uses.items in
    let same = c.loop-at.invariant.same in
    let item = c.process-item.result in
    let here : n < length d.processes = omega (arith, c.loop-at-test.true, ap length same) in
    let many : n < length us = omega (arith, here, c.in_ok-uses.ensures.many) in
    let is : item ≡ process_of d n = c.process-item.is ∙ ap (λ ps. slice_index_or ps n item) same ∙ get_or_default d.processes n item no_process here in
    elim c.if-does_settle.branch [
      | then-does_settle w ↦
          let kind : settles (kind_of d n) ≡ true = sym (ap (λ p. settles p.kind) is) ∙ sym c.does_settle.ensures ∙ w.if-does_settle.true in
          let u = slice_index_or us n no_uses in
          let s = c.loop-at.state in
          let mid = w.clear_spans.new.state in
          let end = w.clear_spans-then-does_settle.new.state in
          let sets = w.as_slice.ensures ∙ ap (λ u. u.sets) (w.index.ensures ∙ get_or_default us n w.index.result.now no_uses many) in
          let defers = w.as_slice-then-does_settle.ensures
          ∙ ap (λ u. u.defers) (w.index-then-does_settle.ensures ∙ get_or_default us n w.index-then-does_settle.result.now no_uses many) in
          record {
            starting = subst (IsStarting d (n + 1)) (sym w.state-is)
                (one_settles d n u s mid end kind (c.in_ok-uses.ensures.uses n here)
                (subst (λ spans. AreCleared d spans s mid) sets w.clear_spans.ensures)
                (subst (λ spans. AreCleared d spans mid end) defers w.clear_spans-then-does_settle.ensures) c.loop-at.invariant.starting);
            same = same;
          }
      | else-does_settle w ↦
          let kind : settles (kind_of d n) ≡ false = sym (ap (λ p. settles p.kind) is) ∙ sym c.does_settle.ensures ∙ w.if-does_settle.false in
          record {
            starting = subst (IsStarting d (n + 1)) (sym w.state-is) (none_settles d n c.loop-at.state kind c.loop-at.invariant.starting);
            same = same;
          }
    ]

pub returns : goal.returns
returns c =
    let d = c.args.design.now in
    let past : length d.processes ≤ c.loop-at.at = omega (arith, c.loop-at-test.false, ap length c.loop-at.invariant.same) in
    is_start d c.loop-at.at c.loop-at.state past c.loop-at.invariant.starting
