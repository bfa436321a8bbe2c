use Rattle.std.proofs.Common.{◌≡◌, ◌-◌, ◌<◌, ◌∙◌, ℕ, suc, length, sym, subst, arith, length-set}
use Rattle.std.specs.BTreeMap.{get}
use Rattle.std.specs.Ordering.{nat_cmp}
use Rattle.report_table.specs.Chains.{first_at, IsLinked}
use Rattle.report_table.specs.Groups.{at_line}
use Rattle.report_table.proofs.ChainLemmas.{first_rises}
use Rattle.report_table.proofs.GroupLemmas.{linked_step, linked_past, rises_step}
use Rattle.report_table.proofs.StepLemmas.{line_passed, line_fails, line_firsts, line_here}
use Rattle.report_table.proofs.line_groups.line_groups.Goals as goal

pub points-preserved-in-Some : goal.points-preserved-in-Some
points-preserved-in-Some c =
    let up = c.args.points.now in
    let k = c.points.left - 1 in
    let line = c.in-Some.line in
    let w = c.in_ok-next-2.field-0 in
    let next : c.points.left ≡ suc k = omega (arith, c.points-test.true) in
    let within : k < length up = omega (arith, c.points.invariant.within) in
    let firsts = λ (q : ℕ). subst (λ (n : ℕ). get nat_cmp c.points.first q ≡ first_at (at_line q) up n) next (c.points.invariant.firsts q) in
    let before : w ≡ first_at (at_line line) up (suc k) = c.in_ok-next-2.ensures.old ∙ firsts line in
    record {
      firsts = line_firsts up k _ within line (λ q. get nat_cmp c.points.first q) (λ q. get nat_cmp c.insert.new.self q) c.in-Some.ensures firsts
          (λ q. c.in_ok-next-2.ensures.updates.0 q);
      linked = λ q. linked_step (at_line q) up c.points.next.items k w c.points.invariant.len within
          (subst (λ (n : ℕ). IsLinked (at_line q) up c.points.next.items n) next (c.points.invariant.linked q))
          (λ passes. line_here up k _ within line q w c.in-Some.ensures before (passes _));
      rises = rises_step c.points.next.items (length up) k w c.points.invariant.rises (omega (arith, c.points.invariant.len))
          (λ j e. first_rises (at_line line) up k j (sym before ∙ e));
      len = length-set c.points.next.items k w ∙ c.points.invariant.len;
      within = omega (arith, c.points.invariant.within);
    }

pub points-preserved : goal.points-preserved
points-preserved c =
    let up = c.args.points.now in
    let k = c.points.left - 1 in
    let next : c.points.left ≡ suc k = omega (arith, c.points-test.true) in
    let within : k < length up = omega (arith, c.points.invariant.within) in
    record {
      firsts = λ q. subst (λ (n : ℕ). get nat_cmp c.points.first q ≡ first_at (at_line q) up n) next (c.points.invariant.firsts q)
          ∙ line_passed up k _ within c.in_default.ensures q;
      linked = λ q. linked_past (at_line q) up c.points.next.items k _ within
          (subst (λ (n : ℕ). IsLinked (at_line q) up c.points.next.items n) next (c.points.invariant.linked q))
          (line_fails up k _ within c.in_default.ensures q);
      rises = c.points.invariant.rises;
      len = c.points.invariant.len;
      within = omega (arith, c.points.invariant.within);
    }

pub returns-clause-linked : goal.returns-clause-linked
returns-clause-linked c = λ q.
    let none : c.points.left ≡ 0 = omega (arith, c.points-test.false) in
    subst (λ (n : ℕ). IsLinked (at_line q) c.args.points.now c.points.next.items n) none (c.points.invariant.linked q)
