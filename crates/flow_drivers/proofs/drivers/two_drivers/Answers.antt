use Rattle.std.proofs.Common.{◌≡◌, ◌∙◌, sym, ap, subst, ◌<◌, ◌≤◌, length, get_or, List, Some, None, arith}
use Rattle.cov_types.specs.declared.var.Var.{Var}
use Rattle.design_tree.specs.declared.design.Process.{Process}
use Rattle.design_meaning.specs.Processes.{kind_of}
use Rattle.design_meaning.specs.Flow.{HasTwoDrivers}
use Rattle.flow_marks.specs.Slots.{AreFew}
use Rattle.flow_uses.specs.Uses.{AreUsesOf}
use Rattle.flow_least.specs.Least.{IsLeastOf}
use Rattle.flow_spans.proofs.OfVars.{few_of}
use Rattle.flow_least.proofs.Searching.{before_none, before_more, before_all, first_is, used_at, kind_at}
use Rattle.flow_drivers.specs.Driven.{AreNone}
use Rattle.flow_drivers.proofs.Sharing.{none_are, all_marked, next_are, shared_is, none_past}
use Rattle.flow_drivers.proofs.drivers.two_drivers.Goals as goal

pub none_driven-requires : goal.none_driven-requires
none_driven-requires c = subst AreFew (sym c.as_slice.ensures) (few_of c.args.design.now c.requires.valid)

pub loop-at-init : goal.loop-at-init
loop-at-init c = record {
  driven = none_are c.args.design.now c.in_ok-driven.driven
      (subst (λ (vars : List Var). AreNone vars c.in_ok-driven.driven) c.as_slice.ensures c.in_ok-driven.ensures);
  kept = before_none HasTwoDrivers c.args.design.now;
}

pub least_shared-requires : goal.least_shared-requires
least_shared-requires c =
    let lt : c.loop-at.at < length c.args.design.now.processes =
    subst (λ (ps : List Process). c.loop-at.at < length ps) c.as_slice-processes.ensures c.loop-at-test.true in
    let u : AreUsesOf c.args.design.now c.loop-at.at c.index-uses-at.result =
    used_at c.args.design.now c.args.uses.now c.requires.many c.requires.uses c.loop-at.at c.index-uses-at.result lt c.index-uses-at.is in
    all_marked c.args.design.now c.loop-at.at c.index-uses-at.result lt u c.loop-at.driven c.loop-at.invariant.driven

pub returns-in-Some : goal.returns-in-Some
returns-in-Some c =
    let lt : c.loop-at.at < length c.args.design.now.processes =
    subst (λ (ps : List Process). c.loop-at.at < length ps) c.as_slice-processes.ensures c.loop-at-test.true in
    let u : AreUsesOf c.args.design.now c.loop-at.at c.index-uses-at.result =
    used_at c.args.design.now c.args.uses.now c.requires.many c.requires.uses c.loop-at.at c.index-uses-at.result lt c.index-uses-at.is in
    let k : (get_or c.as_slice-processes.result.now c.loop-at.at c.index-processes-at.result).kind ≡ kind_of c.args.design.now c.loop-at.at =
    ap (λ (x : Process). x.kind) (sym c.index-processes-at.is) ∙ kind_at c.args.design.now c.loop-at.at c.index-processes-at.result lt
    (subst (λ (ps : List Process). c.index-processes-at.result
    ≡ get_or ps c.loop-at.at c.index-processes-at.result) c.as_slice-processes.ensures c.index-processes-at.is) in
    let l : IsLeastOf (HasTwoDrivers c.args.design.now c.loop-at.at) (Some c.in-Some.var) =
    shared_is c.args.design.now c.loop-at.at c.index-uses-at.result lt u c.loop-at.driven
    (get_or c.as_slice-processes.result.now c.loop-at.at c.index-processes-at.result).kind k c.loop-at.invariant.driven (Some c.in-Some.var)
    c.in-Some.ensures in
    first_is HasTwoDrivers c.args.design.now c.loop-at.at c.in-Some.var c.loop-at.invariant.kept l.0 l.1

pub drive-requires : goal.drive-requires
drive-requires c =
    let lt : c.loop-at.at < length c.args.design.now.processes =
    subst (λ (ps : List Process). c.loop-at.at < length ps) c.as_slice-processes.ensures c.loop-at-test.true in
    let u : AreUsesOf c.args.design.now c.loop-at.at c.index-uses-at-in-None.result =
    used_at c.args.design.now c.args.uses.now c.requires.many c.requires.uses c.loop-at.at c.index-uses-at-in-None.result lt c.index-uses-at-in-None.is in
    all_marked c.args.design.now c.loop-at.at c.index-uses-at-in-None.result lt u c.loop-at.driven c.loop-at.invariant.driven

pub loop-at-preserved : goal.loop-at-preserved
loop-at-preserved c =
    let lt : c.loop-at.at < length c.args.design.now.processes =
    subst (λ (ps : List Process). c.loop-at.at < length ps) c.as_slice-processes.ensures c.loop-at-test.true in
    let u : AreUsesOf c.args.design.now c.loop-at.at c.index-uses-at.result =
    used_at c.args.design.now c.args.uses.now c.requires.many c.requires.uses c.loop-at.at c.index-uses-at.result lt c.index-uses-at.is in
    let u2 : AreUsesOf c.args.design.now c.loop-at.at c.index-uses-at-in-None.result =
    used_at c.args.design.now c.args.uses.now c.requires.many c.requires.uses c.loop-at.at c.index-uses-at-in-None.result lt c.index-uses-at-in-None.is in
    let k : (get_or c.as_slice-processes.result.now c.loop-at.at c.index-processes-at.result).kind ≡ kind_of c.args.design.now c.loop-at.at =
    ap (λ (x : Process). x.kind) (sym c.index-processes-at.is) ∙ kind_at c.args.design.now c.loop-at.at c.index-processes-at.result lt
    (subst (λ (ps : List Process). c.index-processes-at.result
    ≡ get_or ps c.loop-at.at c.index-processes-at.result) c.as_slice-processes.ensures c.index-processes-at.is) in
    let l : IsLeastOf (HasTwoDrivers c.args.design.now c.loop-at.at) None =
    shared_is c.args.design.now c.loop-at.at c.index-uses-at.result lt u c.loop-at.driven
    (get_or c.as_slice-processes.result.now c.loop-at.at c.index-processes-at.result).kind k c.loop-at.invariant.driven None c.in-None.ensures in
    record {
      driven = next_are c.args.design.now c.loop-at.at c.index-uses-at-in-None.result lt u2 c.loop-at.driven c.drive.new.driven
          (get_or c.as_slice-processes.result.now c.loop-at.at c.index-processes-at.result).kind k c.loop-at.invariant.driven c.drive.ensures;
      kept = before_more HasTwoDrivers c.args.design.now c.loop-at.at c.loop-at.invariant.kept l;
    }

pub returns : goal.returns
returns c =
    let past : length c.args.design.now.processes ≤ c.loop-at.at =
    subst (λ (ps : List Process). length ps ≤ c.loop-at.at) c.as_slice-processes.ensures c.loop-at-test.false in
    before_all HasTwoDrivers c.args.design.now (length c.args.design.now.processes) c.loop-at.at past (λ q w le. none_past c.args.design.now q w le)
    c.loop-at.invariant.kept
