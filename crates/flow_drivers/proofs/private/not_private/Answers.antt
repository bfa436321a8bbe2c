use Rattle.std.proofs.Common.{◌≡◌, ◌∙◌, sym, ap, subst, refl, ◌+◌, ◌<◌, ◌≤◌, ◌==◌, true, false, not, ℕ, Bool, Some, None, Option, List, length, get_or, arith}
use Rattle.std.specs.List.{list_any}
use Rattle.design_tree.specs.declared.design.Process.{Process}
use Rattle.circuit_run.specs.Kinds.{is_initial}
use Rattle.design_meaning.specs.Processes.{kind_of}
use Rattle.design_meaning.specs.Flow.{IsMixed, IsNotPrivate}
use Rattle.flow_uses.specs.Uses.{AreUsesOf}
use Rattle.flow_least.specs.Least.{IsLeastOf}
use Rattle.flow_least.proofs.Searching.{before_none, before_more, before_all, first_is, used_at, kind_at}
use Rattle.flow_drivers.specs.declared.watch.Watch.{Watch}
use Rattle.flow_drivers.specs.Flags.{AreClear, IsMixedIn}
use Rattle.flow_drivers.specs.Watching.{AreWatched, HasWatched, IsSeenIn, no_watch}
use Rattle.flow_drivers.proofs.Flagging.{within_vars, mixed_is, none_mixed, back_is}
use Rattle.flow_drivers.proofs.Hiding.{private_is, none_private, next_watched, pass_watched}
use Rattle.flow_drivers.proofs.private.not_private.Goals as goal

pub least_shared-requires-clause-watches : goal.least_shared-requires-clause-watches
least_shared-requires-clause-watches c =
    let lt : c.loop-at.at < length c.args.design.now.processes =
    subst (λ (ps : List Process). c.loop-at.at < length ps) c.as_slice-processes.ensures c.loop-at-test.true in
    let u : AreUsesOf c.args.design.now c.loop-at.at c.index-uses-at.result =
    used_at c.args.design.now c.args.uses.now c.requires.many c.requires.uses c.loop-at.at c.index-uses-at.result lt c.index-uses-at.is in
    within_vars c.args.design.now c.loop-at.at c.index-uses-at.result (length c.as_slice-in-loop-at.result.now)
    (ap length c.as_slice-in-loop-at.ensures.value ∙ c.in_ok-watches.ensures.many) u

pub least_shared-requires-clause-outputs : goal.least_shared-requires-clause-outputs
least_shared-requires-clause-outputs c =
    let lt : c.loop-at.at < length c.args.design.now.processes =
    subst (λ (ps : List Process). c.loop-at.at < length ps) c.as_slice-processes.ensures c.loop-at-test.true in
    let u : AreUsesOf c.args.design.now c.loop-at.at c.index-uses-at.result =
    used_at c.args.design.now c.args.uses.now c.requires.many c.requires.uses c.loop-at.at c.index-uses-at.result lt c.index-uses-at.is in
    within_vars c.args.design.now c.loop-at.at c.index-uses-at.result (length c.as_slice-in-loop-at-2.result.now)
    (ap length c.as_slice-in-loop-at-2.ensures.value ∙ c.in_ok-outputs.ensures.many ∙ c.len.ensures) u

pub returns-in-Some : goal.returns-in-Some
returns-in-Some c =
    let lt : c.loop-at.at < length c.args.design.now.processes =
    subst (λ (ps : List Process). c.loop-at.at < length ps) c.as_slice-processes.ensures c.loop-at-test.true in
    let u : AreUsesOf c.args.design.now c.loop-at.at c.index-uses-at.result =
    used_at c.args.design.now c.args.uses.now c.requires.many c.requires.uses c.loop-at.at c.index-uses-at.result lt c.index-uses-at.is in
    let k : (get_or c.as_slice-processes.result.now c.loop-at.at c.index-processes-at.result).kind ≡ kind_of c.args.design.now c.loop-at.at =
    ap (λ (x : Process). x.kind) (sym c.index-processes-at.is) ∙ kind_at c.args.design.now c.loop-at.at c.index-processes-at.result lt
    (subst (λ (ps : List Process). c.index-processes-at.result
    ≡ get_or ps c.loop-at.at c.index-processes-at.result) c.as_slice-processes.ensures c.index-processes-at.is) in
    let flags : (v : ℕ) → get_or c.in_ok-outputs.outputs.items v false ≡ list_any (λ o. o == v) c.args.design.now.outputs =
    subst (λ (os : List ℕ). (v : ℕ) → get_or c.in_ok-outputs.outputs.items v false
    ≡ list_any (λ o. o == v) os) c.as_slice.ensures c.in_ok-outputs.ensures.flags in
    let l : IsLeastOf (IsNotPrivate c.args.design.now c.loop-at.at) (Some c.in-Some.var) =
    private_is c.args.design.now c.in_ok-watches.watches.items c.in_ok-outputs.outputs.items c.in_ok-watches.ensures flags c.loop-at.at
    c.index-uses-at.result u (get_or c.as_slice-processes.result.now c.loop-at.at c.index-processes-at.result).kind k (Some c.in-Some.var)
    (subst (λ (os : List Bool). IsLeastOf
    (IsSeenIn (get_or c.as_slice-processes.result.now c.loop-at.at c.index-processes-at.result).kind c.index-uses-at.result c.in_ok-watches.watches.items
    os c.loop-at.at) (Some c.in-Some.var)) c.as_slice-in-loop-at-2.ensures.value
    (subst (λ (ws : List Watch). IsLeastOf
    (IsSeenIn (get_or c.as_slice-processes.result.now c.loop-at.at c.index-processes-at.result).kind c.index-uses-at.result ws
    c.as_slice-in-loop-at-2.result.now c.loop-at.at) (Some c.in-Some.var)) c.as_slice-in-loop-at.ensures.value c.in-Some.ensures)) in
    first_is IsNotPrivate c.args.design.now c.loop-at.at c.in-Some.var c.loop-at.invariant l.0 l.1

pub loop-at-preserved : goal.loop-at-preserved
loop-at-preserved c =
    let lt : c.loop-at.at < length c.args.design.now.processes =
    subst (λ (ps : List Process). c.loop-at.at < length ps) c.as_slice-processes.ensures c.loop-at-test.true in
    let u : AreUsesOf c.args.design.now c.loop-at.at c.index-uses-at.result =
    used_at c.args.design.now c.args.uses.now c.requires.many c.requires.uses c.loop-at.at c.index-uses-at.result lt c.index-uses-at.is in
    let k : (get_or c.as_slice-processes.result.now c.loop-at.at c.index-processes-at.result).kind ≡ kind_of c.args.design.now c.loop-at.at =
    ap (λ (x : Process). x.kind) (sym c.index-processes-at.is) ∙ kind_at c.args.design.now c.loop-at.at c.index-processes-at.result lt
    (subst (λ (ps : List Process). c.index-processes-at.result
    ≡ get_or ps c.loop-at.at c.index-processes-at.result) c.as_slice-processes.ensures c.index-processes-at.is) in
    let flags : (v : ℕ) → get_or c.in_ok-outputs.outputs.items v false ≡ list_any (λ o. o == v) c.args.design.now.outputs =
    subst (λ (os : List ℕ). (v : ℕ) → get_or c.in_ok-outputs.outputs.items v false
    ≡ list_any (λ o. o == v) os) c.as_slice.ensures c.in_ok-outputs.ensures.flags in
    let l : IsLeastOf (IsNotPrivate c.args.design.now c.loop-at.at) None =
    private_is c.args.design.now c.in_ok-watches.watches.items c.in_ok-outputs.outputs.items c.in_ok-watches.ensures flags c.loop-at.at
    c.index-uses-at.result u (get_or c.as_slice-processes.result.now c.loop-at.at c.index-processes-at.result).kind k None
    (subst (λ (os : List Bool). IsLeastOf
    (IsSeenIn (get_or c.as_slice-processes.result.now c.loop-at.at c.index-processes-at.result).kind c.index-uses-at.result c.in_ok-watches.watches.items
    os c.loop-at.at) None) c.as_slice-in-loop-at-2.ensures.value
    (subst (λ (ws : List Watch). IsLeastOf
    (IsSeenIn (get_or c.as_slice-processes.result.now c.loop-at.at c.index-processes-at.result).kind c.index-uses-at.result ws
    c.as_slice-in-loop-at-2.result.now c.loop-at.at) None) c.as_slice-in-loop-at.ensures.value c.in-None.ensures)) in
    before_more IsNotPrivate c.args.design.now c.loop-at.at c.loop-at.invariant l

pub returns : goal.returns
returns c =
    let past : length c.args.design.now.processes ≤ c.loop-at.at =
    subst (λ (ps : List Process). length ps ≤ c.loop-at.at) c.as_slice-processes.ensures c.loop-at-test.false in
    before_all IsNotPrivate c.args.design.now (length c.args.design.now.processes) c.loop-at.at past (λ q w le. none_private c.args.design.now q w le)
    c.loop-at.invariant
