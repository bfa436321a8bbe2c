use Rattle.std.proofs.Common.{◌≡◌, ◌∙◌, sym, subst, ◌<◌, ◌≤◌, length, get_or, List, arith}
use Rattle.std.proofs.lemmas.List.{get_or_read}
use Rattle.cov_types.specs.declared.var.Var.{Var}
use Rattle.design_tree.specs.declared.design.Process.{Process}
use Rattle.flow_marks.specs.Slots.{AreFew}
use Rattle.flow_uses.specs.Uses.{AreUsesOf, no_uses}
use Rattle.flow_edges.specs.Owning.{IsBlank}
use Rattle.flow_spans.proofs.OfVars.{few_of}
use Rattle.flow_edges.proofs.Layouts.{are_numbered}
use Rattle.flow_edges.proofs.Owned.{kind_read, targets_in, none_named, one_named, are_owners}
use Rattle.flow_edges.proofs.owners.owners_of.Goals as goal

pub no_owners-requires : goal.no_owners-requires
no_owners-requires c = subst (λ (vars : List Var). AreFew vars) (sym c.as_slice.ensures) (few_of c.args.design.now c.requires.valid)

pub loop-p-init : goal.loop-p-init
loop-p-init c = none_named c.args.design.now c.args.uses.now c.in_ok-owners.owners

pub own_process-requires-clause-sets : goal.own_process-requires-clause-sets
own_process-requires-clause-sets c =
    let lt : c.loop-p.p < length c.args.design.now.processes =
    subst (λ (ps : List Process). c.loop-p.p < length ps) c.as_slice-all.ensures c.loop-p-test.true in
    let is : c.index-uses-p.result ≡ get_or c.args.uses.now c.loop-p.p no_uses =
    get_or_read c.args.uses.now c.loop-p.p c.index-uses-p.result (omega (arith, lt, c.requires.many)) c.index-uses-p.is no_uses in
    let uses : AreUsesOf c.args.design.now c.loop-p.p c.index-uses-p.result =
    subst (AreUsesOf c.args.design.now c.loop-p.p) (sym is) (c.requires.uses c.loop-p.p lt) in
    let blank : IsBlank c.args.design.now.vars c.in_ok-owners.owners =
    subst (λ (vars : List Var). IsBlank vars c.in_ok-owners.owners) c.as_slice.ensures c.in_ok-owners.ensures in
    targets_in c.args.design.now c.loop-p.owners.slots.items c.index-uses-p.result.sets (c.loop-p.invariant.slots ∙ blank.slots) uses.sets_in

pub own_process-requires-clause-defers : goal.own_process-requires-clause-defers
own_process-requires-clause-defers c =
    let lt : c.loop-p.p < length c.args.design.now.processes =
    subst (λ (ps : List Process). c.loop-p.p < length ps) c.as_slice-all.ensures c.loop-p-test.true in
    let is : c.index-uses-p.result ≡ get_or c.args.uses.now c.loop-p.p no_uses =
    get_or_read c.args.uses.now c.loop-p.p c.index-uses-p.result (omega (arith, lt, c.requires.many)) c.index-uses-p.is no_uses in
    let uses : AreUsesOf c.args.design.now c.loop-p.p c.index-uses-p.result =
    subst (AreUsesOf c.args.design.now c.loop-p.p) (sym is) (c.requires.uses c.loop-p.p lt) in
    let blank : IsBlank c.args.design.now.vars c.in_ok-owners.owners =
    subst (λ (vars : List Var). IsBlank vars c.in_ok-owners.owners) c.as_slice.ensures c.in_ok-owners.ensures in
    targets_in c.args.design.now c.loop-p.owners.slots.items c.index-uses-p.result.defers (c.loop-p.invariant.slots ∙ blank.slots) uses.defers_in

pub loop-p-preserved : goal.loop-p-preserved
loop-p-preserved c =
    let lt : c.loop-p.p < length c.args.design.now.processes =
    subst (λ (ps : List Process). c.loop-p.p < length ps) c.as_slice-all.ensures c.loop-p-test.true in
    let is : c.index-uses-p.result ≡ get_or c.args.uses.now c.loop-p.p no_uses =
    get_or_read c.args.uses.now c.loop-p.p c.index-uses-p.result (omega (arith, lt, c.requires.many)) c.index-uses-p.is no_uses in
    one_named c.args.design.now c.args.uses.now c.in_ok-owners.owners c.loop-p.owners c.own_process.new.owners c.loop-p.p
    (get_or c.as_slice-all.result.now c.loop-p.p c.index-all-p.result).kind c.index-uses-p.result
    (kind_read c.args.design.now c.as_slice-all.result.now c.loop-p.p c.index-all-p.result c.as_slice-all.ensures lt)
    is c.loop-p.invariant c.in_ok-own_process.ensures

pub returns : goal.returns
returns c =
    let blank : IsBlank c.args.design.now.vars c.in_ok-owners.owners =
    subst (λ (vars : List Var). IsBlank vars c.in_ok-owners.owners) c.as_slice.ensures c.in_ok-owners.ensures in
    are_owners c.args.design.now c.args.uses.now c.requires.uses c.in_ok-owners.owners c.loop-p.owners c.loop-p.p
    (subst (λ (ps : List Process). length ps ≤ c.loop-p.p) c.as_slice-all.ensures c.loop-p-test.false)
    (are_numbered c.args.design.now.vars (few_of c.args.design.now c.requires.valid)) blank c.loop-p.invariant
