use Rattle.std.proofs.Common.{◌≡◌, ◌∙◌, ap, subst, sym, false, List, ℕ, [], ◌∷◌, Some}
use Rattle.vlog_tree.specs.Trees.{item_place}
use Rattle.scope_meaning.specs.BlockNames.{inside}
use Rattle.scope_meaning.specs.Declared.{is_in}
use Rattle.scope_meaning.specs.Heads.{module_named, names_here}
use Rattle.scope_meaning.specs.Overrides.{givens}
use Rattle.scope_meaning.specs.Scope.{frames}
use Rattle.scope_meaning.specs.ScopeTrees.{modules}
use Rattle.scope_meaning.specs.Visits.{past}
use Rattle.elab_names.specs.declared.scope_names.ScopeNames.{ScopeNames}
use Rattle.elab_names.specs.Frames.{AreFrames}
use Rattle.walk_laws.specs.Rest.{some_instances}
use Rattle.elab_overrides.specs.Given.{AreGiven}
use Rattle.walk_entries.specs.Instances.{HasInstance}
use Rattle.walk_entries.proofs.Opening.{entered_instance}
use Rattle.walk_state.specs.declared.left.MadeBy.{MadeBy}
use Rattle.walk_instances.proofs.Made.{names_at, others_left, parts, same_entry, same_parts}
use Rattle.walk_instances.proofs.instances.enter_one.Goals as goal

pub returns : goal.returns
returns c = λ files top done here table m room.
    let design = modules files in
    let by = c.args.by.value in
    let one = c.args.one.now in
    let values = givens (names_here here m.place) by.of.now by.params.now in
    let under = some_instances here m.place m.a by.number by.of.now values c.args.rest.now ∷ m.under in
    let copy = parts c.deref.result.now c.deref-2.result.now c.deref-3.result.now c.deref-4.result.now in
    let same : copy ≡ by =
    same_parts c.deref.result.now c.deref-2.result.now c.deref-3.result.now c.deref-4.result.now by
    c.deref.ensures c.deref-2.ensures c.deref-3.ensures c.deref-4.ensures in
    let found : module_named design copy.of.now.name ≡ Some (copy.number, copy.of.now) =
    subst (λ (x : MadeBy). module_named design x.of.now.name ≡ Some (x.number, x.of.now)) (sym same) m.found in
    let fresh : is_in copy.of.now.name here.above ≡ false =
    subst (λ (x : MadeBy). is_in x.of.now.name here.above ≡ false) (sym same) m.fresh in
    let given : AreGiven values c.in_ok-given.given =
    subst (λ (x : MadeBy). AreGiven (givens (names_here here m.place) x.of.now x.params.now) c.in_ok-given.given) same
    (c.in_ok-given.ensures files here m.place table
    (subst (λ (ss : List ScopeNames). AreFrames (frames here m.place) ss) (sym c.as_slice.ensures.value) (names_at m)) found) in
    let path : c.in_ok-path.path ≡ inside here.path one.name.name =
    c.in_ok-path.ensures ∙ ap (λ (p : List ℕ). inside p c.as_slice-3.result.now) (c.as_slice-2.ensures ∙ m.midway.scope.path)
    ∙ ap (inside here.path) c.as_slice-3.ensures in
    entered_instance m.midway room
    (same_entry c.push.new.self
    (subst (λ (x : MadeBy). HasInstance design here (past m.place m.a []) m.place (item_place m.a) one values x.number x.of.now under
    (record c.args.walk.now { left = c.push.new.self }) c.enter_instance.new.walk) same
    (c.in_ok-enter_instance.ensures design here (past m.place m.a []) m.place (item_place m.a) one values
    under m.midway.scope m.midway.names
    (others_left c.push.new.self m c.in_ok-push.ensures) (sym (ap (λ (x : MadeBy). x.item) same ∙ m.item)) path given found fresh)))
