-- Files have one circuit, and it is that of their flat source.
use Rattle.std.proofs.Common.{◌≡◌, ◌∙◌, sym, ap, ap₂, refl, subst, ℕ, true, List, ◌++◌, map}
use Rattle.vlog_tree.specs.declared.module.Module.{Module}
use Rattle.vlog_tree.specs.declared.module.Port.{Port}
use Rattle.elab_types.specs.declared.flat_source.FlatVar.{FlatVar}
use Rattle.elab_types.specs.declared.flat_source.FlatSource.{FlatSource}
use Rattle.circuit_run.specs.Circuits.{Circuit}
use Rattle.circuit_run.specs.Circuits as circuits
use Rattle.source_meaning.specs.Events.{Event}
use Rattle.flat_meaning.specs.Circuit as circuit
use Rattle.scope_meaning.specs.ScopeTrees.{IsWalkOf}
use Rattle.scope_meaning.specs.Visits.{Visits, Visit}
use Rattle.scope_meaning.proofs.WalkLaws.{never, same}
use Rattle.flat_source_meaning.specs.Joins.{Join}
use Rattle.flat_source_meaning.specs.Variables.{Source}
use Rattle.flat_source_meaning.specs.Processes.{Process, connection, HasProcesses, of_item, of_instance, of_other, AreProcesses, none, more}
use Rattle.flat_source_meaning.specs.SourceCircuit.{inputs_of, outputs_of, circuit_of_tree}
use Rattle.flat_source_meaning.specs.FlatSources.{IsFlatOf, OneCircuit, FlatHasTheCircuit}
use Rattle.flat_source_meaning.proofs.FlatLaws.{keeps_one, one_source}
use Rattle.flat_source_meaning.proofs.SameProcess.{same_processes}

has_one : {w : Source} {v : Visit} {ps qs : List Process} → HasProcesses w v ps → HasProcesses w v qs → ps ≡ qs
has_one of_item of_item = refl
has_one of_item (of_other e) = never e
has_one {w} (of_instance {m} x) (of_instance y) = ap (λ (js : List Join). map (connection w.vars m) js) (keeps_one x y)
has_one (of_instance x) (of_other e) = never e
has_one (of_other e) of_item = never e
has_one (of_other e) (of_instance y) = never e
has_one (of_other e) (of_other f) = refl

-- a source has one list of processes
pub one_list : {w : Source} {vs : Visits} {ps qs : List Process} → AreProcesses w vs ps → AreProcesses w vs qs → ps ≡ qs
one_list none none = refl
one_list (more x xs) (more y ys) = ap₂ (λ (a : List Process) (b : List Process). a ++ b) (has_one x y) (one_list xs ys)

-- a walk begins in one top module
same_top : {design : List Module} {top : List ℕ} {vs : Visits} (x y : IsWalkOf design top vs true) → x.top_module ≡ y.top_module
same_top x y = ap (λ (k : ℕ × Module). k.1) (same (x.number, x.top_module) (y.number, y.top_module) (sym x.found ∙ y.found))

pub one_circuit : OneCircuit
one_circuit files top clock c d x y = x.same ∙ both (one_source files top clock x.w y.w x.source y.source) ∙ sym y.same
  where
    from : (v : Source) → v ≡ y.w → (m : Module) → m ≡ y.source.walk.top_module → (ps : List Process) → AreProcesses v v.vs ps
        → circuit_of_tree v m.ports ps ≡ circuit_of_tree y.w y.source.walk.top_module.ports y.all
    from v e m f ps a =
        ap (λ (z : Source). circuit_of_tree z m.ports ps) e
        ∙ ap (λ (z : Module). circuit_of_tree y.w z.ports ps) f
        ∙ ap (circuit_of_tree y.w y.source.walk.top_module.ports) (one_list (subst (λ (z : Source). AreProcesses z z.vs ps) e a) y.found)

    top_along : (v : Source) → y.w ≡ v → (walk : IsWalkOf v.design top v.vs true) → walk.top_module ≡ y.source.walk.top_module
    top_along v e = subst (λ (z : Source). (walk : IsWalkOf z.design top z.vs true)
        → walk.top_module ≡ y.source.walk.top_module) e (λ walk. same_top walk y.source.walk)

    tops : (v : Source) → v ≡ y.w → (walk : IsWalkOf v.design top v.vs true) → walk.top_module ≡ y.source.walk.top_module
    tops v e walk = top_along v (sym e) walk

    both : x.w ≡ y.w → circuit_of_tree x.w x.source.walk.top_module.ports x.all ≡ circuit_of_tree y.w y.source.walk.top_module.ports y.all
    both e = from x.w e x.source.walk.top_module (tops x.w e x.source.walk) x.all x.found

abbrev made : List FlatVar → List ℕ → List ℕ → List (circuits.Process Event) → Circuit Event
made vars inputs outputs all = record { vars = map circuit.var_of vars; inputs = inputs; outputs = outputs; processes = all }

-- The circuit of a flat source is that of the walk.
pub same_circuit : (w : Source) (ports : List Port) (flat : FlatSource) (f : IsFlatOf w ports flat) → circuit.circuit_of flat ≡ circuit_of_tree w ports f.all
same_circuit w ports flat f =
    ap (λ (vars : List FlatVar). made vars flat.inputs flat.outputs (map (circuit.process_of vars) flat.processes)) f.variables
    ∙ ap (λ (x : List ℕ). made w.vars x flat.outputs (map (circuit.process_of w.vars) flat.processes)) f.inputs
    ∙ ap (λ (x : List ℕ). made w.vars (inputs_of w.vars ports) x (map (circuit.process_of w.vars) flat.processes)) f.outputs
    ∙ ap (made w.vars (inputs_of w.vars ports) (outputs_of w.vars ports)) (same_processes w.vars f.all flat.processes f.processes)

pub flat_has_the_circuit : FlatHasTheCircuit
flat_has_the_circuit files top clock flat s = record {
  w = s.w;
  source = s.source;
  all = s.flat_of.all;
  found = s.flat_of.found;
  same = same_circuit s.w s.source.walk.top_module.ports flat s.flat_of;
}
