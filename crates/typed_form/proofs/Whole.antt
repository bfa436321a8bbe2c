-- A design that is the typed form of a flat source has the source's runs, where its processes drive the same bits.
use Rattle.std.proofs.Common.{◌≡◌, ◌∙◌, sym, ap, refl, ℕ, zero, suc, List, [], ◌∷◌, map, Option, Some, None, slice_get, get_or, is_some, true≢false}
use Rattle.std.proofs.Math.ListN.{get_or-map}
use Rattle.elab_types.specs.declared.flat_source.FlatVar.{FlatVar}
use Rattle.elab_types.specs.declared.flat_source.FlatProcess.{FlatProcess}
use Rattle.elab_types.specs.declared.flat_source.FlatSource.{FlatSource}
use Rattle.design_tree.specs.declared.design.Design.{Design}
use Rattle.design_tree.specs.declared.design.Process.{Process as DesignProcess}
use Rattle.circuit_run.specs.States.{State, no_words}
use Rattle.circuit_run.specs.Twins.{Twins, AllTwins, no_twins, more_twins, TwinCircuits}
use Rattle.circuit_run.specs.Twins as twins
use Rattle.circuit_run.proofs.TwinRuns.{twins_run}
use Rattle.source_meaning.specs.Events.{Event}
use Rattle.flat_meaning.specs.Circuit as flat
use Rattle.design_meaning.specs.Circuit as design
use Rattle.typed_form.specs.TypedForm.{IsTypedForm, IsTypedProcess, assigns, combines, clocks, begins, covers, AreTypedProcesses, no_processes, more_processes}
use Rattle.typed_form.specs.TypedLaws.{HasWidths}
use Rattle.typed_form.specs.WholeLaw.{DrivesTheSame, DriveTheSame, KeepsRuns}
use Rattle.typed_form.proofs.KeepsProcess.{keeps_process}
use Rattle.std.specs.List.{AllZip}

at_index : (vars : List FlatVar) (k : ℕ) (v : FlatVar) → slice_get vars k ≡ Some v → get_or (map (λ v. v.width) (map flat.var_of vars)) k 1 ≡ v.width
at_index [] k v p = absurd (true≢false (sym (ap is_some p)))
at_index (x ∷ vars) zero v p = ap width_or p
  where
    width_or : Option FlatVar → ℕ
    width_or (Some v) = v.width
    width_or None = 0
at_index (x ∷ vars) (suc k) v p = at_index vars k v p

-- a state with the circuit's widths has the variables'
widths_here : (vars : List FlatVar) (s : State) → twins.HasWidths (map flat.var_of vars) s → HasWidths vars s
widths_here vars s w k v p = sym (get_or-map (λ h. h.width) s k no_words) ∙ ap (λ ws. get_or ws k 1) w ∙ at_index vars k v p

same_kind : (vars : List FlatVar) (marks : Event → List ℕ) {p : FlatProcess} {q : DesignProcess} → IsTypedProcess vars marks p q → q.kind ≡ p.kind
same_kind vars marks (assigns d) = refl
same_kind vars marks (combines d) = refl
same_kind vars marks (clocks d) = refl
same_kind vars marks (begins d) = refl
same_kind vars marks (covers q on first second d) = refl

module _ (vars : List FlatVar) (marks : Event → List ℕ) where
  twin : {p : FlatProcess} {q : DesignProcess} → IsTypedProcess vars marks p q → DrivesTheSame vars p q
      → Twins marks (map flat.var_of vars) (flat.process_of vars p) (design.as_process q)
  twin {p} {q} d same = record {
    kind = same_kind vars marks d;
    drives = same;
    runs = λ s w. (keeps_process vars marks d s (widths_here vars s w)).agrees;
    keeps = λ s w. (keeps_process vars marks d s (widths_here vars s w)).widths ∙ w;
  }

  all_twins : {ps : List FlatProcess} {qs : List DesignProcess} → AreTypedProcesses vars marks ps qs → AllZip (DrivesTheSame vars) ps qs
      → AllTwins marks (map flat.var_of vars) (map (flat.process_of vars) ps) (map design.as_process qs)
  all_twins no_processes same = no_twins
  all_twins (more_processes d ds) same = more_twins (twin d same.0) (all_twins ds same.1)

-- a source and its typed form are twins
pub are_twins : (source : FlatSource) (marks : Event → List ℕ) (d : Design) → IsTypedForm source marks d → DriveTheSame source d
    → TwinCircuits marks (flat.circuit_of source) (design.circuit_of d)
are_twins source marks d h same = record {
  vars = h.vars;
  inputs = h.inputs;
  outputs = h.outputs;
  processes = all_twins source.vars marks h.processes same;
}

-- the law
pub same_runs : KeepsRuns
same_runs source marks d h same rows r run =
    twins_run Event ℕ marks (flat.circuit_of source) (design.circuit_of d) (are_twins source marks d h same) rows r run
