-- A run of a design that tells its arms, with counters in the place of arms, is the run of the design with counts: plain
-- counting and derived counts differ in what arms carry alone.
use Rattle.std.specs.Prelude.{◌≡◌, refl, ℕ, Bool, List, [], ◌∷◌, ◌++◌, map, flat_map}
use Rattle.std.proofs.Common.{sym, ◌∙◌, ap, ap₂, subst}
use Rattle.std.proofs.Math.Path.{fun_ext}
use Rattle.std.proofs.lemmas.Grind.{flat_map-append}
use Rattle.design_tree.specs.declared.design.Process.{Process}
use Rattle.design_tree.specs.declared.design.Design.{Design}
use Rattle.cov_types.specs.declared.kind.ProcessKind.{ProcessKind}
use Rattle.cov_types.specs.declared.var.Var.{Var}
use Rattle.circuit_run.specs.States.{Bit}
use Rattle.circuit_run.specs.Outcomes.{Act}
use Rattle.circuit_run.specs.Circuits.{Circuit, Process as CircuitProcess}
use Rattle.circuit_run.specs.Runs.{Run, Cycle, IsRun, all_notes}
use Rattle.circuit_law.specs.Renoted.{renoted_process, renoted_circuit, renoted_cycle, renoted_run}
use Rattle.circuit_law.proofs.RenotedRuns.{runs_renoted_hold}
use Rattle.design_meaning.specs.Reach.{drives_of}
use Rattle.counted_circuit.specs.CountedDesign.{IsCountedDesign}
use Rattle.counted_circuit.specs.Inserted.{IsCountedProcess, AreCountedProcesses, no_processes, more}
use Rattle.counted_circuit.specs.Circuits.{told_process, told_processes, told_circuit}
use Rattle.design_meaning.specs.Circuit.{as_process, circuit_of}
use Rattle.counted_circuit.proofs.SamePaths.{drives_alike}
use Rattle.counted_circuit.proofs.Same.{number_after_process, same_kind, same_run}

module _ (carried : ℕ → List ℕ) where
  abbrev make : ProcessKind → Act ℕ → (Bit → Bool) → CircuitProcess ℕ
  make k run bits = record { kind = k; run = run; drives = bits }

  same_process : (n m : ℕ) (p q : Process) → IsCountedProcess carried n p q m
      → as_process q ≡ renoted_process carried (told_process n p)
  same_process n m p q c =
      ap₂ (λ k run. make k run (drives_of q.body)) (same_kind carried c) (fun_ext (same_run carried c))
      ∙ ap (make p.kind (renoted_process carried (told_process n p)).run) (drives_alike c)

  same_processes : {n m : ℕ} {ps qs : List Process} → AreCountedProcesses carried n ps qs m
      → map as_process qs ≡ map (renoted_process carried) (told_processes n ps)
  same_processes no_processes = refl
  same_processes (more {n} {m} {k} {p} {q} {ps} {qs} c cs) =
      ap₂ (λ x xs. x ∷ xs) (same_process n m p q c)
      (same_processes cs ∙ ap (λ j. map (renoted_process carried) (told_processes j ps)) (number_after_process carried c))

  abbrev make_circuit : List Var → List ℕ → List ℕ → List (CircuitProcess ℕ) → Circuit ℕ
  make_circuit vars inputs outputs processes = record { vars = vars; inputs = inputs; outputs = outputs; processes = processes }

  pub same_circuit : (d e : Design) (arms : ℕ) → IsCountedDesign carried d e arms
      → circuit_of e ≡ renoted_circuit carried (told_circuit d)
  same_circuit d e arms i =
      ap₂ (λ vars inputs. make_circuit vars (map (λ x. x.var) inputs) e.outputs (map as_process e.processes)) i.vars i.inputs
      ∙ ap₂ (λ outputs processes. make_circuit d.vars (map (λ x. x.var) d.inputs) outputs processes) i.outputs (same_processes i.processes)

  -- each run of the one is a run of the other
  pub counted_run : (d e : Design) (arms : ℕ) (rows : List (List ℕ)) (r : Run ℕ) → IsCountedDesign carried d e arms
      → IsRun (told_circuit d) rows r → IsRun (circuit_of e) rows (renoted_run carried r)
  counted_run d e arms rows r i run =
      subst (λ c. IsRun c rows (renoted_run carried r)) (sym (same_circuit d e arms i)) (runs_renoted_hold carried (told_circuit d) rows r run)

-- ---- what is raised in a whole run

cycles_notes : (t : ℕ → List ℕ) (ks : List (Cycle ℕ))
    → flat_map (λ k. k.notes) (map (renoted_cycle t) ks) ≡ flat_map t (flat_map (λ k. k.notes) ks)
cycles_notes t [] = refl
cycles_notes t (k ∷ ks) = ap (λ ns. flat_map t k.notes ++ ns) (cycles_notes t ks) ∙ sym (flat_map-append t k.notes (flat_map (λ x. x.notes) ks))

-- the counters raised are those that the entered arms carry, in order
pub raised_in_run : (t : ℕ → List ℕ) (r : Run ℕ) → all_notes (renoted_run t r) ≡ flat_map t (all_notes r)
raised_in_run t r = ap (λ ns. flat_map t r.opened.notes ++ ns) (cycles_notes t r.cycles)
    ∙ sym (flat_map-append t r.opened.notes (flat_map (λ k. k.notes) r.cycles))
