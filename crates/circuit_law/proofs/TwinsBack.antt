-- Where the twin of a circuit has a run, so has the circuit: without their notes twins are twins both ways.
use Rattle.std.specs.Prelude.{◌≡◌, refl, ℕ, List, [], ◌∷◌, map, flat_map}
use Rattle.std.proofs.Common.{sym, ◌∙◌, subst}
use Rattle.cov_types.specs.declared.var.Var.{Var}
use Rattle.circuit_run.specs.Agreement.{Agrees}
use Rattle.circuit_run.specs.Circuits.{Circuit, Process}
use Rattle.circuit_run.specs.Runs.{Run, IsRun}
use Rattle.circuit_run.specs.States.{State}
use Rattle.circuit_run.specs.Twins.{HasWidths, Twins, AllTwins, no_twins, more_twins, TwinCircuits, SameRuns}
use Rattle.circuit_run.proofs.TwinRuns.{twins_run}
use Rattle.circuit_law.specs.OnlyRuns.{TwinsRunBack}
use Rattle.circuit_law.specs.Renoted.{renoted, renoted_process, renoted_circuit, renoted_run}
use Rattle.circuit_law.proofs.RenotedRuns.{runs_renoted_hold}
use Rattle.circuit_law.proofs.RunsBack.{runs_come_back}

-- no note for any
abbrev silent : {X : Type 0} → X → List ℕ
silent x = []

nothing_noted : {X : Type 0} (xs : List X) → flat_map (silent {X = X}) xs ≡ []
nothing_noted [] = refl
nothing_noted (x ∷ xs) = nothing_noted xs

module _ {N M : Type 0} (marks : N → List M) where
  agrees_back : (vars : List Var) (p : Process N) (q : Process M) → Twins marks vars p q → (s : State) → HasWidths vars s
      → Agrees (silent {X = ℕ}) (renoted (silent {X = M}) (q.run s)) (renoted (silent {X = N}) (p.run s))
  agrees_back vars p q twin s widths = let a : Agrees marks (p.run s) (q.run s) = twin.runs s widths in record {
    state = sym a.state;
    updates = sym a.updates;
    text = sym a.text;
    notes = nothing_noted (p.run s).notes ∙ sym (nothing_noted (flat_map (silent {X = M}) (q.run s).notes));
    finished = sym a.finished;
    stopped = sym a.stopped;
  }

  twin_back : (vars : List Var) (p : Process N) (q : Process M) → Twins marks vars p q
      → Twins (silent {X = ℕ}) vars (renoted_process (silent {X = M}) q) (renoted_process (silent {X = N}) p)
  twin_back vars p q twin = record {
    kind = sym twin.kind;
    drives = λ b here. sym (twin.drives b here);
    runs = agrees_back vars p q twin;
    keeps = λ s widths. subst (HasWidths vars) (sym (twin.runs s widths).state) (twin.keeps s widths);
  }

  all_back : {vars : List Var} {ps : List (Process N)} {qs : List (Process M)} → AllTwins marks vars ps qs
      → AllTwins (silent {X = ℕ}) vars (map (renoted_process (silent {X = M})) qs) (map (renoted_process (silent {X = N})) ps)
  all_back no_twins = no_twins
  all_back {vars} (more_twins {p} {q} twin twins) = more_twins (twin_back vars p q twin) (all_back twins)

  circuits_back : (c : Circuit N) (d : Circuit M) → TwinCircuits marks c d
      → TwinCircuits (silent {X = ℕ}) (renoted_circuit (silent {X = M}) d) (renoted_circuit (silent {X = N}) c)
  circuits_back c d twins = record {
    vars = sym twins.vars;
    inputs = sym twins.inputs;
    outputs = sym twins.outputs;
    processes = subst
        (λ (vars : List Var).
        AllTwins (silent {X = ℕ}) vars (map (renoted_process (silent {X = M})) d.processes) (map (renoted_process (silent {X = N})) c.processes))
        (sym twins.vars) (all_back twins.processes);
  }

-- the law holds
pub twins_run_back : (N M : Type 0) → TwinsRunBack N M
twins_run_back N M marks c d twins rows t run =
    let there : IsRun (renoted_circuit (silent {X = M}) d) rows (renoted_run (silent {X = M}) t) = runs_renoted_hold (silent {X = M}) d rows t run in
    let back : (r : Run ℕ) × IsRun (renoted_circuit (silent {X = N}) c) rows r × SameRuns (silent {X = ℕ}) (renoted_run (silent {X = M}) t) r =
    twins_run ℕ ℕ (silent {X = ℕ}) (renoted_circuit (silent {X = M}) d) (renoted_circuit (silent {X = N}) c) (circuits_back marks c d twins) rows
    (renoted_run (silent {X = M}) t) there in
    let here : (r : Run N) × IsRun c rows r × (renoted_run (silent {X = N}) r ≡ back.0) = runs_come_back (silent {X = N}) c rows back.0 back.1 in
    (here.0, here.1)
