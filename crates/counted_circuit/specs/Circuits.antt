-- The circuit of a design that tells the arms that it enters.
use Rattle.std.specs.Prelude.{ℕ, ◌+◌, ◌==◌, List, [], ◌∷◌, map, filter}
use Rattle.design_tree.specs.declared.step.Step.{Step}
use Rattle.design_tree.specs.declared.design.Process.{Process}
use Rattle.cov_types.specs.declared.kind.ProcessKind.{ProcessKind}
use Rattle.cov_types.specs.declared.kind.ProcessKind.TheVariants as kind
use Rattle.design_tree.specs.declared.design.Design.{Design}
use Rattle.circuit_run.specs.Outcomes.{Outcome, Act}
use Rattle.circuit_run.specs.Circuits.{Circuit, Process as CircuitProcess}
use Rattle.design_meaning.specs.Reach.{drives_of}
use Rattle.design_meaning.specs.Circuit.{input_vars}
use Rattle.counted_circuit.specs.Tells.{tells, arms_of, tell_arm, all_tell}

-- notes of this number alone
abbrev pub only : ℕ → Outcome ℕ → Outcome ℕ
only n o = record o { notes = filter (λ k. k == n) o.notes }

-- A process tells its body's number and the arms in it. A cover has one arm, the yes arm of its `if`.
abbrev pub told_run : ProcessKind → List Step → ℕ → Act ℕ
told_run kind.Assign steps n = all_tell steps n
told_run kind.Cover steps n = λ from. only n (all_tell steps n from)
told_run _ steps n = tell_arm (map tells steps) n

-- how many arms a process has
abbrev pub arms_in : ProcessKind → List Step → ℕ
arms_in kind.Assign steps = 1
arms_in kind.Cover steps = 1
arms_in _ steps = 1 + arms_of (map tells steps)

-- a process whose first arm has the number n, as one that tells
abbrev pub told_process : ℕ → Process → CircuitProcess ℕ
told_process n p = record { kind = p.kind; run = told_run p.kind p.body n; drives = drives_of p.body }

-- a process whose first arm has the number n, as one that tells
-- processes one after the other
abbrev pub told_processes : ℕ → List Process → List (CircuitProcess ℕ)
told_processes n [] = []
told_processes n (p ∷ ps) = told_process n p ∷ told_processes (n + arms_in p.kind p.body) ps

-- the circuit whose notes are the numbers of the entered arms
abbrev pub told_circuit : Design → Circuit ℕ
told_circuit d = record { vars = d.vars; inputs = input_vars d; outputs = d.outputs; processes = told_processes 0 d.processes }
