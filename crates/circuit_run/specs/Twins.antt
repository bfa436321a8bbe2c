-- Circuits whose processes do the same, whatever they note on the way: of a source and of its design, of a design without
-- and with counters.
use Rattle.std.specs.Prelude.{◌≡◌, ℕ, List, [], ◌∷◌, map, flat_map}
use Rattle.cov_types.specs.declared.var.Var.{Var}
use Rattle.circuit_run.specs.States.{Bit, State, IsBitOf}
use Rattle.circuit_run.specs.Agreement.{Agrees}
use Rattle.circuit_run.specs.Circuits.{Process, Circuit}
use Rattle.circuit_run.specs.Runs.{Run, IsRun, all_notes, printed}

-- The state has the variables' widths.
abbrev pub HasWidths : List Var → State → Type 0
HasWidths vars s = map (λ h. h.width) s ≡ map (λ v. v.width) vars

-- Two processes do the same from each state that has the variables' widths, and leave the widths; the second notes what
-- stands for the notes of the first.
pub record Twins {N M : Type 0} (marks : N → List M) (vars : List Var) (p : Process N) (q : Process M) : Type 0 where
  pub kind : q.kind ≡ p.kind
  pub drives : (b : Bit) → IsBitOf vars b → q.drives b ≡ p.drives b
  pub runs : (s : State) → HasWidths vars s → Agrees marks (p.run s) (q.run s)
  pub keeps : (s : State) → HasWidths vars s → HasWidths vars (p.run s).state

pub data AllTwins {N M : Type 0} (marks : N → List M) (vars : List Var) : List (Process N) → List (Process M) → Type 0 where
  no_twins : AllTwins marks vars [] []
  more_twins : {p : Process N} {q : Process M} {ps : List (Process N)} {qs : List (Process M)} → Twins marks vars p q → AllTwins marks vars ps qs
      → AllTwins marks vars (p ∷ ps) (q ∷ qs)

-- Two circuits with the same variables, inputs and outputs, and with processes that do the same one by one.
pub record TwinCircuits {N M : Type 0} (marks : N → List M) (c : Circuit N) (d : Circuit M) : Type 0 where
  pub vars : d.vars ≡ c.vars
  pub inputs : d.inputs ≡ c.inputs
  pub outputs : d.outputs ≡ c.outputs
  pub processes : AllTwins marks c.vars c.processes d.processes

-- Two runs with the same settled states, texts and flags; all notes of the second are what stands for those of the first.
pub record SameRuns {N M : Type 0} (marks : N → List M) (r : Run N) (t : Run M) : Type 0 where
  pub opened : Agrees marks r.opened t.opened
  pub settled : map (λ k. k.settled) t.cycles ≡ map (λ k. k.settled) r.cycles
  pub text : map (λ k. k.text) t.cycles ≡ map (λ k. k.text) r.cycles
  pub finished : map (λ k. k.finished) t.cycles ≡ map (λ k. k.finished) r.cycles
  pub stopped : map (λ k. k.stopped) t.cycles ≡ map (λ k. k.stopped) r.cycles
  pub notes : all_notes t ≡ flat_map marks (all_notes r)
  pub printed : (outputs : List ℕ) → printed outputs t ≡ printed outputs r

-- Each run of a circuit is one of its twin.
abbrev pub TwinsRun : Type 0 → Type 0 → Type 0
TwinsRun N M =
    (marks : N → List M) (c : Circuit N) (d : Circuit M) → TwinCircuits marks c d →
    (rows : List (List ℕ)) (r : Run N) → IsRun c rows r → (t : Run M) × IsRun d rows t × SameRuns marks r t
