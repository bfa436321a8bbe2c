-- Laws of a `sim`.
use Rattle.std.specs.Prelude.{◌≡◌, ◌⊎◌, ℕ, List}
use Rattle.cov_port.specs.Files.{Names}
use Rattle.sim_answer.specs.Simulation.{Simulation}
use Rattle.design_tree.specs.declared.instrumented.Instrumented.{Instrumented}
use Rattle.design_meaning.specs.CycleLaws.{OneRun}
use Rattle.design_meaning.specs.FlowFaults.{Fault, Flows, IsFaultOf}
use Rattle.cvd_text.specs.Fault.{Flaw, IsFlaw}
use Rattle.cvd_text.specs.Laws.{OneDesign}
use Rattle.cvd_text.specs.Spelling.{Cvd}
use Rattle.command_ending.specs.Answer.{Answer}
use Rattle.sim_answer.specs.Refusals.{design_refusal}
use Rattle.sim_answer.specs.SimAnswer.{IsSimAnswer}

-- two faults of a text come to one refusal
abbrev pub OneRefusal : Type 0
OneRefusal = (text name : List ℕ) (f g : Flaw Fault) → IsFlaw Fault IsFaultOf text f → IsFlaw Fault IsFaultOf text g
    → design_refusal name f ≡ design_refusal name g

-- no text is that of a design that flows, and has a fault
abbrev pub NeverBoth : Type 0
NeverBoth = (x : Instrumented) (text : List ℕ) (flaw : Flaw Fault) → Cvd x text → Flows x.design → IsFlaw Fault IsFaultOf text flaw → ⊥

-- each text is that of a design that flows, or has a fault
abbrev pub DesignOrFlaw : Type 0
DesignOrFlaw = (text : List ℕ) → ((x : Instrumented) × Cvd x text × Flows x.design) ⊎ ((flaw : Flaw Fault) × IsFlaw Fault IsFaultOf text flaw)

-- a `sim` has one answer at most, as far as texts are told apart and a design has one run
abbrev pub OneSim : Type 0
OneSim = OneDesign → OneRefusal → NeverBoth → OneRun
    → (held : Names) (asked : Simulation) (a b : Answer) → IsSimAnswer held asked a → IsSimAnswer held asked b → a ≡ b

-- a `sim` has an answer, as far as each text is a design's or has a fault, and a design has a run
abbrev pub HasAnAnswer : Type 0
HasAnAnswer = DesignOrFlaw → OneRun → (held : Names) (asked : Simulation) → (answer : Answer) × IsSimAnswer held asked answer
