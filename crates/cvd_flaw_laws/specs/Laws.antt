-- Laws of what is wrong with texts, over the flow faults of designs.
use Rattle.std.specs.Prelude.{◌≡◌, ◌⊎◌, ℕ, List}
use Rattle.design_tree.specs.declared.instrumented.Instrumented.{Instrumented}
use Rattle.design_meaning.specs.FlowFaults.{Fault, Flows, IsFaultOf, comb_loop}
use Rattle.cvd_text.specs.Fault.{Flaw, IsFlaw, invalid}
use Rattle.cvd_text.specs.Spelling.{Cvd}

-- the flaw of a design with a circle of processes; a design may have many
abbrev pub IsCircle : Flaw Fault → Type 0
IsCircle f = (processes : List ℕ) × (f ≡ invalid (comb_loop processes))

-- two flaws of a text are one, or both are circles
abbrev pub OneTold : Type 0
OneTold = (text : List ℕ) (f g : Flaw Fault) → IsFlaw Fault IsFaultOf text f → IsFlaw Fault IsFaultOf text g → (f ≡ g) ⊎ (IsCircle f × IsCircle g)

-- no text is that of a design that flows, and has a flaw
abbrev pub NeverBoth : Type 0
NeverBoth = (x : Instrumented) (text : List ℕ) (flaw : Flaw Fault) → Cvd x text → Flows x.design → IsFlaw Fault IsFaultOf text flaw → ⊥
