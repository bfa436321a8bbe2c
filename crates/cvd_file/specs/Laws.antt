-- Laws of texts and design files.
use Rattle.std.specs.Prelude.{◌⊎◌, ℕ, List}
use Rattle.design_tree.specs.declared.instrumented.Instrumented.{Instrumented}
use Rattle.design_meaning.specs.FlowFaults.{Fault, Flows, IsFaultOf}
use Rattle.cvd_text.specs.Fault.{Flaw, IsFlaw, invalid}
use Rattle.cvd_text.specs.Spelling.{Cvd}

-- the text of a design is that of one that flows, or its flaw is a flow fault
abbrev pub FlowsOrTold : Type 0
FlowsOrTold = (x : Instrumented) (text : List ℕ) → Cvd x text → Flows x.design ⊎ ((fault : Fault) × IsFlaw Fault IsFaultOf text (invalid fault))

-- it never is that a text is no flowing design's, and has no flaw
abbrev pub NoneUntold : Type 0
NoneUntold =
    (text : List ℕ) → ((x : Instrumented) → Cvd x text → Flows x.design → ⊥) → ((flaw : Flaw Fault) → IsFlaw Fault IsFaultOf text flaw → ⊥) → ⊥
