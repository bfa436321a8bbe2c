-- Laws of designs' texts.
use Rattle.std.specs.Prelude.{◌≡◌, ℕ, List, [], ◌++◌, ◌↔◌}
use Rattle.design_tree.specs.declared.design.Design.{Design}
use Rattle.design_tree.specs.declared.instrumented.Instrumented.{Instrumented}
use Rattle.design_meaning.specs.Valid.{IsValid}
use Rattle.cvd_text.specs.Spelling.{AllStand, Cvd}
use Rattle.cvd_text.specs.Fault.{Flaw, IsFlaw}

-- no line of a design breaks a condition exactly where the design is valid
abbrev pub StandsWhereValid : Type 0
StandsWhereValid = (x : Instrumented) → AllStand x ↔ IsValid x

-- a text is that of one design, and a design has one text
abbrev pub OneDesign : Type 0
OneDesign = (x y : Instrumented) (text : List ℕ) → Cvd x text → Cvd y text → x ≡ y

abbrev pub OneText : Type 0
OneText = (x : Instrumented) (text other : List ℕ) → Cvd x text → Cvd x other → text ≡ other

-- no text is the front of another
abbrev pub NoFront : Type 0
NoFront = (x y : Instrumented) (text more : List ℕ) → Cvd x text → Cvd y (text ++ more) → more ≡ []

-- a text has one fault
abbrev pub OneFlaw : (FlowFault : Type 0) → (Design → FlowFault → Type 0) → Type 0
OneFlaw FlowFault IsFlowFault =
    (text : List ℕ) (f g : Flaw FlowFault) → IsFlaw FlowFault IsFlowFault text f → IsFlaw FlowFault IsFlowFault text g → f ≡ g
