-- Erasing counts gives the design back.
use Rattle.std.specs.Prelude.{◌≡◌, ℕ, List}
use Rattle.design_tree.specs.declared.design.Design.{Design}
use Rattle.counted_circuit.specs.CountedDesign.{IsCountedDesign}
use Rattle.counted_circuit.specs.Erased.{erased_design}

-- A design with counts that were put in for arms, without its counts, is the design.
abbrev pub ErasingGivesBack : Type 0
ErasingGivesBack = (carried : ℕ → List ℕ) (d e : Design) (arms : ℕ) → IsCountedDesign carried d e arms → erased_design e ≡ d
