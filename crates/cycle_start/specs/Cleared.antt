-- Bits that are set to 0.
use Rattle.std.specs.Prelude.{◌≡◌, ℕ, true, false, List}
use Rattle.std.specs.List.{list_any}
use Rattle.design_tree.specs.declared.design.Design.{Design}
use Rattle.circuit_run.specs.States.{State, Bit, bit}
use Rattle.design_meaning.specs.States.{IsBitOf, IsStateOf}
use Rattle.flow_marks.specs.declared.span.Span.{Span}
use Rattle.flow_spans.specs.Reads.{has_bit}

-- the bits of some spans are 0, and any other is as it was
pub record AreCleared (d : Design) (spans : List Span) (old new : State) : Type 0 where
  pub of : IsStateOf d new
  pub cleared : (b : Bit) → IsBitOf d b → has_bit spans b ≡ true → bit new b ≡ 0
  pub kept : (b : Bit) → IsBitOf d b → has_bit spans b ≡ false → bit new b ≡ bit old b
