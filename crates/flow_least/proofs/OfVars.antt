-- The bits and spans of the variables of a valid design, in sets that have the layout of these variables.
use Rattle.std.proofs.Common.{◌≡◌, sym, subst, List, get_or}
use Rattle.std.specs.Prelude.{All}
use Rattle.cov_types.specs.declared.var.Var.{Var}
use Rattle.circuit_run.specs.States.{Bit, IsBitOf}
use Rattle.flow_marks.specs.declared.slot.Slot.{Slot}
use Rattle.flow_marks.specs.declared.span.Span.{Span}
use Rattle.flow_marks.specs.Slots.{IsIn, slots_from}
use Rattle.flow_spans.specs.Reads.{IsSpanOf}
use Rattle.flow_spans.proofs.OfVars as vars
use Rattle.flow_least.specs.Met.{IsMarked}

module _ (vs : List Var) (slots : List Slot) (of : slots ≡ slots_from 0 0 vs) where
  pub bit_in : (b : Bit) → IsBitOf vs b → IsIn slots b
  bit_in b h = subst (λ (s : List Slot). IsIn s b) (sym of) (vars.bit_in vs b h)

  pub bit_of_vars : (b : Bit) → IsIn slots b → IsBitOf vs b
  bit_of_vars b h = vars.bit_from vs b (subst (λ (s : List Slot). IsIn s b) of h)

  pub span_in : (s : Span) → IsSpanOf vs s → IsMarked slots s
  span_in s h = subst (λ (t : List Slot). IsMarked t s) (sym of) (record { span = vars.span_in vs s h; words = vars.one_or_all vs s h })

  pub spans_in : (spans : List Span) → All (IsSpanOf vs) spans → All (IsMarked slots) spans
  spans_in spans h = λ k d lt. span_in (get_or spans k d) (h k d lt)
