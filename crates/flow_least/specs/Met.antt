-- Spans that meet a set of bits.
use Rattle.std.specs.Prelude.{◌≡◌, ℕ, Bool, true, ◌||◌, List, All}
use Rattle.circuit_run.specs.States.{Bit}
use Rattle.flow_marks.specs.declared.slot.Slot.{Slot}
use Rattle.flow_marks.specs.declared.span.Span.{Span}
use Rattle.flow_marks.specs.Slots.{IsIn, IsSpan, IsOneOrAll}
use Rattle.flow_marks.specs.Sets.{MarkSet, has}
use Rattle.flow_spans.specs.Reads.{has_bit}
use Rattle.flow_uses.specs.declared.uses.Uses.{Uses}

-- a span lies inside its variable, and has bits of one word or of all
pub record IsMarked (slots : List Slot) (s : Span) : Type 0 where
  pub span : IsSpan slots s
  pub words : IsOneOrAll slots s

-- so do those that a process writes
pub record AreMarked (slots : List Slot) (u : Uses) : Type 0 where
  pub sets : All (IsMarked slots) u.sets
  pub defers : All (IsMarked slots) u.defers

-- a bit of the variable lies in one of the spans and is in the set
pub record HasMet (m : MarkSet) (spans : List Span) (v : ℕ) : Type 0 where
  pub common : Bit
  pub of_variable : common.var ≡ v
  pub here : IsIn m.slots common
  pub within : has_bit spans common ≡ true
  pub in_set : has m common ≡ true

-- a process drives a bit: it writes it at once or later
abbrev pub is_driven : Uses → Bit → Bool
is_driven u b = has_bit u.sets b || has_bit u.defers b

-- a bit of the variable is driven and is in the set
pub record HasMetEither (m : MarkSet) (u : Uses) (v : ℕ) : Type 0 where
  pub common : Bit
  pub of_variable : common.var ≡ v
  pub here : IsIn m.slots common
  pub within : is_driven u common ≡ true
  pub in_set : has m common ≡ true
