-- The numbers of the bits and of the columns of a span. A column is one place in all words of a variable.
use Rattle.std.specs.Prelude.{ℕ, ◌+◌, ◌*◌, ◌<◌, ◌≤◌, List, length}
use Rattle.flow_marks.specs.declared.slot.Slot.{Slot}
use Rattle.flow_marks.specs.declared.span.Span.{Span}
use Rattle.flow_marks.specs.Slots.{before, size, wide, slot_of, AreLaid}
use Rattle.flow_edges.specs.declared.stretch.Stretch.{Stretch}

-- a number is one of a stretch
pub record IsAmong (s : Stretch) (i : ℕ) : Type 0 where
  pub from : s.from ≤ i
  pub to : i < s.to

-- the number of a column
abbrev pub column_number : List Slot → ℕ → ℕ → ℕ
column_number slots v c = (slot_of slots v).column + c

-- the bits of a span in its first word
abbrev pub bits_of : List Slot → Span → Stretch
bits_of slots s = let t = slot_of slots s.var in record { from = t.bit + s.word * t.width + s.place; to = t.bit + s.word * t.width + s.place_end }

-- the columns of a span
abbrev pub columns_of : List Slot → Span → Stretch
columns_of slots s = record { from = column_number slots s.var s.place; to = column_number slots s.var s.place_end }

-- the slots stand one behind the other, and have few enough bits and columns to be numbered
pub record AreNumbered (slots : List Slot) : Type 0 where
  pub laid : AreLaid slots
  pub bits : before size slots (length slots) ≤ 16777216
  pub columns : before wide slots (length slots) ≤ 16777216
