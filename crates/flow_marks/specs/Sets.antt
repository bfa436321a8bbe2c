-- Sets of bits of variables.
use Rattle.std.specs.Prelude.{◌≡◌, ℕ, zero, suc, ◌+◌, ◌<◌, Bool, true, false, if◌then◌else◌, List, length, slice_index, slice_index_or}
use Rattle.circuit_run.specs.States.{Bit}
use Rattle.flow_marks.specs.declared.slot.Slot.{Slot}
use Rattle.flow_marks.specs.declared.span.Span.{Span}
use Rattle.flow_marks.specs.Slots.{before, slot_of, size, wide, AreLaid, IsIn, is_in, number}

-- a set of bits: for each number of a bit whether it is in it
pub record MarkSet : Type 0 where
  pub slots : List Slot
  pub bits : List Bool

abbrev pub has : MarkSet → Bit → Bool
has m b = slice_index_or m.bits (number m.slots b) false

-- how many of the first n hold
abbrev pub marked : (ℕ → Bool) → ℕ → ℕ
marked f zero = 0
marked f (suc n) = (if f n then 1 else 0) + marked f n

abbrev pub column_of : List Slot → List Bool → ℕ → ℕ → ℕ → Bool
column_of slots bits v c w = slice_index_or bits (number slots (record { var = v; word = w; place = c })) false

-- what the code keeps: the layout, one entry a bit, and for each column how many of its bits are in the set
pub record IsKept (slots : List Slot) (bits : List Bool) (counts : List ℕ) : Type 0 where
  pub laid : AreLaid slots
  pub as_many : length bits ≡ before size slots (length slots)
  pub columns : length counts ≡ before wide slots (length slots)
  pub counted : (v c : ℕ) → v < length slots → c < (slot_of slots v).width
      → slice_index counts ((slot_of slots v).column + c) ≡ marked (column_of slots bits v c) (slot_of slots v).words

-- a place of a variable, in all its words
pub record IsColumn (slots : List Slot) (v c : ℕ) : Type 0 where
  pub of_variable : v < length slots
  pub in_width : c < (slot_of slots v).width

-- the set has a bit at that place in some word
abbrev pub HasInColumn : MarkSet → ℕ → ℕ → Type 0
HasInColumn m v c = (w : ℕ) × (w < (slot_of m.slots v).words) × (has m (record { var = v; word = w; place = c }) ≡ true)

-- the set has the bits at that place in all words
abbrev pub HasColumn : MarkSet → ℕ → ℕ → Type 0
HasColumn m v c = (w : ℕ) → w < (slot_of m.slots v).words → has m (record { var = v; word = w; place = c }) ≡ true

-- a span has a bit of the set
pub record Meets (m : MarkSet) (s : Span) : Type 0 where
  pub common : Bit
  pub here : IsIn m.slots common
  pub within : is_in s common ≡ true
  pub in_set : has m common ≡ true
