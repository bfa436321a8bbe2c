-- Which processes drive the bits of variables, by the numbers of bits and columns.
use Rattle.std.specs.Prelude.{◌≡◌, ℕ, ◌+◌, ◌<◌, ◌⊎◌, List, Contains, IsTrue, length}
use Rattle.cov_types.specs.declared.var.Var.{Var}
use Rattle.design_tree.specs.declared.design.Design.{Design}
use Rattle.circuit_run.specs.States.{Bit, var_of}
use Rattle.circuit_run.specs.Kinds.{settles}
use Rattle.design_meaning.specs.States.{IsBitOf}
use Rattle.design_meaning.specs.Processes.{kind_of}
use Rattle.design_meaning.specs.Reach.{drives}
use Rattle.flow_graph.specs.Graph.{HasEdge}
use Rattle.flow_marks.specs.declared.slot.Slot.{Slot}
use Rattle.flow_marks.specs.declared.span.Span.{Span}
use Rattle.flow_marks.specs.Slots.{before, size, wide, number, slots_from}
use Rattle.flow_uses.specs.declared.uses.Uses.{Uses}
use Rattle.flow_edges.specs.declared.owners.Owners.{Owners}
use Rattle.flow_hubs.specs.Adding.{Adds}
use Rattle.flow_edges.specs.Stretches.{AreNumbered, IsAmong, bits_of, columns_of, column_number}

-- there is a row for each bit, and two for each column
pub record IsTable (o : Owners) : Type 0 where
  pub numbered : AreNumbered o.slots.items
  pub bits : length o.bits ≡ before size o.slots.items (length o.slots.items)
  pub whole : length o.whole ≡ before wide o.slots.items (length o.slots.items)
  pub columns : length o.columns ≡ before wide o.slots.items (length o.slots.items)

-- a table of some variables, of which no bit is driven
pub record IsBlank (vars : List Var) (o : Owners) : Type 0 where
  pub slots : o.slots.items ≡ slots_from 0 0 vars
  pub table : IsTable o
  pub bits : (i x : ℕ) → HasEdge o.bits i x → ⊥
  pub whole : (i x : ℕ) → HasEdge o.whole i x → ⊥
  pub columns : (i x : ℕ) → HasEdge o.columns i x → ⊥

-- a span names bits of one word
abbrev pub IsOfWord : Span → Type 0
IsOfWord s = s.word_end ≡ s.word + 1

-- a process has a target of the span
abbrev pub IsNamed : Uses → Span → Type 0
IsNamed u s = Contains u.sets s ⊎ Contains u.defers s

-- The table has grown by the processes x and spans s for which S holds, and by nothing else.
pub record Notes (old new : Owners) (S : ℕ → Span → Type 0) : Type 0 where
  pub slots : new.slots.items ≡ old.slots.items
  pub bits : Adds old.bits new.bits (λ i x. (s : Span) × S x s × IsOfWord s × IsAmong (bits_of old.slots.items s) i)
  pub whole : Adds old.whole new.whole (λ i x. (s : Span) × S x s × (IsOfWord s → ⊥) × IsAmong (columns_of old.slots.items s) i)
  pub columns : Adds old.columns new.columns (λ i x. (s : Span) × S x s × IsAmong (columns_of old.slots.items s) i)

-- ---- a design

-- an assignment or combinational process drives a bit
pub record Settles (d : Design) (p : ℕ) (b : Bit) : Type 0 where
  pub kind : IsTrue (settles (kind_of d p))
  pub driven : IsTrue (drives d p b)

-- the slots of a design's variables
abbrev pub slots_of : Design → List Slot
slots_of d = slots_from 0 0 d.vars

-- The table of a design: for each bit a process of its row, or of its column's first, drives it, and all that drive it are
-- there; of a column's second row those that drive a bit of the column. No row has another number.
pub record AreOwners (d : Design) (o : Owners) : Type 0 where
  pub slots : o.slots.items ≡ slots_of d
  pub table : IsTable o
  pub from_bit : (b : Bit) (p : ℕ) → IsBitOf d b → HasEdge o.bits (number (slots_of d) b) p → Settles d p b
  pub from_whole : (b : Bit) (p : ℕ) → IsBitOf d b → HasEdge o.whole (column_number (slots_of d) b.var b.place) p → Settles d p b
  pub from_column : (v c p : ℕ) → v < length d.vars → c < (var_of d.vars v).width → HasEdge o.columns (column_number (slots_of d) v c) p
      → (b : Bit) × (b.var ≡ v) × (b.place ≡ c) × IsBitOf d b × Settles d p b
  pub to_bit : (b : Bit) (p : ℕ) → IsBitOf d b → Settles d p b
      → HasEdge o.bits (number (slots_of d) b) p ⊎ HasEdge o.whole (column_number (slots_of d) b.var b.place) p
  pub to_column : (b : Bit) (p : ℕ) → IsBitOf d b → Settles d p b → HasEdge o.columns (column_number (slots_of d) b.var b.place) p
  pub bits_below : (i x : ℕ) → HasEdge o.bits i x → x < length d.processes
  pub whole_below : (i x : ℕ) → HasEdge o.whole i x → x < length d.processes
  pub columns_below : (i x : ℕ) → HasEdge o.columns i x → x < length d.processes
