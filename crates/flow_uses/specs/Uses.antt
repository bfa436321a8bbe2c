-- What a process reads and writes, as spans of bits.
use Rattle.std.specs.Prelude.{◌≡◌, ℕ, ◌==◌, Bool, ◌||◌, List, [], All}
use Rattle.std.specs.List.{list_any}
use Rattle.design_tree.specs.declared.design.Design.{Design}
use Rattle.circuit_run.specs.States.{Bit}
use Rattle.design_meaning.specs.States.{IsBitOf}
use Rattle.design_meaning.specs.Reach.{reads_bit, drives, sets_var, defers_var}
use Rattle.flow_marks.specs.declared.span.Span.{Span}
use Rattle.flow_spans.specs.Reads.{IsSpanOf, has_bit}
use Rattle.flow_uses.specs.declared.uses.Uses.{Uses}

-- one of the spans is of the variable
abbrev pub has_var : List Span → ℕ → Bool
has_var spans v = list_any (λ s. s.var == v) spans

-- past the last process nothing is read or written
abbrev pub no_uses : Uses
no_uses = record { reads = []; sets = []; defers = [] }

-- The spans of what process p reads, of what it writes at once, and of what it writes later: no other bits lie in them.
-- A target that names no bit has a span without bits.
pub record AreUsesOf (d : Design) (p : ℕ) (u : Uses) : Type 0 where
  pub reads_in : All (IsSpanOf d.vars) u.reads
  pub sets_in : All (IsSpanOf d.vars) u.sets
  pub defers_in : All (IsSpanOf d.vars) u.defers
  pub reads : (b : Bit) → IsBitOf d b → has_bit u.reads b ≡ reads_bit d p b
  pub drives : (b : Bit) → IsBitOf d b → (has_bit u.sets b || has_bit u.defers b) ≡ drives d p b
  pub sets : (v : ℕ) → has_var u.sets v ≡ sets_var d p v
  pub defers : (v : ℕ) → has_var u.defers v ≡ defers_var d p v
