-- Private: variables of which one span has all bits.
use Rattle.std.specs.Prelude.{◌≡◌, ℕ, ◌<◌, Bool, false, List, Contains, length, slice_index_or}
use Rattle.cov_types.specs.declared.var.Var.{Var}
use Rattle.circuit_run.specs.States.{var_of}
use Rattle.flow_marks.specs.declared.span.Span.{Span}
use Rattle.flow_uses.specs.declared.uses.Uses.{Uses}
use Rattle.flow_uses.specs.Uses.{no_uses}

abbrev pub written_at : List Bool → ℕ → Bool
written_at written v = slice_index_or written v false

-- a span has all bits of a variable
pub record IsWhole (s : Span) (v : Var) : Type 0 where
  pub word : s.word ≡ 0
  pub word_end : s.word_end ≡ v.words
  pub place : s.place ≡ 0
  pub place_end : s.place_end ≡ v.width

-- one of the spans has all bits of a variable
pub record HaveWhole (vars : List Var) (spans : List Span) (v : ℕ) : Type 0 where
  pub span : Span
  pub listed : Contains spans span
  pub of_variable : span.var ≡ v
  pub whole : IsWhole span (var_of vars v)

-- a process of an order writes all bits of a variable at once
pub record IsWritten (vars : List Var) (uses : List Uses) (order : List ℕ) (v : ℕ) : Type 0 where
  pub place : ℕ
  pub within : place < length order
  pub whole : HaveWhole vars (slice_index_or uses (slice_index_or order place 0) no_uses).sets v
