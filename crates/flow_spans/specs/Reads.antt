-- The spans that code has found for those that a definition names.
use Rattle.std.specs.Prelude.{◌≡◌, ℕ, ◌+◌, ◌<◌, ◌≤◌, ◌⊎◌, Bool, List, ◌++◌, length, All, IsTrue}
use Rattle.std.specs.List.{list_any}
use Rattle.cov_types.specs.declared.var.Var.{Var}
use Rattle.circuit_run.specs.States.{State, Bit, IsBitOf, IsStateOf, var_of}
use Rattle.design_meaning.specs.ValidVariables.{IsVariable}
use Rattle.flow_marks.specs.declared.span.Span.{Span}
use Rattle.flow_marks.specs.Slots.{is_in}

-- a span lies inside its variable, and has bits of one word or of all
pub record IsSpanOf (vars : List Var) (s : Span) : Type 0 where
  pub of_variable : s.var < length vars
  pub some_word : s.word < s.word_end
  pub of_words : s.word_end ≤ (var_of vars s.var).words
  pub places : s.place ≤ s.place_end
  pub in_width : s.place_end ≤ (var_of vars s.var).width
  pub one_or_all : (s.word_end ≡ s.word + 1) ⊎ ((s.word ≡ 0) × (s.word_end ≡ (var_of vars s.var).words))

-- a bit lies in one of the spans
abbrev pub has_bit : List Span → Bit → Bool
has_bit spans b = list_any (λ s. is_in s b) spans

-- The list has grown by spans in which exactly the wanted bits lie, of those that the variables have.
pub record Adds (vars : List Var) (old new : List Span) (wanted : Bit → Bool) : Type 0 where
  pub more : List Span
  pub behind : new ≡ old ++ more
  pub spans : All (IsSpanOf vars) more
  pub bits : (b : Bit) → IsBitOf vars b → has_bit more b ≡ wanted b

-- valid variables, and a state of them
pub record AreKnown (vars : List Var) (s : State) : Type 0 where
  pub valid : All IsVariable vars
  pub state : IsStateOf vars s
