-- The passes of a loop of a process, value by value.
use Rattle.std.specs.Prelude.{◌≡◌, ◌⊎◌, ℕ, Bool, true, false, ◌||◌, List, [], ◌∷◌, ◌++◌, map}
use Rattle.std.specs.List.{list_any}
use Rattle.vlog_tree.specs.declared.statement.Stmt.{Stmt}
use Rattle.source_meaning.specs.Environment.{Environment, in_pass}
use Rattle.source_meaning.specs.Meaning.{holds}
use Rattle.source_meaning.specs.Expressions.{meaning}
use Rattle.source_meaning.specs.Loops.{values_while, goes_past}
use Rattle.flat_source_meaning.specs.ProcessLoops.{ProcessLoop, passes, value_after, lacks, lacks_constant, turns_too_often}
use Rattle.flat_passes.specs.declared.head.PassHead.{PassHead}
use Rattle.flat_passes.specs.declared.turn.Turn.{Turn}
use Rattle.flat_passes.specs.declared.turn.Turn.TheVariants as comes
use Rattle.flat_passes.specs.declared.values.Passes.{Passes}
use Rattle.flat_passes.specs.declared.values.Passes.TheVariants as are

-- the loop that a head is of
abbrev pub loop_of : PassHead → List ℕ → Stmt → ProcessLoop
loop_of head step_name body = record {
  name = head.name.now;
  from = head.from.now;
  test = head.test.now;
  step_name = step_name;
  step = head.step.now;
  body = body;
}

-- The passes of a loop, or why there are none.
unfoldable pub IsPasses : Environment → ProcessLoop → Passes → Type 0
IsPasses env l (are.Made ns) = (lacks_constant env l ≡ false) × (turns_too_often env l ≡ false) × (ns ≡ passes env l)
IsPasses env l are.TooMany = turns_too_often env l ≡ true
IsPasses env l are.NotConstant = lacks_constant env l ≡ true

-- ---- of the code

-- the test holds at a value
abbrev pub test_at : Environment → ProcessLoop → ℕ → Bool
test_at env l n = holds (meaning (in_pass env l.name n) l.test) []

-- the values from one on, at most so many
abbrev pub values_from : Environment → ProcessLoop → ℕ → ℕ → List ℕ
values_from env l = values_while (test_at env l) (value_after env l)

-- whether the test holds at more than so many
abbrev pub more_than : Environment → ProcessLoop → ℕ → ℕ → Bool
more_than env l = goes_past (test_at env l) (value_after env l)

-- something of the test or step is no constant at some value from one on
abbrev pub lacks_from : Environment → ProcessLoop → ℕ → ℕ → Bool
lacks_from env l most n =
    list_any (lacks env l l.test) (n ∷ map (value_after env l) (values_from env l most n)) || list_any (lacks env l l.step) (values_from env l most n)

-- what comes behind a pass
abbrev pub IsNext : Environment → ProcessLoop → ℕ → Turn → Type 0
IsNext env l n (comes.Next m) = (lacks env l l.step n ≡ false) × (m ≡ value_after env l n)
IsNext env l n comes.Over = ⊥
IsNext env l n comes.Lacks = lacks env l l.step n ≡ true

-- what comes at a value
abbrev pub IsTurn : Environment → ProcessLoop → ℕ → Turn → Type 0
IsTurn env l n (comes.Next m) = (lacks env l l.test n ≡ false) × (test_at env l n ≡ true) × (lacks env l l.step n ≡ false) × (m ≡ value_after env l n)
IsTurn env l n comes.Over = (lacks env l l.test n ≡ false) × (test_at env l n ≡ false)
IsTurn env l n comes.Lacks = (lacks env l l.test n ≡ true) ⊎ ((test_at env l n ≡ true) × (lacks env l l.step n ≡ true))

-- the passes from a value on, at most so many, behind others that are made
unfoldable pub IsFrom : Environment → ProcessLoop → ℕ → ℕ → List ℕ → Passes → Type 0
IsFrom env l most n before (are.Made ns) = (lacks_from env l most n ≡ false) × (more_than env l most n ≡ false) × (ns ≡ before ++ values_from env l most n)
IsFrom env l most n before are.TooMany = (lacks_from env l most n ≡ false) × (more_than env l most n ≡ true)
IsFrom env l most n before are.NotConstant = lacks_from env l most n ≡ true
