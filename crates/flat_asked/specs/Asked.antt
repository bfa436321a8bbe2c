-- What is asked of names, and what the rules say of it.
use Rattle.std.specs.Prelude.{◌≡◌, ◌↔◌, ℕ, Bool, true, false, not, ◌&&◌, List, Option, Some}
use Rattle.scope_meaning.specs.Declared.{Declared, DeclaredAs, is_in}
use Rattle.scope_meaning.specs.Scope.{Frame, Meant, a_constant, a_variable, meaning_of}
use Rattle.scope_meaning.specs.Visits.{Visits}
use Rattle.scope_table.specs.declared.table.ScopeTable.{ScopeTable}
use Rattle.flat_source_meaning.specs.Clocks.{IsClock}
use Rattle.flat_source_meaning.specs.Variables.{is_loop_variable}
use Rattle.flat_source_meaning.specs.FlatRules.{has_value, a_process_writes, an_assignment_writes}
use Rattle.flat_scopes.specs.declared.scope.NameMeaning.{NameMeaning}
use Rattle.flat_scopes.specs.Meanings.{meaning_by}
use Rattle.flat_names.specs.Loops.{loop_names}
use Rattle.flat_asked.specs.declared.asking.Asked.{Asked}
use Rattle.flat_asked.specs.declared.asking.Asked.TheVariants as ask
use Rattle.flat_asked.specs.declared.asking.Asking.{Asking}
use Rattle.flat_asked.specs.Answers.{has_value_by, in_table, process_writes, assignment_writes, may_write_by}

-- the answer for a name that means this, where loops around turn over it or not
abbrev pub answer : ScopeTable Unit → ScopeTable Unit → Bool → List ℕ → Option NameMeaning → Asked → Bool
answer clocks loops turned name m ask.NoValue = not (has_value_by m)
answer clocks loops turned name m ask.ClockSignal = in_table clocks name m
answer clocks loops turned name m ask.LoopVariable = in_table loops name m
answer clocks loops turned name m ask.OutsideItsLoops = in_table loops name m && not turned
answer clocks loops turned name m ask.NotOfProcesses = not (may_write_by process_writes m)
answer clocks loops turned name m ask.NotOfAssignments = not (may_write_by assignment_writes m)

-- the answer at a place
abbrev pub answered : Asking → List ℕ → Bool
answered a name =
    answer a.clocks.now a.loops.now (is_in name (loop_names a.around.loops.now)) name (meaning_by a.scopes.now.scopes.items a.at name) a.asked

-- ---- by the rules

-- what is meant is a clock signal; a loop variable
abbrev pub IsMeantClock : Visits → List ℕ → Option Meant → Type 0
IsMeantClock vs clock m = (s : ℕ) × (d : Declared) × (m ≡ Some (a_variable s d)) × IsClock vs clock s d.name

abbrev pub IsMeantLoop : Visits → Option Meant → Type 0
IsMeantLoop vs m = (s : ℕ) × (d : Declared) × (m ≡ Some (a_variable s d)) × (is_loop_variable vs s d.name ≡ true)

-- what is meant may be written by what writes variables that are declared so
abbrev pub writes : (DeclaredAs → Bool) → Option Meant → Bool
writes f (Some (a_variable s d)) = f d.kind
writes f (Some (a_constant c)) = false
writes f _ = true

-- The answers are those of the rules, seen through these scopes and inside loops over these names.
abbrev pub AsksOf : Visits → List ℕ → List Frame → List (List ℕ) → Asked → (List ℕ → Bool) → Type 0
AsksOf vs clock fs turned ask.NoValue f = (name : List ℕ) → f name ≡ not (has_value (meaning_of fs name))
AsksOf vs clock fs turned ask.ClockSignal f = (name : List ℕ) → (f name ≡ true) ↔ IsMeantClock vs clock (meaning_of fs name)
AsksOf vs clock fs turned ask.LoopVariable f = (name : List ℕ) → (f name ≡ true) ↔ IsMeantLoop vs (meaning_of fs name)
AsksOf vs clock fs turned ask.OutsideItsLoops f =
    (name : List ℕ) → (f name ≡ true) ↔ (IsMeantLoop vs (meaning_of fs name) × (is_in name turned ≡ false))
AsksOf vs clock fs turned ask.NotOfProcesses f = (name : List ℕ) → f name ≡ not (writes a_process_writes (meaning_of fs name))
AsksOf vs clock fs turned ask.NotOfAssignments f = (name : List ℕ) → f name ≡ not (writes an_assignment_writes (meaning_of fs name))
