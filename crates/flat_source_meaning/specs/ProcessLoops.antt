-- The heads of loops in a process (IEEE 1364-2005, 9.6): the expressions in them have to be constants in each pass.
use Rattle.std.specs.Prelude.{ℕ, Bool, not, ◌||◌, ◌&&◌, List, [], ◌∷◌, map}
use Rattle.std.specs.List.{list_any}
use Rattle.vlog_tree.specs.declared.expression.Expr.{Expr}
use Rattle.vlog_tree.specs.declared.statement.Stmt.{Stmt}
use Rattle.vlog_tree.specs.declared.statement.StmtKind.TheOpen as o
use Rattle.vlog_tree.specs.Trees.{StmtLayer}
use Rattle.source_meaning.specs.Environment.{Environment, in_pass}
use Rattle.source_meaning.specs.Expressions.{meaning}
use Rattle.source_meaning.specs.Assignments.{assigned}
use Rattle.source_meaning.specs.Loops.{first_value, passes_too_often}
use Rattle.source_meaning.specs.Statements.{values_of}
use Rattle.flat_source_meaning.specs.FixedParts.{is_constant}

-- a loop of a process
pub record ProcessLoop : Type 0 where
  pub name : List ℕ
  pub from : Expr
  pub test : Expr
  pub step_name : List ℕ
  pub step : Expr
  pub body : Stmt

-- the loop that a statement is, if it is one
abbrev pub process_loops : StmtLayer → List ProcessLoop
process_loops (o.For name from test step_name step body) =
    record { name = name; from = from; test = test; step_name = step_name; step = step; body = body } ∷ []
process_loops _ = []

-- the values of the loop variable in the passes that are made
abbrev pub passes : Environment → ProcessLoop → List ℕ
passes env l = values_of env l.name l.from l.test l.step

-- the value at first
abbrev pub value_at_first : Environment → ProcessLoop → ℕ
value_at_first env l = first_value (meaning env l.from)

-- the value after a pass
abbrev pub value_after : Environment → ProcessLoop → ℕ → ℕ
value_after env l n = assigned 32 (meaning (in_pass env l.name n) l.step) []

-- the values at which the test is read: at first, and after each pass
abbrev pub tested : Environment → ProcessLoop → List ℕ
tested env l = value_at_first env l ∷ map (value_after env l) (passes env l)

-- the values at which the step is read: in each pass, and at first even where no pass is made
abbrev pub stepped : Environment → ProcessLoop → List ℕ
stepped env l = value_at_first env l ∷ passes env l

-- an expression of a head is no constant at a value of the loop variable
abbrev pub lacks : Environment → ProcessLoop → Expr → ℕ → Bool
lacks env l e n = not (is_constant (in_pass env l.name n) e)

-- Somewhere in a head there is no constant.
abbrev pub lacks_constant : Environment → ProcessLoop → Bool
lacks_constant env l = not (is_constant env l.from) || list_any (lacks env l l.test) (tested env l) || list_any (lacks env l l.step) (stepped env l)

-- More than 65,536 passes are made, all of them at constants.
abbrev pub turns_too_often : Environment → ProcessLoop → Bool
turns_too_often env l =
    not (lacks_constant env l)
    && passes_too_often (λ n. meaning (in_pass env l.name n) l.test) (λ n. meaning (in_pass env l.name n) l.step) (meaning env l.from)
