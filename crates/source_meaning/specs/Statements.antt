-- The run of a statement where names stand for something (IEEE 1364-2005, 9 and 17), from a state alone.
use Rattle.std.specs.Prelude.{ℕ, List, map, Option, Some, None}
use Rattle.cov_types.specs.declared.place.Place.{Place}
use Rattle.vlog_tree.specs.declared.expression.Expr.{Expr}
use Rattle.vlog_tree.specs.declared.statement.Stmt.{Stmt, fold-Stmt}
use Rattle.vlog_tree.specs.declared.statement.StmtKind.TheOpen as k
use Rattle.circuit_run.specs.Outcomes.{Act, unchanged, in_turn, finishes, stops}
use Rattle.source_meaning.specs.Events.{Event}
use Rattle.source_meaning.specs.Environment.{Environment, in_pass}
use Rattle.source_meaning.specs.Expressions.{meaning}
use Rattle.source_meaning.specs.Cases.{Choice}
use Rattle.source_meaning.specs.Loops.{pass_values}
use Rattle.source_meaning.specs.Acts.{if_runs, case_runs, sets, sets_later, displays}

-- what a statement does in an environment
abbrev pub Does : Type 0
Does = Environment → Act Event

-- what a part that may not be written does
abbrev pub if_written : Option Does → Environment → Option (Act Event)
if_written (Some act) env = Some (act env)
if_written None env = None

-- the values of the loop variable of a `for` in its passes
abbrev pub values_of : Environment → List ℕ → Expr → Expr → Expr → List ℕ
values_of env name from test step = pass_values (λ n. meaning (in_pass env name n) test) (λ n. meaning (in_pass env name n) step) (meaning env from)

-- a statement of a kind at a place, its parts being what they do; a `for` does its body once for each pass, the loop
-- variable being a constant in it
abbrev pub statement : k.StmtKind-F (Place → Does) (Environment → Choice) Does → Place → Does
statement k.Empty p env = unchanged
statement (k.Block body last) p env = in_turn (map (λ act. act env) body)
statement (k.If test first second) p env = if_runs env.scope p (meaning env test) (first env) (if_written second env)
statement (k.Case wild on arms) p env = case_runs env.scope p (meaning env on) (map (λ arm. arm env) arms)
statement (k.For name from test step_name step body) p env = in_turn (map (λ n. body (in_pass env name n)) (values_of env name from test step))
statement (k.Set target e) p env = sets (meaning env target) (meaning env e)
statement (k.Later target e) p env = sets_later (meaning env target) (meaning env e)
statement (k.Show text values) p env = displays text (map (meaning env) values)
statement k.Finish p env = finishes
statement k.Stop p env = stops

abbrev pub placed : k.Stmt-F (Place → Does) (Environment → Choice) Does → Does
placed s = s.what s.place

abbrev pub choice : k.CaseArm-F (Place → Does) (Environment → Choice) Does → Environment → Choice
choice c env = record { place = c.place; items = map (meaning env) c.items; body = c.body env }

-- what a statement does
abbrev pub does : Stmt → Does
does = fold-Stmt (Place → Does) (Environment → Choice) Does statement choice placed
