-- Processes of a source (IEEE 1364-2005, 6.1 and 9.9; IEEE 1800, 16.14 for covers).
use Rattle.std.specs.Prelude.{if◌then◌else◌, []}
use Rattle.cov_types.specs.declared.kind.ProcessKind.{ProcessKind}
use Rattle.cov_types.specs.declared.kind.ProcessKind.TheVariants as process_kind
use Rattle.cov_types.specs.declared.place.Place.{Place}
use Rattle.vlog_tree.specs.declared.expression.Expr.{Expr}
use Rattle.vlog_tree.specs.declared.statement.Stmt.{Stmt}
use Rattle.circuit_run.specs.Outcomes.{unchanged}
use Rattle.circuit_run.specs.Circuits.{Process}
use Rattle.source_meaning.specs.Events.{Event, body, covered, unwritten}
use Rattle.source_meaning.specs.Meaning.{holds}
use Rattle.source_meaning.specs.Environment.{Environment}
use Rattle.source_meaning.specs.Expressions.{meaning}
use Rattle.source_meaning.specs.Acts.{enters, arm_runs, sets}
use Rattle.source_meaning.specs.Statements.{does}
use Rattle.source_meaning.specs.Drives.{targets, some_names}

-- an `always` or `initial` at a place; its run begins with the event of its body
abbrev pub process_of : ProcessKind → Environment → Place → Stmt → Process Event
process_of kind env p st = record { kind = kind; run = arm_runs env.scope p body (does st env); drives = some_names (targets st env) }

-- a continuous assignment, a wire declaration with a value, or a port connection: the names of the target and those of the
-- value may be of two scopes, as at a port
abbrev pub assignment_of : Environment → Environment → Place → Expr → Expr → Process Event
assignment_of target_env env p target e = record {
  kind = process_kind.Assign;
  run = arm_runs env.scope p unwritten (sets (meaning target_env target) (meaning env e));
  drives = some_names (meaning target_env target).objects;
}

-- A cover occurs where its expression is not 0.
abbrev pub cover_of : Environment → Place → Expr → Process Event
cover_of env p test = record {
  kind = process_kind.Cover;
  run = λ s. if holds (meaning env test) s then enters env.scope p covered s else unchanged s;
  drives = some_names [];
}
