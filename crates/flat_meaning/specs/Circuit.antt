-- A flat source as a circuit (IEEE 1364-2005, 6.1 and 9.9; IEEE 1800, 16.14 for covers): its runs are those of
-- `circuit_run`.
use Rattle.std.specs.Prelude.{if◌then◌else◌, List, map}
use Rattle.cov_types.specs.declared.var.Var.{Var}
use Rattle.cov_types.specs.declared.kind.ProcessKind.{ProcessKind}
use Rattle.cov_types.specs.declared.kind.ProcessKind.TheVariants as process_kind
use Rattle.elab_types.specs.declared.flat_source.FlatVar.{FlatVar}
use Rattle.elab_types.specs.declared.flat_statement.FlatStmt.{FlatStmt, out-FlatStmt}
use Rattle.elab_types.specs.declared.flat_statement.FlatKind.{FlatKind, out-FlatKind}
use Rattle.elab_types.specs.declared.flat_statement.FlatArm.{FlatArm}
use Rattle.elab_types.specs.declared.flat_statement.FlatKind.TheOpen as k
use Rattle.elab_types.specs.declared.flat_source.FlatProcess.{FlatProcess}
use Rattle.elab_types.specs.declared.flat_source.FlatSource.{FlatSource}
use Rattle.circuit_run.specs.Outcomes.{Act, unchanged}
use Rattle.circuit_run.specs.Circuits.{Process, Circuit}
use Rattle.source_meaning.specs.Events.{Event, body, covered, unwritten}
use Rattle.source_meaning.specs.Meaning.{holds}
use Rattle.source_meaning.specs.Acts.{enters, arm_runs}
use Rattle.source_meaning.specs.Drives.{some_names}
use Rattle.flat_meaning.specs.Expressions.{meaning}
use Rattle.flat_meaning.specs.Statements.{does, targets}

-- a variable as one of a circuit
abbrev pub var_of : FlatVar → Var
var_of v = record { width = v.width; words = v.words; start = v.start; kind = v.kind }

-- A cover's body is one `if` on its expression, with empty arms: the cover occurs where the expression is not 0.
abbrev pub cover_runs : List FlatVar → FlatProcess → k.FlatKind-F FlatKind FlatArm FlatStmt → Act Event
cover_runs vars p (k.If test first second) = λ s. if holds (meaning vars test) s then enters p.scope p.place covered s else unchanged s
cover_runs vars p _ = unchanged

-- what a process does
abbrev pub process_runs : List FlatVar → FlatProcess → ProcessKind → Act Event
process_runs vars p process_kind.Assign = arm_runs p.scope p.place unwritten (does vars p.scope p.body)
process_runs vars p process_kind.Cover = cover_runs vars p (out-FlatKind (out-FlatStmt p.body).what)
process_runs vars p _ = arm_runs p.scope p.place body (does vars p.scope p.body)

-- a process as one of a circuit: it drives the bits that its targets name
abbrev pub process_of : List FlatVar → FlatProcess → Process Event
process_of vars p = record { kind = p.kind; run = process_runs vars p p.kind; drives = some_names (targets vars p.body) }

-- a flat source as a circuit
abbrev pub circuit_of : FlatSource → Circuit Event
circuit_of flat = record {
  vars = map var_of flat.vars;
  inputs = flat.inputs;
  outputs = flat.outputs;
  processes = map (process_of flat.vars) flat.processes;
}
