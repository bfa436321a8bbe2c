-- The circuit of a source: its runs are the runs of the source (IEEE 1364-2005, 11 scheduling semantics; the order of
-- variables and processes: this project's own).
use Rattle.std.specs.Prelude.{◌≡◌, if◌then◌else◌, ℕ, true, List, map, Option, None}
use Rattle.std.specs.List.{filter_map}
use Rattle.vlog_tree.specs.declared.module.Port.{Port}
use Rattle.elab_types.specs.declared.flat_source.FlatVar.{FlatVar}
use Rattle.cov_types.specs.declared.kind.ProcessKind.TheVariants as kind
use Rattle.circuit_run.specs.Circuits.{Circuit}
use Rattle.circuit_run.specs.Circuits as circuits
use Rattle.source_meaning.specs.Events.{Event}
use Rattle.source_meaning.specs.Processes.{process_of, assignment_of, cover_of}
use Rattle.flat_meaning.specs.Circuit.{var_of}
use Rattle.scope_meaning.specs.ScopeTrees.{Files, modules, IsWalkOf}
use Rattle.flat_source_meaning.specs.Environments.{position}
use Rattle.flat_source_meaning.specs.Joins.{is_input_kind}
use Rattle.flat_source_meaning.specs.Variables.{Source, AreVariables}
use Rattle.flat_source_meaning.specs.Processes.{Process, initially, always, assigns, covers, AreProcesses, always_kind}

-- what a process does
abbrev pub meaning_of_process : Process → circuits.Process Event
meaning_of_process (initially env p st) = process_of kind.Initial env p st
meaning_of_process (always clock env p st) = process_of (always_kind clock) env p st
meaning_of_process (assigns target_env env p target e) = assignment_of target_env env p target e
meaning_of_process (covers env p word label test) = cover_of env word test

-- The number of the variable of a port of the top, where it has this direction; the clock has none.
abbrev pub input_number : List FlatVar → Port → Option ℕ
input_number vars p = if is_input_kind p.kind then position vars 0 p.name else None

abbrev pub output_number : List FlatVar → Port → Option ℕ
output_number vars p = if is_input_kind p.kind then None else position vars 0 p.name

-- the top's inputs and outputs, in port order
abbrev pub inputs_of : List FlatVar → List Port → List ℕ
inputs_of vars = filter_map (input_number vars)

abbrev pub outputs_of : List FlatVar → List Port → List ℕ
outputs_of vars = filter_map (output_number vars)

-- The walk through the design of some files: the modules, what it comes to, the name of the clock, and the variables.
pub record IsSource (files : Files) (top clock : List ℕ) (w : Source) : Type 0 where
  pub design : w.design ≡ modules files
  pub clock_name : w.clock ≡ clock
  pub walk : IsWalkOf w.design top w.vs true
  pub variables : AreVariables w.vs w.clock w.vars

-- the circuit of a walk: its variables with their starts, the top's ports, and its processes
abbrev pub circuit_of_tree : Source → List Port → List Process → Circuit Event
circuit_of_tree w ports all = record {
  vars = map var_of w.vars;
  inputs = inputs_of w.vars ports;
  outputs = outputs_of w.vars ports;
  processes = map meaning_of_process all;
}

-- The circuit is that of the files' design.
pub record IsCircuitOf (files : Files) (top clock : List ℕ) (circuit : Circuit Event) : Type 0 where
  pub w : Source
  pub source : IsSource files top clock w
  pub all : List Process
  pub found : AreProcesses w w.vs all
  pub same : circuit ≡ circuit_of_tree w source.walk.top_module.ports all
