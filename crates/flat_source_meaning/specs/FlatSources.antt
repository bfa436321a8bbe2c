-- The flat source of a design, or why it has none.
use Rattle.std.specs.Prelude.{◌≡◌, ℕ, Bool, true, List, [], ◌∷◌, ◌++◌, Result, Ok, Err}
use Rattle.std.specs.List.{AllByRecursion, AllZip}
use Rattle.cov_types.specs.declared.limit.LimitName.{LimitName}
use Rattle.vlog_tree.specs.declared.module.Port.{Port}
use Rattle.elab_types.specs.declared.flat_source.FlatSource.{FlatSource}
use Rattle.elab_types.specs.declared.flat_fault.FlatFault.{FlatFault}
use Rattle.elab_types.specs.declared.flat_fault.FlatFault.TheVariants as fault
use Rattle.circuit_run.specs.Circuits.{Circuit}
use Rattle.source_meaning.specs.Events.{Event}
use Rattle.flat_meaning.specs.Circuit.{circuit_of}
use Rattle.scope_meaning.specs.ScopeTrees.{Files}
use Rattle.flat_source_meaning.specs.SourceArms.{IsArmRow}
use Rattle.flat_source_meaning.specs.SourceCircuit.{inputs_of, outputs_of, IsSource, IsCircuitOf}
use Rattle.flat_source_meaning.specs.FlatProcesses.{IsFlatProcess, Numbered, HaveArms}
use Rattle.flat_source_meaning.specs.Variables.{Source}
use Rattle.flat_source_meaning.specs.Processes.{Process, AreProcesses}
use Rattle.flat_source_meaning.specs.FlatSpots.{FlatSpot, AreSpots}
use Rattle.flat_source_meaning.specs.FlatRefusals.{FlatRule, RefusesSpot, IsFirstRule, NoRule, place_of_spot, flat_fault}
use Rattle.flat_source_meaning.specs.FlatLimits.{Weight, HaveWeights, PassesLimit, IsFirstPassed, PassesNone}

-- The flat source of a walk: its variables, the flat form of its processes, the copies of their arms, the top's ports.
pub record IsFlatOf (w : Source) (ports : List Port) (flat : FlatSource) : Type 0 where
  pub variables : flat.vars ≡ w.vars
  pub all : List Process
  pub found : AreProcesses w w.vs all
  pub processes : AllZip (IsFlatProcess w.vars) all flat.processes
  pub copies : List Numbered
  pub have : HaveArms 0 all copies
  pub arms : AllZip (λ a row. IsArmRow a.process a.scope a.arm row) copies flat.arms
  pub inputs : flat.inputs ≡ inputs_of w.vars ports
  pub outputs : flat.outputs ≡ outputs_of w.vars ports

-- Nothing refuses any spot, and no limit is passed.
pub record IsCalm (w : Source) : Type 0 where
  pub spots : List FlatSpot
  pub weights : List Weight
  pub whole : AreSpots w.vars w.vs spots true
  pub calm : AllByRecursion (NoRule w) spots
  pub weigh : HaveWeights w spots weights
  pub within : PassesNone weights

-- The flat source of the design of some files.
pub record IsFlatSource (files : Files) (top clock : List ℕ) (flat : FlatSource) : Type 0 where
  pub w : Source
  pub source : IsSource files top clock w
  pub calm : IsCalm w
  pub flat_of : IsFlatOf w source.walk.top_module.ports flat

-- ---- why there is none

-- Something refuses the source at a spot: a rule, or a limit that is passed with it.
pub data IsSomeFlatRefusal (w : Source) : FlatFault → Type 0 where
  by_rule : (before after : List FlatSpot) (at : FlatSpot) {whole : Bool} (rule : FlatRule)
      → AreSpots w.vars w.vs (before ++ at ∷ after) whole → RefusesSpot w at rule → IsSomeFlatRefusal w (flat_fault (place_of_spot at) rule)
  by_limit : (before after : List FlatSpot) (ns : List Weight) {name : LimitName} {whole : Bool}
      → AreSpots w.vars w.vs (before ++ after) whole → HaveWeights w before ns → PassesLimit ns name → IsSomeFlatRefusal w (fault.Limit name)

-- Nothing refuses the spots before one: no rule, and they pass no limit.
pub record AreCalm (w : Source) (before : List FlatSpot) (ns : List Weight) : Type 0 where
  pub calm : AllByRecursion (NoRule w) before
  pub weigh : HaveWeights w before ns
  pub within : PassesNone ns

-- The fault is that of the first spot that has one: its first rule, or where there is none the limit that it passes.
pub data IsFirstFlatRefusal (w : Source) : FlatFault → Type 0 where
  first_rule : (before after : List FlatSpot) (at : FlatSpot) {ns : List Weight} {whole : Bool} (rule : FlatRule)
      → AreSpots w.vars w.vs (before ++ at ∷ after) whole → AreCalm w before ns → IsFirstRule w at rule
      → IsFirstFlatRefusal w (flat_fault (place_of_spot at) rule)
  first_limit : (before after : List FlatSpot) (at : FlatSpot) (ns ms : List Weight) {name : LimitName} {whole : Bool}
      → AreSpots w.vars w.vs (before ++ at ∷ after) whole → AreCalm w before ns → NoRule w at
      → HaveWeights w (before ++ at ∷ []) ms → IsFirstPassed ms name → IsFirstFlatRefusal w (fault.Limit name)

-- Files are refused with this fault.
abbrev pub IsFlatFault : (Source → FlatFault → Type 0) → Files → List ℕ → List ℕ → FlatFault → Type 0
IsFlatFault refused files top clock found = (w : Source) × IsSource files top clock w × refused w found

-- What flattening gives: the flat source, or the first fault; want of memory aside.
abbrev pub GivesFlat : Files → List ℕ → List ℕ → Result FlatSource FlatFault → Type 0
GivesFlat files top clock (Ok flat) = IsFlatSource files top clock flat
GivesFlat files top clock (Err fault.NoMemory) = Unit {0}
GivesFlat files top clock (Err found) = IsFlatFault IsFirstFlatRefusal files top clock found

-- ---- laws

-- What is refused somewhere has no flat source.
abbrev pub FlatExcludesFault : Type 0
FlatExcludesFault = (files : Files) (top clock : List ℕ) (flat : FlatSource) (found : FlatFault)
    → IsFlatSource files top clock flat → IsFlatFault IsSomeFlatRefusal files top clock found → ⊥

-- Files have one circuit at most.
abbrev pub OneCircuit : Type 0
OneCircuit = (files : Files) (top clock : List ℕ) (c d : Circuit Event) → IsCircuitOf files top clock c → IsCircuitOf files top clock d → c ≡ d

-- The circuit of a flat source is that of its files.
abbrev pub FlatHasTheCircuit : Type 0
FlatHasTheCircuit = (files : Files) (top clock : List ℕ) (flat : FlatSource) → IsFlatSource files top clock flat
    → IsCircuitOf files top clock (circuit_of flat)

-- Processes have one list of copies of arms.
abbrev pub OneListOfCopies : Type 0
OneListOfCopies = (k : ℕ) (ps : List Process) (xs ys : List Numbered) → HaveArms k ps xs → HaveArms k ps ys → xs ≡ ys

-- There is one first fault.
abbrev pub OneFirstFlatFault : Type 0
OneFirstFlatFault = (files : Files) (top clock : List ℕ) (found other : FlatFault)
    → IsFlatFault IsFirstFlatRefusal files top clock found → IsFlatFault IsFirstFlatRefusal files top clock other → found ≡ other
