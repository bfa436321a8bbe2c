-- What the limits of a flat source count, spot by spot (docs/formats.md, "Limits").
use Rattle.std.specs.Prelude.{◌≡◌, ◌<◌, ◌+◌, ◌*◌, ℕ, Bool, true, false, List, [], map, length}
use Rattle.std.specs.List.{filter_map, AllZip}
use Rattle.cov_types.specs.declared.limit.LimitName.{LimitName}
use Rattle.cov_types.specs.declared.limit.LimitName.TheVariants as limit
use Rattle.vlog_tree.specs.declared.item.ItemKind.TheOpen as i
use Rattle.elab_types.specs.declared.flat_source.FlatVar.{FlatVar}
use Rattle.circuit_run.specs.Lists.{total}
use Rattle.vlog_tree.specs.Trees.{Layer, layer}
use Rattle.scope_meaning.specs.Visits.{sees, a_port, an_item}
use Rattle.flat_source_meaning.specs.Variables.{Source, variables_at, IsKept}
use Rattle.flat_source_meaning.specs.Joins.{Join, joins}
use Rattle.flat_source_meaning.specs.Clocks.{Keeps}
use Rattle.flat_source_meaning.specs.Processes.{IsJoined}
use Rattle.flat_source_meaning.specs.FlatSpots.{FlatSpot, at_port, at_item, at_instance, at_copy}

-- statements, processes, bits of variables
pub record Weight : Type 0 where
  pub statements : ℕ
  pub processes : ℕ
  pub bits : ℕ

-- the assignments and covers of an item: each is a process and a statement
abbrev pub simple_count : Layer → ℕ
simple_count (i.Wire signed range names) = length (filter_map (λ w. w.value) names)
simple_count (i.Assign parts) = length parts
simple_count (i.Cover word label clock test) = 1
simple_count _ = 0

-- an `always` or `initial` is a process, its statements are counted copy by copy
abbrev pub body_count : Layer → ℕ
body_count (i.Initial body) = 1
body_count (i.Always clock body) = 1
body_count _ = 0

-- the bits of variables, over all words
abbrev pub bits_of : List FlatVar → ℕ
bits_of vars = total (map (λ x. x.width * x.words) vars)

-- the variables declared at a spot
abbrev pub declared_at : FlatSpot → List FlatVar
declared_at (at_port here at p) = variables_at (sees (a_port here at p))
declared_at (at_item here at a) = variables_at (sees (an_item here at a))
declared_at _ = []

-- the connections at a spot
abbrev pub joins_at : FlatSpot → List Join
joins_at (at_instance m) = joins m.of m.ports
joins_at _ = []

-- a connection at a spot is a process
abbrev pub IsJoinedAt : Source → FlatSpot → Join → Type 0
IsJoinedAt w (at_instance m) j = IsJoined w m j
IsJoinedAt w spot j = ⊥

-- the statements of a spot, connections apart
abbrev pub own_statements : FlatSpot → ℕ
own_statements (at_item here at a) = simple_count (layer a)
own_statements (at_copy k c) = 1
own_statements _ = 0

-- the processes of a spot, connections apart
abbrev pub own_processes : FlatSpot → ℕ
own_processes (at_item here at a) = simple_count (layer a) + body_count (layer a)
own_processes _ = 0

-- what a spot adds: of its variables and connections those that are kept
pub record HasWeight (w : Source) (spot : FlatSpot) (n : Weight) : Type 0 where
  pub vars : List FlatVar
  pub joined : List Join
  pub kept : Keeps (IsKept w.vs w.clock) (declared_at spot) vars
  pub connected : Keeps (IsJoinedAt w spot) (joins_at spot) joined
  pub statements : n.statements ≡ own_statements spot + length joined
  pub processes : n.processes ≡ own_processes spot + length joined
  pub bits : n.bits ≡ bits_of vars

-- a limit is passed by what the spots so far add together; at one spot statements come before processes and bits
pub data PassesLimit (ns : List Weight) : LimitName → Type 0 where
  statements : 1048576 < total (map (λ n. n.statements) ns) → PassesLimit ns limit.Statements
  processes : 65536 < total (map (λ n. n.processes) ns) → PassesLimit ns limit.Processes
  state_bits : 16777216 < total (map (λ n. n.bits) ns) → PassesLimit ns limit.StateBits

-- the order of the limits
abbrev pub is_before : LimitName → LimitName → Bool
is_before limit.Statements limit.Processes = true
is_before limit.Statements limit.StateBits = true
is_before limit.Processes limit.StateBits = true
is_before _ _ = false

-- This limit is passed, and none before it.
abbrev pub IsFirstPassed : List Weight → LimitName → Type 0
IsFirstPassed ns name = PassesLimit ns name × ((other : LimitName) → is_before other name ≡ true → PassesLimit ns other → ⊥)

-- No limit is passed.
abbrev pub PassesNone : List Weight → Type 0
PassesNone ns = (name : LimitName) → PassesLimit ns name → ⊥

-- what each spot adds
abbrev pub HaveWeights : Source → List FlatSpot → List Weight → Type 0
HaveWeights w = AllZip (HasWeight w)
