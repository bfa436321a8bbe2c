-- The processes of a design in the order of the walk, as they stand in the text, each with what its names stand for
-- (IEEE 1364-2005, 6.1, 9.9, 12.3; IEEE 1800, cover).
use Rattle.std.specs.Prelude.{◌≡◌, ℕ, Bool, true, false, List, [], ◌∷◌, ◌++◌, map, Option, Some, None}
use Rattle.std.specs.List.{filter_map}
use Rattle.cov_types.specs.declared.place.Place.{Place}
use Rattle.vlog_tree.specs.declared.expression.Expr.{Expr}
use Rattle.vlog_tree.specs.declared.expression.Expr.TheVariants as e
use Rattle.vlog_tree.specs.declared.statement.Stmt.{Stmt}
use Rattle.vlog_tree.specs.declared.item.NamePlace.{NamePlace}
use Rattle.vlog_tree.specs.declared.item.WireName.{WireName}
use Rattle.vlog_tree.specs.declared.item.Item.{Item}
use Rattle.vlog_tree.specs.declared.item.ItemKind.TheOpen as i
use Rattle.vlog_tree.specs.Trees.{Layer, layer, item_place}
use Rattle.elab_types.specs.declared.flat_source.FlatVar.{FlatVar}
use Rattle.source_meaning.specs.Environment.{Environment}
use Rattle.scope_meaning.specs.Constants.{option_of}
use Rattle.scope_meaning.specs.Scope.{Here, At}
use Rattle.scope_meaning.specs.Visits.{Visits, Visit, sees, connects, an_item, Making}
use Rattle.flat_source_meaning.specs.Environments.{environment, ports_of}
use Rattle.flat_source_meaning.specs.Joins.{Join, joins, is_input}
use Rattle.flat_source_meaning.specs.Clocks.{IsClock, Keeps}
use Rattle.flat_source_meaning.specs.Variables.{Source}
use Rattle.cov_types.specs.declared.kind.ProcessKind.{ProcessKind}
use Rattle.cov_types.specs.declared.kind.ProcessKind.TheVariants as kind

-- A process: an `initial`; an `always`, combinational or with a clock; an assignment, the names of its target and those of
-- its value standing for something each; a cover, with the place of its item before that of the word `cover`.
pub data Process : Type 0 where
  initially : Environment → Place → Stmt → Process
  always : Option (List ℕ) → Environment → Place → Stmt → Process
  assigns : Environment → Environment → Place → Expr → Expr → Process
  covers : Environment → Place → Place → Option NamePlace → Expr → Process

-- an `always` without a clock is combinational
abbrev pub always_kind : Option (List ℕ) → ProcessKind
always_kind (Some clock) = kind.Clocked
always_kind None = kind.Comb

-- a wire that is declared with a value
abbrev pub wire_process : Environment → Place → WireName → Option Process
wire_process env p w = option_of (assigns env env p (e.Name w.name.name)) w.value

-- the processes of an item, which stand at its place
abbrev pub item_processes : Environment → Place → Layer → List Process
item_processes env p (i.Wire signed range names) = filter_map (wire_process env p) names
item_processes env p (i.Assign parts) = map (λ a. assigns env env p a.target a.value) parts
item_processes env p (i.Initial body) = initially env p body ∷ []
item_processes env p (i.Always clock body) = always clock env p body ∷ []
item_processes env p (i.Cover word label clock test) = covers env p word label test ∷ []
item_processes env p _ = []

-- a connection stands in the scope and at the place of the item of its instance: an input is assigned the expression, of an
-- output the expression is assigned
abbrev pub by_direction : Bool → Environment → Environment → Place → Expr → Expr → Process
by_direction true inner outer p port e = assigns inner outer p port e
by_direction false inner outer p port e = assigns outer inner p e port

abbrev pub connection : List FlatVar → Making → Join → Process
connection vars m j =
    by_direction (is_input j) (ports_of vars m.here.number m.makes) (environment vars m.here m.at) m.place (e.Name j.port.name) j.expr

-- a connection between clock signals is no process
abbrev pub IsJoined : Source → Making → Join → Type 0
IsJoined w m j = IsClock w.vs w.clock m.makes j.port.name → ⊥

-- a visit of another kind
abbrev pub has_none : Visit → Bool
has_none (sees (an_item here at a)) = false
has_none (connects m) = false
has_none _ = true

-- The processes that a visit has.
pub data HasProcesses (w : Source) : Visit → List Process → Type 0 where
  of_item : {here : Here} {at : At} {a : Item}
      → HasProcesses w (sees (an_item here at a)) (item_processes (environment w.vars here at) (item_place a) (layer a))
  of_instance : {m : Making} {js : List Join} → Keeps (IsJoined w m) (joins m.of m.ports) js
      → HasProcesses w (connects m) (map (connection w.vars m) js)
  of_other : {v : Visit} → has_none v ≡ true → HasProcesses w v []

-- the processes of some visits, in order
pub data AreProcesses (w : Source) : Visits → List Process → Type 0 where
  none : AreProcesses w [] []
  more : {v : Visit} {vs : Visits} {ps qs : List Process} → HasProcesses w v ps → AreProcesses w vs qs
      → AreProcesses w (v ∷ vs) (ps ++ qs)
