-- What connections hand down: names of clock signals, if they are any.
use Rattle.std.specs.Prelude.{◌≡◌, ◌↔◌, ℕ, ◌==◌, ◌&&◌, Bool, true, false, if◌then◌else◌, List, [], ◌∷◌, Option, Some, None, is_some}
use Rattle.std.specs.List.{filter_map, list_any}
use Rattle.std.specs.Str.{bytes_eq}
use Rattle.vlog_tree.specs.declared.expression.Expr.{Expr, out-Expr}
use Rattle.vlog_tree.specs.declared.module.Port.{Port}
use Rattle.scope_meaning.specs.Overrides.{pairs}
use Rattle.scope_meaning.specs.Visits.{Visits}
use Rattle.flat_source_meaning.specs.Clocks.{IsClock, port_names}
use Rattle.flat_source_meaning.specs.Joins.{is_input_kind, lone_name}
use Rattle.name_table.specs.declared.table.NameTable.{NameTable}
use Rattle.name_table.specs.Tables.{value_of}
use Rattle.scope_table.specs.declared.table.ScopeTable.{ScopeTable}
use Rattle.flat_scopes.specs.declared.place.PlaceInScope.{PlaceInScope}
use Rattle.flat_scopes.specs.declared.scope.NameMeaning.{NameMeaning}
use Rattle.flat_scopes.specs.declared.scope.NameMeaning.TheVariants as means
use Rattle.flat_scopes.specs.declared.scope.SeenScope.{SeenScope}
use Rattle.flat_scopes.specs.Meanings.{meaning_by}
use Rattle.flat_spots.specs.declared.spot.Spot.{Spot}
use Rattle.flat_spots.specs.declared.spot.Spot.TheVariants as spot
use Rattle.flat_reach.specs.declared.reach.Handing.{Handing}
use Rattle.flat_reach.specs.Reach.{has}

-- a port is an input of this name
abbrev pub is_input_named : List ℕ → Port → Bool
is_input_named name p = is_input_kind p.kind && bytes_eq name p.name

-- the table has the names of the inputs
abbrev pub AreInputs : List Port → NameTable Unit → Type 0
AreInputs ports table = (q : List ℕ) → is_some (value_of table q) ≡ list_any (is_input_named q) ports

-- a variable is handed down by its name to a port of the scope that is made
abbrev pub handed_from : ℕ → List ℕ → List ℕ → Option NameMeaning → Option Handing
handed_from makes port name (Some (means.Variable s k)) = Some (record { from = s; name = name; to = makes; port = port })
handed_from makes port name _ = None

-- by an expression that is a name alone, looked up at a place
abbrev pub handed_by : List SeenScope → PlaceInScope → ℕ → List ℕ → Option (List ℕ) → Option Handing
handed_by scopes at makes port (Some name) = handed_from makes port name (meaning_by scopes at name)
handed_by scopes at makes port None = None

-- by a connection to an input
abbrev pub handing_of : List SeenScope → PlaceInScope → ℕ → List Port → List ℕ × Expr → Option Handing
handing_of scopes at makes ports pair =
    if list_any (is_input_named pair.0) ports then handed_by scopes at makes pair.0 (lone_name (out-Expr pair.1)) else None

-- by all connections of an instance
abbrev pub handings_at : List SeenScope → Spot → List Handing
handings_at scopes (spot.Instance at place makes of ports) =
    filter_map (handing_of scopes at makes of.now.ports) (pairs (port_names of.now.ports) ports.now)
handings_at scopes _ = []

-- the top's input of the clock's name
abbrev pub is_top_clock : List ℕ → Spot → Bool
is_top_clock clock (spot.Port at port) = (at.scope == 0) && is_input_named clock port.now
is_top_clock clock _ = false

-- the name of the clock, where the top has that input
abbrev pub first_clock : List ℕ → List Spot → Option (List ℕ)
first_clock clock spots = if list_any (is_top_clock clock) spots then Some clock else None

-- The table has the clock signals of a walk, and nothing else.
abbrev pub AreClocks : Visits → List ℕ → ScopeTable Unit → Type 0
AreClocks vs clock table = (s : ℕ) (n : List ℕ) → (has table s n ≡ true) ↔ IsClock vs clock s n
