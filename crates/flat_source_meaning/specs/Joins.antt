-- The connections of instances (IEEE 1364-2005, 12.3 ports and port connection rules).
use Rattle.std.specs.Prelude.{ℕ, ◌&&◌, Bool, true, false, not, if◌then◌else◌, List, [], map, Option, Some, None}
use Rattle.std.specs.List.{flat_map, filter, filter_map, find, list_any}
use Rattle.std.specs.Str.{bytes_eq}
use Rattle.vlog_tree.specs.declared.expression.Expr.{Expr, Expr-F, out-Expr}
use Rattle.vlog_tree.specs.declared.expression.Expr.TheOpen as e
use Rattle.vlog_tree.specs.declared.expression.Select.{Select}
use Rattle.vlog_tree.specs.declared.item.Conns.{Conns}
use Rattle.vlog_tree.specs.declared.item.ItemKind.TheOpen as i
use Rattle.vlog_tree.specs.declared.module.Port.{Port}
use Rattle.vlog_tree.specs.declared.module.PortKind.{PortKind}
use Rattle.vlog_tree.specs.declared.module.PortKind.TheVariants as port
use Rattle.vlog_tree.specs.declared.module.Module.{Module}
use Rattle.scope_meaning.specs.Constants.{option_of}
use Rattle.scope_meaning.specs.Overrides.{pairs, are_bad, expressions}
use Rattle.scope_meaning.specs.Heads.{module_named}
use Rattle.vlog_tree.specs.Trees.{Layer}
use Rattle.flat_source_meaning.specs.Targets.{is_target}
use Rattle.flat_source_meaning.specs.Clocks.{port_names}

-- a port and the expression that it is connected to
pub record Join : Type 0 where
  pub port : Port
  pub expr : Expr

-- what a port is connected to, if it is
abbrev pub join_at : List (List ℕ × Expr) → Port → Option Join
join_at all p = option_of (λ x. record { port = p; expr = x.1 }) (find (λ x. bytes_eq p.name x.0) all)

-- the connections of an instance in the order of the ports; those left open are none
abbrev pub joins : Module → Conns → List Join
joins m all = filter_map (join_at (pairs (port_names m.ports) all)) m.ports

-- the direction of a port
abbrev pub is_input_kind : PortKind → Bool
is_input_kind port.Input = true
is_input_kind _ = false

-- a connection to an input
abbrev pub is_input : Join → Bool
is_input j = is_input_kind j.port.kind

-- an expression that is a name alone
abbrev pub lone_name : Expr-F Expr Select → Option (List ℕ)
lone_name (e.Name name) = Some name
lone_name _ = None

-- an input that is connected by a name alone
abbrev pub handed_name : Join → Option (Port × List ℕ)
handed_name j = if is_input j then option_of (λ n. (j.port, n)) (lone_name (out-Expr j.expr)) else None

-- ---- of an item with instances, all of which have one module

-- what a module has, if one is named
abbrev pub of_module : {A : Type 0} → Option (ℕ × Module) → (Module → List A) → List A
of_module (Some m) f = f m.1
of_module None f = []

-- all connections of an item with instances
abbrev pub joins_of : List Module → Layer → List Join
joins_of design (i.Instances of params made) = of_module (module_named design of) (λ m. flat_map (λ x. joins m x.ports) made)
joins_of design _ = []

-- all expressions that stand in connections, those that name no port among them
abbrev pub joined_expressions : Layer → List Expr
joined_expressions (i.Instances of params made) = flat_map (λ x. expressions x.ports) made
joined_expressions _ = []

-- the targets that outputs are connected to
abbrev pub output_targets : List Module → Layer → List Expr
output_targets design a = map (λ j. j.expr) (filter (λ j. not (is_input j) && is_target j.expr) (joins_of design a))

-- a module is named, and bad
abbrev pub any_bad : Option (ℕ × Module) → (Module → Bool) → Bool
any_bad (Some m) bad = bad m.1
any_bad None bad = false

-- a connection names no port or one twice, or there are more than ports
abbrev pub has_bad_names : List Module → Layer → Bool
has_bad_names design (i.Instances of params made) = any_bad (module_named design of) (λ m. list_any (λ x. are_bad (port_names m.ports) x.ports) made)
has_bad_names design _ = false

-- an output is connected to no target
abbrev pub has_bad_join : List Module → Layer → Bool
has_bad_join design a = list_any (λ j. not (is_input j) && not (is_target j.expr)) (joins_of design a)
