-- The names and expressions that stand at a spot of a flat source.
use Rattle.std.specs.Prelude.{ℕ, List, [], ◌∷◌, ◌++◌, map, Option, Some, None}
use Rattle.std.specs.List.{flat_map, filter_map}
use Rattle.vlog_tree.specs.declared.expression.Expr.{Expr}
use Rattle.vlog_tree.specs.declared.item.ItemKind.TheOpen as i
use Rattle.vlog_tree.specs.declared.module.Port.{Port}
use Rattle.vlog_tree.specs.declared.module.Module.{Module}
use Rattle.vlog_tree.specs.Trees.{Layer, layer, stmt_layer}
use Rattle.flat_source_meaning.specs.Environments.{Inside, outside_loops}
use Rattle.flat_source_meaning.specs.Names.{names_in}
use Rattle.flat_source_meaning.specs.Targets.{target_names}
use Rattle.flat_source_meaning.specs.Joins.{joins_of, handed_name, joined_expressions, output_targets}
use Rattle.flat_source_meaning.specs.Variables.{Source}
use Rattle.flat_source_meaning.specs.ProcessLoops.{ProcessLoop, process_loops}
use Rattle.flat_source_meaning.specs.FlatSpots.{FlatSpot, at_item, at_copy, Read, head_reads, read_by, written_by}

-- a name and where it is looked up
abbrev pub Use : Type 0
Use = Inside × List ℕ

-- the names that a function finds in expressions
abbrev pub in_all : (Expr → List (List ℕ)) → List Read → List Use
in_all f reads = flat_map (λ r. map (λ n. (r.0, n)) (f r.1)) reads

-- the values of an item that aren't connections
abbrev pub item_reads : Layer → List Expr
item_reads (i.Wire signed range names) = filter_map (λ w. w.value) names
item_reads (i.Assign parts) = map (λ a. a.value) parts
item_reads (i.Cover word label clock test) = test ∷ []
item_reads _ = []

-- the targets of an item: of its assignments, and of its connections to outputs
abbrev pub item_targets : List Module → Layer → List Expr
item_targets design (i.Assign parts) = map (λ a. a.target) parts
item_targets design a = output_targets design a

-- what is read at a spot, connections apart
abbrev pub reads : Source → FlatSpot → List Read
reads w (at_item here at a) = map (λ e. (outside_loops w.vars here at, e)) (item_reads (layer a))
reads w (at_copy k c) = map (λ e. (c.inside, e)) (read_by (stmt_layer c.stmt))
reads w _ = []

-- the expressions in connections
abbrev pub connections : Source → FlatSpot → List Read
connections w (at_item here at a) = map (λ e. (outside_loops w.vars here at, e)) (joined_expressions (layer a))
connections w _ = []

-- what is written
abbrev pub targets : Source → FlatSpot → List Read
targets w (at_item here at a) = map (λ e. (outside_loops w.vars here at, e)) (item_targets w.design (layer a))
targets w (at_copy k c) = map (λ e. (c.inside, e)) (written_by (stmt_layer c.stmt))
targets w _ = []

-- the loops, each where it stands
abbrev pub loop_heads : FlatSpot → List (Inside × ProcessLoop)
loop_heads (at_copy k c) = map (λ l. (c.inside, l)) (process_loops (stmt_layer c.stmt))
loop_heads _ = []

-- all expressions of loop heads
abbrev pub in_heads : FlatSpot → List Read
in_heads spot = flat_map (λ h. head_reads h.0 h.1) (loop_heads spot)

-- the names that a loop head names as its variable
abbrev pub head_names : FlatSpot → List Use
head_names spot = flat_map (λ h. (h.0, h.1.name) ∷ (h.0, h.1.step_name) ∷ []) (loop_heads spot)

-- the names behind `posedge`
abbrev pub clock_of : Layer → List (List ℕ)
clock_of (i.Always (Some clock) body) = clock ∷ []
clock_of (i.Cover word label clock test) = clock ∷ []
clock_of _ = []

-- those names at a spot
abbrev pub clock_uses : Source → FlatSpot → List Use
clock_uses w (at_item here at a) = map (λ n. (outside_loops w.vars here at, n)) (clock_of (layer a))
clock_uses w _ = []

-- the inputs that are connected by a name alone, and that name
abbrev pub handed : Source → FlatSpot → List (Port × Use)
handed w (at_item here at a) = map (λ x. (x.0, (outside_loops w.vars here at, x.1))) (filter_map handed_name (joins_of w.design (layer a)))
handed w _ = []

-- an expression, unless it is such a name
abbrev pub unless_handed : Option (Port × List ℕ) → Expr → Option Expr
unless_handed (Some n) e = None
unless_handed None e = Some e

-- what of the connections isn't an input connected by a name alone
abbrev pub other_connections : Source → FlatSpot → List Read
other_connections w (at_item here at a) =
    map (λ e. (outside_loops w.vars here at, e)) (filter_map (λ j. unless_handed (handed_name j) j.expr) (joins_of w.design (layer a)))
other_connections w _ = []

-- ---- names at a spot

-- the names that are written
abbrev pub written : Source → FlatSpot → List Use
written w spot = in_all target_names (targets w spot)

-- the names that are read, those in positions of targets among them
abbrev pub read_names : Source → FlatSpot → List Use
read_names w spot = in_all names_in (reads w spot ++ connections w spot ++ targets w spot ++ in_heads spot)

-- all names
abbrev pub all_names : Source → FlatSpot → List Use
all_names w spot = read_names w spot ++ head_names spot ++ clock_uses w spot

-- the names that may be no clock signal: all but those behind `posedge` and those of inputs connected by a name alone
abbrev pub apart_from_clocks : Source → FlatSpot → List Use
apart_from_clocks w spot =
    in_all names_in (reads w spot ++ other_connections w spot ++ targets w spot ++ in_heads spot) ++ head_names spot
