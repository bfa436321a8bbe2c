-- The rules of a flat source in their order, and which refuses first (docs/formats.md, "Refusals of a design").
use Rattle.std.specs.Prelude.{◌≡◌, ◌⊎◌, ◌<◌, ◌++◌, ℕ, Bool, true, false, ◌||◌, ◌&&◌, List, [], ◌∷◌, Contains}
use Rattle.cov_types.specs.declared.place.Place.{Place}
use Rattle.elab_types.specs.declared.flat_fault.FlatFault.{FlatFault}
use Rattle.elab_types.specs.declared.flat_fault.FlatFault.TheVariants as fault
use Rattle.vlog_tree.specs.Trees.{layer}
use Rattle.flat_source_meaning.specs.Environments.{Inside}
use Rattle.flat_source_meaning.specs.FixedParts.{has_constants}
use Rattle.flat_source_meaning.specs.Joins.{has_bad_names, has_bad_join}
use Rattle.flat_source_meaning.specs.ProcessLoops.{ProcessLoop, turns_too_often, lacks_constant}
use Rattle.vlog_tree.specs.Trees.{stmt_layer, item_place, first_token}
use Rattle.flat_source_meaning.specs.FlatSpots.{FlatSpot, at_port, at_item, at_instance, at_copy, Read}
use Rattle.flat_source_meaning.specs.Variables.{Source}
use Rattle.flat_source_meaning.specs.FlatNames.{Use, reads, other_connections, targets, loop_heads, written, all_names}
use Rattle.flat_source_meaning.specs.FlatRules.{meant, has_value, may_write, IsBadClock, IsBadLoop, is_bad_format, shows_or_ends}
use Rattle.circuit_run.specs.Kinds.{is_comb}

-- the rules, in their order
pub data FlatRule : Type 0 where
  unknown_name bad_target bad_port bad_clock loop_variable loop_bound bad_format not_in_process not_constant : FlatRule

abbrev pub rules : List FlatRule
rules = unknown_name ∷ bad_target ∷ bad_port ∷ bad_clock ∷ loop_variable ∷ loop_bound ∷ bad_format ∷ not_in_process ∷ not_constant ∷ []

-- the place of a rule among them
abbrev pub rank : FlatRule → ℕ
rank unknown_name = 0
rank bad_target = 1
rank bad_port = 2
rank bad_clock = 3
rank loop_variable = 4
rank loop_bound = 5
rank bad_format = 6
rank not_in_process = 7
rank not_constant = 8

-- bad connections at an item with instances
abbrev pub is_bad_port : Source → FlatSpot → Bool
is_bad_port w (at_item here at a) = has_bad_names w.design (layer a) || has_bad_join w.design (layer a)
is_bad_port w _ = false

-- a bad `$display` at a copy of a statement
abbrev pub has_bad_format : FlatSpot → Bool
has_bad_format (at_copy k c) = is_bad_format (stmt_layer c.stmt)
has_bad_format _ = false

-- a statement that may not stand in a combinational process
abbrev pub is_out_of_place : FlatSpot → Bool
is_out_of_place (at_copy k c) = is_comb k && shows_or_ends (stmt_layer c.stmt)
is_out_of_place _ = false

-- an expression in which a part that has to be a constant isn't one, but for the heads of loops
abbrev pub LacksConstant : Source → FlatSpot → Type 0
LacksConstant w spot =
    (r : Read) × Contains (reads w spot ++ other_connections w spot ++ targets w spot) r × (has_constants r.0.env r.1 ≡ false)

-- the head of a loop lacks a constant
abbrev pub HasHeadWithout : FlatSpot → Type 0
HasHeadWithout spot = (inside : Inside) × (l : ProcessLoop) × Contains (loop_heads spot) (inside, l) × (lacks_constant inside.env l ≡ true)

-- when a rule refuses a spot
abbrev pub RefusesSpot : Source → FlatSpot → FlatRule → Type 0
-- A name there is no port, wire, reg, integer or constant that is visible.
RefusesSpot w spot unknown_name = (u : Use) × Contains (all_names w spot) u × (has_value (meant u) ≡ false)
-- A process writes anything but a reg or integer, an assignment or output connection anything but a wire; or an input is written.
RefusesSpot w spot bad_target = (u : Use) × Contains (written w spot) u × (may_write spot (meant u) ≡ false)
-- A connection names no port or one twice, there are more than ports, or an output is connected to no target.
RefusesSpot w spot bad_port = is_bad_port w spot ≡ true
-- `posedge` names no clock signal; a clock signal is used otherwise, has a range, or is connected to an input with a range.
RefusesSpot w spot bad_clock = IsBadClock w spot
-- The names of a loop aren't one integer, or an integer that is a loop variable is written outside heads, read outside
-- its loops, or used by a loop inside its own.
RefusesSpot w spot loop_variable = IsBadLoop w spot
-- A loop makes more than 65,536 passes.
RefusesSpot w spot loop_bound = (inside : Inside) × (l : ProcessLoop) × Contains (loop_heads spot) (inside, l) × (turns_too_often inside.env l ≡ true)
-- A format is none, or formats and values differ in number.
RefusesSpot w spot bad_format = has_bad_format spot ≡ true
-- `$display`, `$finish` or `$stop` stands in a combinational process.
RefusesSpot w spot not_in_process = is_out_of_place spot ≡ true
-- A constant is needed, in an expression or in the head of a loop, and there is none.
RefusesSpot w spot not_constant = LacksConstant w spot ⊎ HasHeadWithout spot

-- The rule is the first that refuses the spot.
abbrev pub IsFirstRule : Source → FlatSpot → FlatRule → Type 0
IsFirstRule w spot rule = RefusesSpot w spot rule × ((other : FlatRule) → rank other < rank rule → RefusesSpot w spot other → ⊥)

-- No rule refuses the spot.
abbrev pub NoRule : Source → FlatSpot → Type 0
NoRule w spot = (rule : FlatRule) → RefusesSpot w spot rule → ⊥

-- the place that is told: the first token of the port, item or statement
abbrev pub place_of_spot : FlatSpot → Place
place_of_spot (at_port here at p) = p.place
place_of_spot (at_item here at a) = item_place a
place_of_spot (at_instance m) = m.place
place_of_spot (at_copy k c) = first_token c.stmt

-- the fault of a rule at a place
abbrev pub flat_fault : Place → FlatRule → FlatFault
flat_fault p unknown_name = fault.UnknownName p
flat_fault p bad_target = fault.BadTarget p
flat_fault p bad_port = fault.BadPort p
flat_fault p bad_clock = fault.BadClock p
flat_fault p loop_variable = fault.LoopVariable p
flat_fault p loop_bound = fault.LoopBound p
flat_fault p bad_format = fault.BadFormat p
flat_fault p not_in_process = fault.NotInProcess p
flat_fault p not_constant = fault.NotConstant p
