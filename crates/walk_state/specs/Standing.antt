-- When the code's state is that of a walk.
use Rattle.std.specs.Prelude.{◌≡◌, ℕ, true, false, List, [], ◌∷◌, ◌++◌, map, Some, None, ℤ}
use Rattle.std.specs.Borrow.{Bor}
use Rattle.std.specs.Global.{Vec, Box}
use Rattle.vlog_tree.specs.declared.item.Item.{Item}
use Rattle.vlog_tree.specs.declared.item.Instance.{Instance}
use Rattle.vlog_tree.specs.declared.module.Port.{Port}
use Rattle.vlog_tree.specs.declared.module.Module.{Module}
use Rattle.vlog_tree.specs.Trees.{item_place, layer}
use Rattle.scope_meaning.specs.Constants.{Constant}
use Rattle.scope_meaning.specs.Declared.{is_in}
use Rattle.scope_meaning.specs.Scope.{Here, At, frames}
use Rattle.scope_meaning.specs.Overrides.{givens}
use Rattle.scope_meaning.specs.Heads.{GenLoop, module_named, names_here}
use Rattle.scope_meaning.specs.Visits.{Visits, sees, an_item, has_row, has_constant, past, with_next, body_scope}
use Rattle.scope_meaning.specs.Walk.{IsWalked}
use Rattle.scope_meaning.specs.Standing.{standing}
use Rattle.scope_meaning.specs.ScopeRules.{refusal_at}
use Rattle.elab_overrides.specs.Given.{AreGiven}
use Rattle.elab_overrides.specs.Overrides.{AreAmong}
use Rattle.elab_modules.specs.Above.{AreAbove}
use Rattle.elab_names.specs.declared.scope_names.ScopeNames.{ScopeNames}
use Rattle.elab_names.specs.Frames.{AreFrames}
use Rattle.walk_laws.specs.Rest.{Task, a_header, some_ports, some_items, a_turn_of, a_step_of, some_instances, an_end}
use Rattle.walk_laws.specs.Stands.{Stands}
use Rattle.walk_state.specs.declared.left.LoopPasses.{LoopPasses}
use Rattle.walk_state.specs.declared.left.MadeBy.{MadeBy}
use Rattle.walk_state.specs.declared.left.Left.{Left}
use Rattle.walk_state.specs.declared.left.Left.TheVariants as left
use Rattle.walk_state.specs.declared.place.ScopePlace.{ScopePlace}
use Rattle.walk_state.specs.declared.walk.Walk.{Walk}
use Rattle.walk_state.specs.Records.{AreRecorded}

-- it is a place in a scope
pub record IsAt (here : Here) (at : At) (p : ScopePlace) : Type 0 where
  pub number : p.number ≡ here.number
  pub path : p.path ≡ here.path
  pub its_module : p.in_module ≡ here.module_number
  pub home : p.home ≡ here.home
  pub given : AreGiven here.given p.given
  pub earlier : AreAmong at.earlier p.earlier
  pub item : p.item ≡ at.item
  pub construct : p.construct ≡ at.construct

-- a loop that is walked is that of an item at a place
pub record IsLoop (place : At) (a : Item) (l : GenLoop) (p : LoopPasses) : Type 0 where
  pub first : p.place ≡ item_place a
  pub item : p.item ≡ place.item
  pub name : p.name.now ≡ l.name
  pub test : p.test.now ≡ l.test
  pub step : p.step.now ≡ l.step
  pub block : p.block.now ≡ l.block.name
  pub body : p.body.now ≡ l.body

mutual
  -- What is left is these tasks, where nothing of an item is begun in the scope: items of it, and behind it the scopes around.
  pub data AreBelow (design : List Module) : Here → List Left → List Task → Type 0 where
    nothing : {here : Here} → AreBelow design here [] []
    items : {here : Here} {its : Bor (List Item)} {under : List Left} {tasks : List Task}
        → AreBelow design here under tasks → AreBelow design here (left.Items its ∷ under) (some_items here its.now ∷ tasks)
    in_block : {here outer : Here} {place : At} {around : ScopePlace} {under : List Left} {tasks : List Task}
        → IsAt outer place around → here.outer ≡ frames outer place → here.above ≡ outer.above → AreLeft design outer place under tasks
        → AreBelow design here (left.EndOfBlock around ∷ under) (an_end place ∷ tasks)
    in_module : {here outer : Here} {place : At} {around : ScopePlace} {names : Vec ScopeNames} {number : ℕ} {m : Module} {under : List Left}
        {tasks : List Task}
        → IsAt outer place around → AreFrames (frames outer place) names.items → here.above ≡ outer.above ++ m.name ∷ []
        → module_named design m.name ≡ Some (number, m) → is_in m.name outer.above ≡ false → AreLeft design outer place under tasks
        → AreBelow design here (left.EndOfModule around names number ∷ under) (an_end place ∷ tasks)

  -- What is left in a scope at a place is these tasks, the first of which may belong to an item that is begun.
  pub data AreLeft (design : List Module) : Here → At → List Left → List Task → Type 0 where
    below : {here : Here} {at : At} {under : List Left} {tasks : List Task} → AreBelow design here under tasks → AreLeft design here at under tasks
    header : {here : Here} {at : At} {m : Bor Module} {its : Bor (List Item)} {under : List Left} {tasks : List Task}
        → AreBelow design (body_scope here m.now) under tasks → AreLeft design here at (left.Header m its ∷ under) (a_header here m.now its.now ∷ tasks)
    ports : {here : Here} {at : At} {m : Bor Module} {its : Bor (List Port)} {under : List Left} {tasks : List Task}
        → AreBelow design (body_scope here m.now) under tasks → AreLeft design here at (left.Ports m its ∷ under) (some_ports here m.now its.now ∷ tasks)
    turn : {here : Here} {place : At} {a : Item} {l : GenLoop} {p : Box LoopPasses} {n : ℤ} {under : List Left} {tasks : List Task}
        → IsLoop place a l p.value → AreBelow design here under tasks
        → AreLeft design here (past place a []) (left.Turn p n ∷ under) (a_turn_of here place a l n ∷ tasks)
    step : {here : Here} {place : At} {a : Item} {l : GenLoop} {p : Box LoopPasses} {n : ℤ} {under : List Left} {tasks : List Task}
        → IsLoop place a l p.value → AreBelow design here under tasks
        → AreLeft design here (past place a []) (left.Step p n ∷ under) (a_step_of here place a l n ∷ tasks)
    instances : {here : Here} {place : At} {a : Item} {by : Box MadeBy} {made : Bor (List Instance)} {under : List Left} {tasks : List Task}
        → by.value.item ≡ place.item → module_named design by.value.of.now.name ≡ Some (by.value.number, by.value.of.now)
        → is_in by.value.of.now.name here.above ≡ false
        → AreBelow design here under tasks
        → AreLeft design here (past place a []) (left.Instances by made ∷ under)
        (some_instances here place a by.value.number by.value.of.now (givens (names_here here place) by.value.of.now by.value.params.now) made.now ∷ tasks)

-- The code's state is that of a walk that has come to these visits, and has these tasks left at a place of a scope.
pub record IsStanding (design : List Module) (top : List ℕ) (done : Visits) (here : Here) (place : At) (tasks : List Task) (w : Walk) : Type 0 where
  pub stands : Stands design top done tasks (with_next place w.next)
  pub scope : IsAt here place w.here
  pub names : AreFrames (frames here place) w.names.items
  pub above : AreAbove design here.above w.above
  pub left : AreLeft design here place w.left tasks
  pub records : AreRecorded done w.records

-- At some place of it.
pub record IsOnWay (design : List Module) (top : List ℕ) (w : Walk) : Type 0 where
  pub done : Visits
  pub here : Here
  pub place : At
  pub tasks : List Task
  pub standing : IsStanding design top done here place tasks w

-- It is that of a walk at an item, or at a place that belongs to one: the walk is at one place and has these tasks left, and
-- the code has come to another place of the scope, where these are left under what it does now.
pub record IsMidway (design : List Module) (top : List ℕ) (done : Visits) (here : Here) (place by : At) (tasks under : List Task) (w : Walk) : Type 0 where
  pub stands : Stands design top done tasks (with_next place w.next)
  pub scope : IsAt here by w.here
  pub names : AreFrames (frames here by) w.names.items
  pub above : AreAbove design here.above w.above
  pub left : AreBelow design here w.left under
  pub records : AreRecorded done w.records

-- An item is seen at a place, has one row and declares these constants.
abbrev pub IsOneRow : List Module → Here → At → Item → List Constant → Type 0
IsOneRow design here at a cs =
    IsWalked design here at a (layer a) (sees (an_item here at a) ∷ has_row here.number at.item None ∷ map (has_constant here.number) cs) (past at a cs) true

-- Nothing refuses an item at a place.
abbrev pub IsTaken : List Module → Here → At → Item → Type 0
IsTaken design here at a = refusal_at design (standing (an_item here at a)) ≡ None
