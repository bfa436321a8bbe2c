-- Where a walk stands at instances of an item.
use Rattle.std.specs.Prelude.{◌≡◌, ℕ, false, List, [], ◌∷◌, Some}
use Rattle.vlog_tree.specs.declared.item.Instance.{Instance}
use Rattle.vlog_tree.specs.declared.item.Item.{Item}
use Rattle.vlog_tree.specs.declared.module.Module.{Module}
use Rattle.scope_meaning.specs.Declared.{is_in}
use Rattle.scope_meaning.specs.Heads.{module_named, names_here}
use Rattle.scope_meaning.specs.Overrides.{givens}
use Rattle.scope_meaning.specs.Scope.{Here, At}
use Rattle.scope_meaning.specs.Visits.{Visits, past}
use Rattle.walk_laws.specs.Rest.{Task, some_instances}
use Rattle.walk_state.specs.declared.left.MadeBy.{MadeBy}
use Rattle.walk_state.specs.declared.walk.Walk.{Walk}
use Rattle.walk_state.specs.Standing.{IsMidway}

-- These instances of an item are left first, whose module is no module that they stand in.
pub record IsMaking (design : List Module) (top : List ℕ) (done : Visits) (here : Here) (by : MadeBy) (made : List Instance) (w : Walk) : Type 0 where
  pub place : At
  pub a : Item
  pub under : List Task
  pub item : by.item ≡ place.item
  pub found : module_named design by.of.now.name ≡ Some (by.number, by.of.now)
  pub fresh : is_in by.of.now.name here.above ≡ false
  pub midway : IsMidway design top done here (past place a []) (past place a [])
      (some_instances here place a by.number by.of.now (givens (names_here here place) by.of.now by.params.now) made ∷ under) under w
