-- What the instances of an item have in common.
use Rattle.std.specs.Prelude.{◌≡◌, ℕ}
use Rattle.std.specs.Borrow.{Bor}
use Rattle.std.specs.Global.{Box}
use Rattle.vlog_tree.specs.declared.item.Conns.{Conns}
use Rattle.vlog_tree.specs.declared.module.Module.{Module}
use Rattle.walk_state.specs.declared.left.MadeBy.{MadeBy}

-- They are made by an item of a number, of a module with its number, with these values for its parameters.
pub record IsMadeBy (item number : ℕ) (m : Module) (params : Bor Conns) (by : Box MadeBy) : Type 0 where
  pub its_item : by.value.item ≡ item
  pub its_number : by.value.number ≡ number
  pub its_module : by.value.of.now ≡ m
  pub its_params : by.value.params ≡ params
