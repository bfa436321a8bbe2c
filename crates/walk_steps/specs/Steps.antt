-- What a step of the walk through a design gives.
use Rattle.std.specs.Prelude.{◌≡◌, ℕ, false, List, ◌∷◌, [], Result, Ok, Err}
use Rattle.vlog_tree.specs.declared.item.Item.{Item}
use Rattle.vlog_tree.specs.declared.module.Module.{Module}
use Rattle.elab_types.specs.declared.elab_fault.ElabFault.{ElabFault}
use Rattle.elab_types.specs.declared.elab_fault.ElabFault.TheVariants as fault
use Rattle.scope_meaning.specs.Declared.{names_of}
use Rattle.scope_meaning.specs.Scope.{Here, At}
use Rattle.scope_meaning.specs.Visits.{Visits, past}
use Rattle.scope_meaning.specs.ScopeTrees.{IsFirstRefusal}
use Rattle.elab_blocks.specs.Duplicates.{is_duplicate}
use Rattle.walk_laws.specs.Rest.{Task, some_items}
use Rattle.walk_state.specs.declared.walk.Walk.{Walk}
use Rattle.walk_state.specs.Standing.{IsOnWay, IsMidway}

-- The fault is the first refusal of the design, want of memory aside.
abbrev pub IsRefused : List Module → List ℕ → ElabFault → Type 0
IsRefused design top fault.NoMemory = Unit {0}
IsRefused design top f = IsFirstRefusal design top f

-- Behind a step the state is that of the walk, or the design is refused.
abbrev pub HasStepped : List Module → List ℕ → Walk → Result (Unit {0}) ElabFault → Type 0
HasStepped design top w (Ok u) = IsOnWay design top w
HasStepped design top w (Err f) = IsRefused design top f

-- An item is begun: the code stands behind it, the walk before it, and none of its names stands twice in the scope so far.
pub record IsBegun (design : List Module) (top : List ℕ) (done : Visits) (here : Here) (at : At) (a : Item) (rest : List Item) (under : List Task) (w : Walk) :
    Type 0 where
  pub midway : IsMidway design top done here at (past at a []) (some_items here (a ∷ rest) ∷ under) (some_items here rest ∷ under) w
  pub single : is_duplicate at.earlier (names_of a) ≡ false

-- Where that is tried, it is so, or the design is refused.
abbrev pub HasBegun : List Module → List ℕ → Visits → Here → At → Item → List Item → List Task → Walk → Result (Unit {0}) ElabFault → Type 0
HasBegun design top done here at a rest under w (Ok u) = IsBegun design top done here at a rest under w
HasBegun design top done here at a rest under w (Err f) = IsRefused design top f
