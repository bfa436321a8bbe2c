-- What beginning a parameter of a header, or a port, gives.
use Rattle.std.specs.Prelude.{◌≡◌, ℕ, false, List, ◌∷◌, [], Result, Ok, Err}
use Rattle.vlog_tree.specs.declared.item.Item.{Item}
use Rattle.vlog_tree.specs.declared.module.Module.{Module}
use Rattle.vlog_tree.specs.declared.module.Port.{Port}
use Rattle.elab_types.specs.declared.elab_fault.ElabFault.{ElabFault}
use Rattle.scope_meaning.specs.Declared.{names_of}
use Rattle.scope_meaning.specs.Scope.{Here, At}
use Rattle.scope_meaning.specs.Visits.{Visits, past}
use Rattle.elab_blocks.specs.Duplicates.{is_duplicate}
use Rattle.walk_laws.specs.Rest.{Task, a_header, some_ports}
use Rattle.walk_state.specs.declared.walk.Walk.{Walk}
use Rattle.walk_modules.specs.Openings.{past_the, IsOpening}
use Rattle.walk_steps.specs.Steps.{IsRefused}

-- An item of a header is begun: the code stands behind it, the walk before it, and none of its names stands twice in the
-- scope so far.
pub record IsBegun (design : List Module) (top : List ℕ) (done : Visits) (here : Here) (at : At) (m : Module) (a : Item) (rest : List Item) (under : List Task)
    (w : Walk) : Type 0 where
  pub opening : IsOpening design top done here at (past at a []) m (a_header here m (a ∷ rest) ∷ under) under w
  pub single : is_duplicate at.earlier (names_of a) ≡ false

-- Where that is tried, it is so, or the design is refused.
abbrev pub HasBegun : List Module → List ℕ → Visits → Here → At → Module → Item → List Item → List Task → Walk → Result (Unit {0}) ElabFault → Type 0
HasBegun design top done here at m a rest under w (Ok u) = IsBegun design top done here at m a rest under w
HasBegun design top done here at m a rest under w (Err f) = IsRefused design top f

-- A port is named: the code stands behind it, the walk before it, and its name stands nowhere before in the scope.
pub record IsNamed (design : List Module) (top : List ℕ) (done : Visits) (here : Here) (at : At) (m : Module) (p : Port) (rest : List Port) (under : List Task)
    (w : Walk) : Type 0 where
  pub opening : IsOpening design top done here at (past_the at p) m (some_ports here m (p ∷ rest) ∷ under) under w
  pub single : is_duplicate at.earlier (p.name ∷ []) ≡ false

abbrev pub HasNamed : List Module → List ℕ → Visits → Here → At → Module → Port → List Port → List Task → Walk → Result (Unit {0}) ElabFault → Type 0
HasNamed design top done here at m p rest under w (Ok u) = IsNamed design top done here at m p rest under w
HasNamed design top done here at m p rest under w (Err f) = IsRefused design top f
