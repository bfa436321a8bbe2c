-- What entering the module of an instance makes of the state of a walk.
use Rattle.std.specs.Prelude.{◌≡◌, ℕ, ◌+◌, List, [], ◌∷◌, ◌++◌, Some, None}
use Rattle.cov_types.specs.declared.place.Place.{Place}
use Rattle.vlog_tree.specs.declared.item.Instance.{Instance}
use Rattle.vlog_tree.specs.declared.module.Module.{Module}
use Rattle.scope_meaning.specs.Scope.{Here, At, Given, frames}
use Rattle.scope_meaning.specs.BlockNames.{inside}
use Rattle.scope_meaning.specs.Visits.{Visits, module_scope, module_entered, made_at, start}
use Rattle.elab_modules.specs.Above.{AreAbove}
use Rattle.elab_names.specs.Frames.{AreFrames}
use Rattle.walk_laws.specs.Rest.{Task, a_header, an_end}
use Rattle.walk_state.specs.declared.record.Record.{Record}
use Rattle.walk_state.specs.declared.record.Record.TheVariants as its
use Rattle.walk_state.specs.declared.place.ScopePlace.{ScopePlace}
use Rattle.walk_state.specs.declared.walk.Walk.{Walk}
use Rattle.walk_state.specs.Records.{AreRecorded}
use Rattle.walk_state.specs.Standing.{IsAt, AreLeft}

-- the records of an instance: its row in the scope around it, and the entry of its module
abbrev pub instance_records : ScopePlace → ℕ → ℕ → List ℕ → ℕ → List Record
instance_records around n item path number =
    its.HasRow around.number item (Some n)
    ∷ its.Enters (record { number = n; parent = Some around.number; path = path; in_module = number; home = n })
    ∷ []

-- the record of the top: the entry of its module
abbrev pub top_records : ℕ → List ℕ → List Record
top_records number path = its.Enters (record { number = 0; parent = None; path = path; in_module = number; home = 0 }) ∷ []

-- the scope of a module that is entered for an instance
abbrev pub instance_scope : Here → ℕ → Instance → List Given → ℕ → Module → Here
instance_scope here n one given number m = module_scope n (inside here.path one.name.name) here.above given number m

-- The module of an instance is entered at a place of a scope, whose place behind it is another; what is left there is under it.
pub record HasInstance (design : List Module) (here : Here) (by place : At) (p : Place) (one : Instance) (given : List Given) (number : ℕ) (m : Module)
    (under : List Task) (old new : Walk) : Type 0 where
  pub next : new.next ≡ old.next + 1
  pub scope : IsAt (instance_scope here old.next one given number m) (start old.next 0) new.here
  pub names : AreFrames (frames (instance_scope here old.next one given number m) (start old.next 0)) new.names.items
  pub above : AreAbove design here.above old.above → AreAbove design (here.above ++ m.name ∷ []) new.above
  pub left : AreLeft design (instance_scope here old.next one given number m) (start old.next 0) new.left
      (a_header (instance_scope here old.next one given number m) m m.params ∷ an_end by ∷ under)
  pub records : (done : Visits) → AreRecorded done old.records
      → AreRecorded (done ++ (made_at here place p old.next m one ++ module_entered old.next (Some here.number)
      (inside here.path one.name.name) number m)) new.records
