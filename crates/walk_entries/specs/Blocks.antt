-- What entering a generate block makes of the state of a walk.
use Rattle.std.specs.Prelude.{◌≡◌, ℕ, ◌+◌, List, [], ◌∷◌, ◌++◌, Option, Some, None}
use Rattle.vlog_tree.specs.declared.item.Item.{Item}
use Rattle.vlog_tree.specs.declared.module.Module.{Module}
use Rattle.elab_types.specs.declared.scope.Constant.{Constant as ConstantRow}
use Rattle.scope_meaning.specs.Constants.{Constant}
use Rattle.scope_meaning.specs.Scope.{Here, At, frames}
use Rattle.scope_meaning.specs.Visits.{Visits, entered, block_scope, start}
use Rattle.elab_names.specs.declared.scope_names.PassGenvar.{PassGenvar}
use Rattle.elab_names.specs.Frames.{AreFrames}
use Rattle.walk_laws.specs.Rest.{Task, some_items, an_end}
use Rattle.walk_state.specs.declared.record.Record.{Record}
use Rattle.walk_state.specs.declared.record.Record.TheVariants as its
use Rattle.walk_state.specs.declared.place.ScopePlace.{ScopePlace}
use Rattle.walk_state.specs.declared.walk.Walk.{Walk}
use Rattle.walk_state.specs.Records.{AreRecorded}
use Rattle.walk_state.specs.Standing.{IsAt, AreBelow}

-- the genvar of a pass as a constant of its block
abbrev pub constant_of : PassGenvar → ConstantRow
constant_of g = record { name = g.name; value = g.value.value; signed = g.value.signed }

abbrev pub pass_records : ℕ → Option PassGenvar → List Record
pass_records n (Some g) = its.HasConstants n (constant_of g ∷ []) ∷ []
pass_records n None = []

-- the records of a block that is entered from a scope: its row there, its entry, and the genvar of its pass
abbrev pub block_records : ScopePlace → ℕ → ℕ → List ℕ → Option PassGenvar → List Record
block_records around number item path pass =
    its.HasRow around.number item (Some number)
    ∷ its.Enters (record { number = number; parent = Some around.number; path = path; in_module = around.in_module; home = around.home })
    ∷ pass_records number pass

-- The block of a name is entered at a place of a scope, whose place behind it is another; what is left there is under it.
pub record HasEntered (design : List Module) (here : Here) (by at : At) (name : List ℕ) (genvar : Option Constant) (items : List Item) (first : ℕ)
    (under : List Task) (old new : Walk) : Type 0 where
  pub next : new.next ≡ old.next + 1
  pub scope : IsAt (block_scope here at name genvar items) (start at.next first) new.here
  pub names : AreFrames (frames (block_scope here at name genvar items) (start at.next first)) new.names.items
  pub above : new.above ≡ old.above
  pub left : AreBelow design (block_scope here at name genvar items) new.left (some_items (block_scope here at name genvar items) items ∷ an_end by ∷ under)
  pub records : (done : Visits) → AreRecorded done old.records → AreRecorded (done ++ entered here at name genvar) new.records
