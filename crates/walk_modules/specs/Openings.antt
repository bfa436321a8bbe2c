-- When the code's state is that of a walk in the header or the ports of a module.
use Rattle.std.specs.Prelude.{ℕ, List, [], ◌∷◌, ◌++◌}
use Rattle.vlog_tree.specs.declared.module.Port.{Port}
use Rattle.vlog_tree.specs.declared.module.Module.{Module}
use Rattle.scope_meaning.specs.Scope.{Here, At, frames}
use Rattle.scope_meaning.specs.Visits.{Visits, with_next, body_scope}
use Rattle.elab_modules.specs.Above.{AreAbove}
use Rattle.elab_names.specs.Frames.{AreFrames}
use Rattle.walk_laws.specs.Rest.{Task}
use Rattle.walk_laws.specs.Stands.{Stands}
use Rattle.walk_state.specs.declared.walk.Walk.{Walk}
use Rattle.walk_state.specs.Records.{AreRecorded}
use Rattle.walk_state.specs.Standing.{IsAt, AreBelow}

-- the place behind a port
abbrev pub past_the : At → Port → At
past_the place p = record place { earlier = place.earlier ++ p.name ∷ [] }

-- The walk is at one place and has these tasks left, the code has come to another place of the module's scope, and what is
-- left under that is left to the module's body.
pub record IsOpening (design : List Module) (top : List ℕ) (done : Visits) (here : Here) (place by : At) (m : Module) (tasks under : List Task) (w : Walk) :
    Type 0 where
  pub stands : Stands design top done tasks (with_next place w.next)
  pub scope : IsAt here by w.here
  pub names : AreFrames (frames here by) w.names.items
  pub above : AreAbove design here.above w.above
  pub left : AreBelow design (body_scope here m) w.left under
  pub records : AreRecorded done w.records
