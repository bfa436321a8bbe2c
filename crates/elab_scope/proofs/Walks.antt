-- The walk where something is taken from what is left, and where nothing is.
use Rattle.std.proofs.Common.{◌≡◌, ℕ, List, [], ◌∷◌, subst}
use Rattle.vlog_tree.specs.declared.module.Module.{Module}
use Rattle.scope_meaning.specs.Scope.{Here, At}
use Rattle.scope_meaning.specs.Visits.{Visits}
use Rattle.walk_laws.specs.Rest.{Task}
use Rattle.walk_laws.specs.Stands.{Stands}
use Rattle.walk_laws.proofs.Standings.{walked_whole}
use Rattle.walk_state.specs.declared.left.Left.{Left}
use Rattle.walk_state.specs.declared.record.Record.{Record}
use Rattle.walk_state.specs.declared.walk.Walk.{Walk}
use Rattle.walk_state.specs.Records.{AreRecorded}
use Rattle.walk_state.specs.Standing.{AreLeft, AreBelow, below, nothing, IsStanding, IsOnWay}
use Rattle.elab_scope.specs.Walked.{IsWhole}

-- The first thing that is left is taken.
pub taken : {design : List Module} {top : List ℕ} {w : Walk} (frame : Left) (under : List Left) → (s : IsOnWay design top w) → w.left ≡ frame ∷ under
    → IsStanding design top s.done s.here s.place s.tasks (record w { left = frame ∷ under })
taken {design} {top} {w} frame under s e =
    subst (λ (ls : List Left). IsStanding design top s.done s.here s.place s.tasks (record w { left = ls })) e s.standing

whole_from : {design : List Module} {top : List ℕ} {done : Visits} {here : Here} {at by : At} {tasks : List Task} {records : List Record}
    → AreLeft design here at [] tasks → Stands design top done tasks by → AreRecorded done records → IsWhole design top records
whole_from {done = done} (below nothing) s r = record { vs = done; walk = walked_whole s; calm = s.calm; recorded = r }

-- Nothing is left.
pub at_end : {design : List Module} {top : List ℕ} {w : Walk} → IsOnWay design top w → w.left ≡ [] → IsWhole design top w.records
at_end {design} {top} {w} s e =
    whole_from (subst (λ (ls : List Left). AreLeft design s.here s.place ls s.tasks) e s.standing.left) s.standing.stands s.standing.records
