-- A place of a walk through a design: nothing is refused so far, and the walk may go on with what is left to do.
use Rattle.std.specs.Prelude.{◌≡◌, ℕ, Bool, List, ◌++◌, map, None}
use Rattle.vlog_tree.specs.declared.module.Module.{Module}
use Rattle.scope_meaning.specs.Scope.{At}
use Rattle.scope_meaning.specs.Visits.{Visits}
use Rattle.scope_meaning.specs.ScopeRules.{refusal}
use Rattle.scope_meaning.specs.ScopeTrees.{IsWalkOf}
use Rattle.walk_laws.specs.Rest.{Task, Rest}

-- nothing in these visits is refused
abbrev pub AreCalm : List Module → Visits → Type 0
AreCalm design vs = map (refusal design) vs ≡ map (λ v. None) vs

-- The walk has come to these visits, in which nothing is refused, and whatever may follow on what is left makes it a walk
-- through the design.
pub record Stands (design : List Module) (top : List ℕ) (done : Visits) (left : List Task) (at : At) : Type 0 where
  pub calm : AreCalm design done
  pub onward : (ws : Visits) (whole : Bool) → Rest design left at ws whole → IsWalkOf design top (done ++ ws) whole
