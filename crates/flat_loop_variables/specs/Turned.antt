-- Which integers the heads of loops name, as the code looks names up.
use Rattle.std.specs.Prelude.{◌≡◌, ℕ, ◌&&◌, Bool, true, false, List, Option, Some, None}
use Rattle.std.specs.List.{list_any}
use Rattle.vlog_tree.specs.Trees.{layer}
use Rattle.scope_meaning.specs.Visits.{Visits}
use Rattle.flat_source_meaning.specs.Environments.{is_variable}
use Rattle.flat_source_meaning.specs.Variables.{names_of_loops, is_loop_variable}
use Rattle.scope_table.specs.declared.table.ScopeTable.{ScopeTable}
use Rattle.flat_declared.specs.declared.declared.DeclaredKind.{DeclaredKind}
use Rattle.flat_declared.specs.declared.declared.DeclaredKind.TheVariants as kind
use Rattle.flat_scopes.specs.declared.place.PlaceInScope.{PlaceInScope}
use Rattle.flat_scopes.specs.declared.scope.NameMeaning.{NameMeaning}
use Rattle.flat_scopes.specs.declared.scope.NameMeaning.TheVariants as means
use Rattle.flat_scopes.specs.declared.scope.SeenScope.{SeenScope}
use Rattle.flat_scopes.specs.Meanings.{meaning_by}
use Rattle.flat_spots.specs.declared.spot.Spot.{Spot}
use Rattle.flat_spots.specs.declared.spot.Spot.TheVariants as spot
use Rattle.flat_reach.specs.Reach.{has}

-- what is declared is an integer
abbrev pub is_integer_seen : DeclaredKind → Bool
is_integer_seen kind.Integer = true
is_integer_seen _ = false

-- a name means the integer of this scope and name
abbrev pub means_integer_by : ℕ → List ℕ → List ℕ → Option NameMeaning → Bool
means_integer_by s n name (Some (means.Variable k d)) = is_integer_seen d && is_variable s n k name
means_integer_by s n name _ = false

-- it does at a place
abbrev pub means_integer_at : List SeenScope → PlaceInScope → ℕ → List ℕ → List ℕ → Bool
means_integer_at scopes at s n name = means_integer_by s n name (meaning_by scopes at name)

-- the head of a loop of a spot names the integer of this scope and name
abbrev pub turns_over : List SeenScope → ℕ → List ℕ → Spot → Bool
turns_over scopes s n (spot.Item at item) = list_any (means_integer_at scopes at s n) (names_of_loops (layer item.now))
turns_over scopes s n _ = false

-- The table has the loop variables of a walk, and nothing else.
abbrev pub AreLoopVariables : Visits → ScopeTable Unit → Type 0
AreLoopVariables vs table = (s : ℕ) (n : List ℕ) → has table s n ≡ is_loop_variable vs s n
