-- The variables that are kept, and their numbers.
use Rattle.std.specs.Prelude.{◌≡◌, ℕ, ◌&&◌, Bool, not, List, [], ◌++◌, None}
use Rattle.elab_types.specs.declared.flat_source.FlatVar.{FlatVar}
use Rattle.scope_meaning.specs.Visits.{Visits}
use Rattle.flat_source_meaning.specs.Environments.{position}
use Rattle.flat_source_meaning.specs.Variables.{AreVariables}
use Rattle.scope_table.specs.declared.table.ScopeTable.{ScopeTable}
use Rattle.scope_table.specs.Tables.{value_in}
use Rattle.flat_reach.specs.Reach.{has}
use Rattle.flat_kept.specs.declared.kept.KeptVariables.{KeptVariables}
pub use Rattle.vlog_tree.specs.Trees.{layer}
pub use Rattle.scope_meaning.specs.Constants.{Names, constants}
pub use Rattle.flat_source_meaning.specs.Variables.{port_variable, declared_variables}
pub use Rattle.flat_kept.specs.Names.{environment_at}

-- neither a clock signal nor a loop variable, by the tables
abbrev pub is_kept : ScopeTable Unit → ScopeTable Unit → FlatVar → Bool
is_kept clocks loops x = not (has clocks x.scope x.name) && not (has loops x.scope x.name)

-- the table has the number of each variable, and nothing else
abbrev pub AreNumbered : KeptVariables → Type 0
AreNumbered kept = (s : ℕ) (n : List ℕ) → value_in kept.numbers s n ≡ position kept.vars s n

-- They are the variables of a walk with their numbers.
pub record AreKept (vs : Visits) (clock : List ℕ) (kept : KeptVariables) : Type 0 where
  pub vars : AreVariables vs clock kept.vars
  pub numbers : AreNumbered kept

-- ---- of the code

-- these variables are put behind those that are there
pub record IsMore (xs : List FlatVar) (old new : KeptVariables) : Type 0 where
  pub vars : new.vars ≡ old.vars ++ xs
  pub numbers : AreNumbered old → AreNumbered new

-- there are none
pub record IsEmpty (kept : KeptVariables) : Type 0 where
  pub vars : kept.vars ≡ []
  pub numbers : (s : ℕ) (n : List ℕ) → value_in kept.numbers s n ≡ None
