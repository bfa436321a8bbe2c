-- Names that are handed down from scope to scope.
use Rattle.std.specs.Prelude.{◌≡◌, ◌⊎◌, ◌↔◌, ℕ, Bool, true, false, is_some, List, Option, Some, Contains}
use Rattle.scope_table.specs.declared.table.ScopeTable.{ScopeTable}
use Rattle.scope_table.specs.Tables.{value_in}
use Rattle.flat_reach.specs.declared.reach.Handing.{Handing}

-- The least set with the first name of scope 0, and with each name to which one of it is handed down.
pub data Reach (first : Option (List ℕ)) (handings : List Handing) : ℕ → List ℕ → Type 0 where
  at_first : {name : List ℕ} → first ≡ Some name → Reach first handings 0 name
  handed : {h : Handing} → Contains handings h → Reach first handings h.from h.name → Reach first handings h.to h.port

-- a name of a scope is in a table
abbrev pub has : ScopeTable Unit → ℕ → List ℕ → Bool
has table scope name = is_some (value_in table scope name)

-- the table has the names that are reached, and no others
abbrev pub IsReached : Option (List ℕ) → List Handing → ScopeTable Unit → Type 0
IsReached first handings table = (scope : ℕ) (name : List ℕ) → (has table scope name ≡ true) ↔ Reach first handings scope name

-- ---- of the code

-- what handing down one name makes of a table
pub record IsHanded (h : Handing) (old new : ScopeTable Unit) (more : Bool) : Type 0 where
  pub kept : (s : ℕ) (q : List ℕ) → has old s q ≡ true → has new s q ≡ true
  pub sound : (s : ℕ) (q : List ℕ) → has new s q ≡ true → (has old s q ≡ true) ⊎ ((has old h.from h.name ≡ true) × (s ≡ h.to) × (q ≡ h.port))
  pub same : more ≡ false → (s : ℕ) (q : List ℕ) → has new s q ≡ has old s q
  pub done : more ≡ false → has new h.from h.name ≡ true → has new h.to h.port ≡ true

-- nothing is in the table but what is reached
abbrev pub IsSound : Option (List ℕ) → List Handing → ScopeTable Unit → Type 0
IsSound first handings table = (s : ℕ) (q : List ℕ) → has table s q ≡ true → Reach first handings s q

-- what is in the table is handed down within it
abbrev pub IsClosed : List Handing → ScopeTable Unit → Type 0
IsClosed handings table = (h : Handing) → Contains handings h → has table h.from h.name ≡ true → has table h.to h.port ≡ true

-- what handing down some of all names makes of a table
pub record IsRound (all some : List Handing) (old new : ScopeTable Unit) (more : Bool) : Type 0 where
  pub kept : (s : ℕ) (q : List ℕ) → has old s q ≡ true → has new s q ≡ true
  pub sound : (first : Option (List ℕ)) → IsSound first all old → IsSound first all new
  pub same : more ≡ false → (s : ℕ) (q : List ℕ) → has new s q ≡ has old s q
  pub closed : more ≡ false → IsClosed some new

-- the table has the first name and no other
pub record IsFirst (first : Option (List ℕ)) (table : ScopeTable Unit) : Type 0 where
  pub there : (q : List ℕ) → first ≡ Some q → has table 0 q ≡ true
  pub sound : (all : List Handing) → IsSound first all table
