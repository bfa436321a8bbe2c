-- What belongs directly to a statement: nothing but blocks and loops stands between.
use Rattle.std.specs.Prelude.{◌≡◌, ◌⊎◌, ℕ, true, List, Contains, Option, Some, None}
use Rattle.vlog_tree.specs.declared.statement.Stmt.{Stmt}
use Rattle.vlog_tree.specs.Trees.{stmt_layer, first_token}
use Rattle.vlog_tree.specs.Inside.{IsDirectlyIn}
use Rattle.flat_source_meaning.specs.SourceArms.{has_line, is_stop}

-- a line of a statement that belongs directly to one
abbrev pub HasLineIn : Stmt → ℕ → Type 0
HasLineIn a n = (d : Stmt) × IsDirectlyIn a d × (has_line (stmt_layer d) ≡ true) × ((first_token d).line ≡ n)

-- to one of these
abbrev pub HasLineAmong : List Stmt → ℕ → Type 0
HasLineAmong parts n = (a : Stmt) × Contains parts a × HasLineIn a n

-- to the one that is written
abbrev pub HasLineOf : Option Stmt → ℕ → Type 0
HasLineOf (Some b) n = HasLineIn b n
HasLineOf None n = ⊥

-- a `$stop` belongs directly to a statement
abbrev pub StopsIn : Stmt → Type 0
StopsIn a = (d : Stmt) × IsDirectlyIn a d × (is_stop (stmt_layer d) ≡ true)

-- to one of these
abbrev pub StopsAmong : List Stmt → Type 0
StopsAmong parts = (a : Stmt) × Contains parts a × StopsIn a

-- A list has the numbers of another, these numbers, and no others.
pub record Gains (old new : List ℕ) (more : ℕ → Type 0) : Type 0 where
  pub has : (n : ℕ) → Contains old n ⊎ more n → Contains new n
  pub only : (n : ℕ) → Contains new n → Contains old n ⊎ more n
