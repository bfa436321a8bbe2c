-- What the points of a source rest on: its files, scopes, variables and copies of arms.
use Rattle.std.specs.Prelude.{ℕ, Bool, List, [], Option, slice_index_or}
use Rattle.cov_types.specs.declared.place.Place.{Place}
use Rattle.vlog_tree.specs.declared.module.SourceFile.{SourceFile}
use Rattle.point_meaning.specs.Arms.{PointArm}

-- an instance or a chosen generate block: its path, and the text of the module that it belongs to
pub record Scope : Type 0 where
  pub path : List ℕ
  pub module_text : List ℕ

-- A variable: the number of its scope, its name and place, the bits of a word and the number of the lowest, the words
-- and the number of the lowest, and whether it is a vector, a memory, an integer.
pub record Variable : Type 0 where
  pub scope : ℕ
  pub name : List ℕ
  pub place : Place
  pub width : ℕ
  pub low : ℕ
  pub vector : Bool
  pub integer : Bool
  pub words : ℕ
  pub word_low : ℕ
  pub memory : Bool

-- A copy of an arm and the number of its scope; the body of an assignment and the unwritten arm of a `case` are no arms.
pub record Copy : Type 0 where
  pub scope : ℕ
  pub arm : Option PointArm

-- The files of a source, and what elaboration makes of them, each list in the order of its numbers.
pub record Source : Type 0 where
  pub files : List SourceFile
  pub scopes : List Scope
  pub variables : List Variable
  pub copies : List Copy

-- what stands for a scope whose number is past the last
abbrev pub no_scope : Scope
no_scope = record { path = []; module_text = [] }

-- the scope with this number
abbrev pub scope_at : Source → ℕ → Scope
scope_at source n = slice_index_or source.scopes n no_scope
