-- The source of points that a scope tree and a flat source stand for.
use Rattle.std.specs.Prelude.{◌≡◌, ℕ, List, Option, Some, None, map}
use Rattle.std.specs.List.{AllZip}
use Rattle.vlog_tree.specs.declared.module.SourceFile.{SourceFile}
use Rattle.elab_types.specs.declared.arm.ArmRow.{ArmRow}
use Rattle.elab_types.specs.declared.arm.ArmComment.TheVariants as comment
use Rattle.elab_types.specs.declared.flat_source.FlatVar.{FlatVar}
use Rattle.elab_types.specs.declared.flat_source.FlatSource.{FlatSource}
use Rattle.elab_types.specs.declared.scope.Scope.{Scope as TreeScope}
use Rattle.elab_types.specs.declared.scope.ScopeTree.{ScopeTree}
use Rattle.flat_source_meaning.specs.SourceArms.{IsArmRow}
use Rattle.point_meaning.specs.Arms.{PointArm}
use Rattle.point_meaning.specs.Source.{Source, Scope, Variable, Copy}

-- a scope of a tree as points see it
abbrev pub scope_of : TreeScope → Scope
scope_of s = record { path = s.path; module_text = s.module_text }

-- a variable as points see it
abbrev pub variable_of : FlatVar → Variable
variable_of v = record {
  scope = v.scope;
  name = v.name;
  place = v.place;
  width = v.width;
  low = v.low;
  vector = v.vector;
  integer = v.integer;
  words = v.words;
  word_low = v.word_low;
  memory = v.memory;
}

-- The row is that of an arm in a scope: its places and comment, whether a `$stop` belongs to it directly, and its lines. The
-- body of an assignment, and the block for no match of a `case` without default, have no arm in the text.
abbrev pub IsRowOfArm : ArmRow → ℕ → Option PointArm → Type 0
IsRowOfArm row n None = (row.scope ≡ n) × (row.comment ≡ comment.Nothing)
IsRowOfArm row n (Some x) = IsArmRow row.process n x.arm row

-- the row is that of a copy of an arm
abbrev pub IsRowOfCopy : ArmRow → Copy → Type 0
IsRowOfCopy row copy = IsRowOfArm row copy.scope copy.arm

-- the files, tree and flat source belong together and stand for this source
pub record IsSourceOf (files : List SourceFile) (tree : ScopeTree) (flat : FlatSource) (source : Source) : Type 0 where
  pub files_are : source.files ≡ files
  pub scopes : source.scopes ≡ map scope_of tree.scopes
  pub variables : source.variables ≡ map variable_of flat.vars
  pub arms : AllZip IsRowOfCopy flat.arms source.copies
