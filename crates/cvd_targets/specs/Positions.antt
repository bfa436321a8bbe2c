-- Positions in targets: what is taken off, how the value is read, and the value.
use Rattle.std.specs.Prelude.{◌≡◌, ℕ, ◌&&◌, Bool, true, false, List, ◌++◌, Option, None, Some}
use Rattle.cov_types.specs.declared.kind.ProcessKind.{ProcessKind}
use Rattle.design_tree.specs.declared.design.Design.{Design}
use Rattle.design_tree.specs.declared.typed.Index.{Index}
use Rattle.design_tree.specs.declared.typed.Typed.{Typed}
use Rattle.design_meaning.specs.Sizes.{nodes}
use Rattle.design_meaning.specs.States.{var_of}
use Rattle.design_meaning.specs.ValidProcesses.{kind_written}
use Rattle.design_meaning.specs.WellTyped.{is_var}
use Rattle.design_meaning.specs.Widths.{width_of}
use Rattle.cvd_text.specs.Expressions.{tokens_of}
use Rattle.cvd_text.specs.Pieces.{Mark}
use Rattle.cvd_text.specs.Targets.{same_kind}
use Rattle.cvd_cursor.specs.Reads.{marks}
use Rattle.cvd_nodes.specs.Nodes.{Low, low_marks, is_number}
use Rattle.cvd_nodes.specs.Trees.{index}
use Rattle.cvd_expressions.specs.Builds.{may_stand}
use Rattle.cvd_expressions.specs.declared.expression.Expression.{Expression}
use Rattle.cvd_targets.specs.declared.position.Position.{Position}
use Rattle.cvd_targets.specs.declared.destination.Named.{Named}

-- LOW S E
abbrev pub At : Type 0
At = (low : Low) × Typed

abbrev pub at_marks : At → List Mark
at_marks a = low_marks a.0 ++ marks tokens_of a.1

abbrev pub index_at : At → Index
index_at a = index a.0.0 a.0.1 a.1

-- whether a position may stand
abbrev pub may_be_at : Design → At → Bool
may_be_at d a = is_number a.0.0 && may_stand d a.1

-- an expression that may stand, with its width and the number of its nodes
pub record IsExpression (d : Design) (tree : Typed) (x : Expression) : Type 0 where
  pub tree_is : x.tree ≡ tree
  pub nodes_are : x.nodes ≡ nodes tree
  pub stands : may_stand d tree ≡ true
  pub width_is : x.width ≡ width_of d tree

-- what is held of an expression: it; or nothing, where it may not stand
abbrev pub ExpressionIn : Design → Typed → Option Expression → Type 0
ExpressionIn d tree (Some x) = IsExpression d tree x
ExpressionIn d tree None = may_stand d tree ≡ false

-- a position that may stand, with the number of its nodes
pub record IsPosition (d : Design) (a : At) (x : Position) : Type 0 where
  pub at_is : x.at ≡ index_at a
  pub nodes_are : x.nodes ≡ nodes a.1
  pub stands : may_be_at d a ≡ true

-- what is held of a position: it; or nothing, where it may not stand
abbrev pub PositionIn : Design → At → Option Position → Type 0
PositionIn d a (Some x) = IsPosition d a x
PositionIn d a None = may_be_at d a ≡ false

-- a variable that a process of this kind may write
abbrev pub may_name : Design → ProcessKind → ℕ → Bool
may_name d k v = is_var d v && same_kind (var_of d v).kind (kind_written k)

pub record IsNamed (d : Design) (k : ProcessKind) (v : ℕ) (x : Named) : Type 0 where
  pub var_is : x.var ≡ v
  pub stands : may_name d k v ≡ true
  pub found_is : var_of d v ≡ x.found

-- what is held of a variable's number: the variable; or nothing, where a process of this kind may not write it
abbrev pub NamedIn : Design → ProcessKind → ℕ → Option Named → Type 0
NamedIn d k v (Some x) = IsNamed d k v x
NamedIn d k v None = may_name d k v ≡ false
