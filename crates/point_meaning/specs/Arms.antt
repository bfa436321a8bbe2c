-- The points that arms of the source text may have.
use Rattle.std.specs.Prelude.{ℕ, List, Option, Some, None, codes, unwrap_or}
use Rattle.elab_types.specs.declared.arm.ArmComment.{ArmComment}
use Rattle.elab_types.specs.declared.arm.ArmComment.TheVariants as c
use Rattle.cov_points.specs.declared.point.PointKind.{PointKind}
use Rattle.cov_points.specs.declared.point.PointKind.TheVariants as kind
use Rattle.flat_source_meaning.specs.SourceArms.{Arm}

-- what an arm is: the body of a process, a written arm of a `case`, an arm of an `if`, or a `cover property` with its
-- comment
pub data ArmName : Type 0 where
  block : ArmName
  case : ArmName
  if_arm : ArmName
  else_arm : ArmName
  cover : List ℕ → ArmName

-- the type of an arm's point (Verilator User's Guide, line and branch coverage, user coverage)
abbrev pub kind_of : ArmName → PointKind
kind_of block = kind.Line
kind_of case = kind.Line
kind_of if_arm = kind.Branch
kind_of else_arm = kind.Branch
kind_of (cover comment) = kind.User

-- the comment of an arm's point (this project's own)
abbrev pub comment_of : ArmName → List ℕ
comment_of block = codes "block"
comment_of case = codes "case"
comment_of if_arm = codes "if"
comment_of else_arm = codes "else"
comment_of (cover comment) = comment

-- an arm that has a point where nothing turns it off
pub record PointArm : Type 0 where
  pub name : ArmName
  pub arm : Arm

-- The comment of a cover is its label.
abbrev pub cover_comment : Option (List ℕ) → List ℕ
cover_comment label = unwrap_or label (codes "cover")

-- what an arm is, by what it is called in a flat source and its label
abbrev pub name_of : ArmComment → Option (List ℕ) → Option ArmName
name_of c.Block label = Some block
name_of c.If label = Some if_arm
name_of c.Else label = Some else_arm
name_of c.Case label = Some case
name_of c.Cover label = Some (cover (cover_comment label))
name_of c.Nothing label = None

-- an arm that is something
abbrev pub with_name : Arm → Option ArmName → Option PointArm
with_name a (Some name) = Some (record { name = name; arm = a })
with_name a None = None

-- an arm with its point; the body of an assignment and the unwritten arm of a `case` have none
abbrev pub point_arm : Arm → Option PointArm
point_arm a = with_name a (name_of a.comment a.label)
