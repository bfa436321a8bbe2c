-- The arms of the source text and their lines (this project's own, after the Verilator User's Guide, line and branch
-- coverage).
use Rattle.std.specs.Prelude.{◌≡◌, ◌↔◌, ℕ, Bool, true, false, List, [], ◌∷◌, map, Option, Some, None, Contains}
use Rattle.cov_types.specs.declared.place.Place.{Place}
use Rattle.cov_types.specs.LineLists.{IsLineListOf}
use Rattle.vlog_tree.specs.declared.statement.Stmt.{Stmt}
use Rattle.vlog_tree.specs.declared.statement.StmtKind.TheOpen as o
use Rattle.vlog_tree.specs.declared.statement.CaseArm.{CaseArm, out-CaseArm}
use Rattle.vlog_tree.specs.declared.item.NamePlace.{NamePlace}
use Rattle.vlog_tree.specs.Trees.{StmtLayer, stmt_layer, first_token}
use Rattle.vlog_tree.specs.Inside.{IsInside, IsDirectlyIn}
use Rattle.elab_types.specs.declared.arm.ArmComment.{ArmComment}
use Rattle.elab_types.specs.declared.arm.ArmComment.TheVariants as c
use Rattle.elab_types.specs.declared.arm.ArmRow.{ArmRow}
use Rattle.source_meaning.specs.Events.{Event}
use Rattle.source_meaning.specs.Events as event

-- an arm: what it is, the label of a cover that has one, where it stands, from where a coverage comment reaches it, and its
-- statement, if one is written
pub record Arm : Type 0 where
  pub comment : ArmComment
  pub label : Option (List ℕ)
  pub place : Place
  pub reach : Place
  pub body : Option Stmt

-- an arm without a label
abbrev pub arm : ArmComment → Place → Place → Option Stmt → Arm
arm comment place reach body = record { comment = comment; label = None; place = place; reach = reach; body = body }

-- the body of a process stands at its word
abbrev pub body_arm : Place → Stmt → Arm
body_arm p body = arm c.Block p p (Some body)

-- the arms of an `if` stand at the `if`, and a coverage comment reaches them at their statements
abbrev pub if_arm : Place → Stmt → Arm
if_arm p body = arm c.If p (first_token body) (Some body)

-- the other arm of an `if`
abbrev pub else_arm : Place → Stmt → Arm
else_arm p body = arm c.Else p (first_token body) (Some body)

-- an unwritten one is reached at the `if`
abbrev pub unwritten_else : Place → Arm
unwritten_else p = arm c.Else p p None

-- an arm of a `case` stands at its first token
abbrev pub case_arm_of : CaseArm → Arm
case_arm_of a = arm c.Case (out-CaseArm a).place (out-CaseArm a).place (Some (out-CaseArm a).body)

-- a label's name
abbrev pub name_of : Option NamePlace → Option (List ℕ)
name_of (Some n) = Some n.name
name_of None = None

-- a cover stands at the word `cover`
abbrev pub cover_arm : Place → Option NamePlace → Arm
cover_arm word label = record (arm c.Cover word word None) { label = name_of label }

-- what has no point: the body of an assignment, and what a `case` without default does where nothing matches
abbrev pub no_arm : Place → Arm
no_arm p = arm c.Nothing p p None

-- the arms of a statement itself that may have points, by its layer
abbrev pub arms_at : Place → StmtLayer → List Arm
arms_at p (o.If test first None) = if_arm p first ∷ unwritten_else p ∷ []
arms_at p (o.If test first (Some other)) = if_arm p first ∷ else_arm p other ∷ []
arms_at p (o.Case wild on all) = map case_arm_of all
arms_at p _ = []

-- those of a statement
abbrev pub own_arms : Stmt → List Arm
own_arms a = arms_at (first_token a) (stmt_layer a)

-- an arm of a statement that stands inside this one
abbrev pub IsArmInside : Stmt → Arm → Type 0
IsArmInside a x = (b : Stmt) × IsInside a b × Contains (own_arms b) x

-- ---- the event of an arm that is entered

-- how an entered arm is told
abbrev pub entered : ArmComment → event.Arm
entered c.Block = event.body
entered c.If = event.yes_arm
entered c.Else = event.no_arm
entered c.Case = event.case_arm
entered c.Cover = event.covered
entered c.Nothing = event.unwritten

-- the event of an arm in a scope
abbrev pub event_of : ℕ → Arm → Event
event_of scope a = record { scope = scope; place = a.place; arm = entered a.comment }

-- the event of the arm of a row
abbrev pub event_of_row : ArmRow → Event
event_of_row row = record { scope = row.scope; place = row.place; arm = entered row.comment }

-- ---- lines

-- the statements that count as lines: all but blocks and empty statements
abbrev pub has_line : StmtLayer → Bool
has_line o.Empty = false
has_line (o.Block body last) = false
has_line _ = true

-- a `$stop`
abbrev pub is_stop : StmtLayer → Bool
is_stop o.Stop = true
is_stop _ = false

-- the lines of an arm: that of its place, and those of the statements that belong to it directly; how often a loop turns
-- doesn't matter
pub data HasLine : Arm → ℕ → Type 0 where
  own_line : {a : Arm} → HasLine a a.place.line
  of_statement : {a : Arm} {b d : Stmt} → a.body ≡ Some b → IsDirectlyIn b d → has_line (stmt_layer d) ≡ true → HasLine a (first_token d).line

-- a `$stop` belongs directly to the arm
abbrev pub Stops : Arm → Type 0
Stops a = (b : Stmt) × (d : Stmt) × (a.body ≡ Some b) × IsDirectlyIn b d × (is_stop (stmt_layer d) ≡ true)

-- The row is that of an arm of a process in a scope.
pub record IsArmRow (process scope : ℕ) (a : Arm) (row : ArmRow) : Type 0 where
  pub process_number : row.process ≡ process
  pub scope_number : row.scope ≡ scope
  pub place : row.place ≡ a.place
  pub reach : row.reach ≡ a.reach
  pub comment : row.comment ≡ a.comment
  pub label : row.label ≡ a.label
  pub stops : Stops a ↔ (row.stops ≡ true)
  pub lines : IsLineListOf (HasLine a) row.lines
