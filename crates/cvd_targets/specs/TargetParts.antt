-- Targets as they are read: the first word, and what follows it.
use Rattle.std.specs.Prelude.{◌≡◌, ℕ, ◌&&◌, Bool, true, false, nat_le, List, [], ◌∷◌, ◌++◌, codes, Option, None, Some, map}
use Rattle.cov_types.specs.Limits.{most}
use Rattle.cov_types.specs.declared.limit.LimitName.TheVariants as limit
use Rattle.cov_types.specs.declared.kind.ProcessKind.{ProcessKind}
use Rattle.design_tree.specs.declared.design.Design.{Design}
use Rattle.design_tree.specs.declared.step.Target.{Target}
use Rattle.design_tree.specs.declared.step.Target.TheVariants as target
use Rattle.design_tree.specs.declared.typed.Typed.{Typed}
use Rattle.circuit_run.specs.Lists.{total}
use Rattle.design_meaning.specs.Sizes.{target_nodes}
use Rattle.design_meaning.specs.Widths.{width_named}
use Rattle.cvd_text.specs.Expressions.{tokens_of}
use Rattle.cvd_text.specs.Targets.{may_write, takes_value, assigned_nodes}
use Rattle.cvd_text.specs.Pieces.{Mark}
use Rattle.cvd_text.specs.Tokens.{Token, word}
use Rattle.cvd_step_laws.specs.StepMarks.{targets_marks}
use Rattle.cvd_cursor.specs.Numerals.{number_tokens}
use Rattle.cvd_cursor.specs.Reads.{marks}
use Rattle.cvd_nodes.specs.Heads.{Entry, entry}
use Rattle.cvd_targets.specs.Lists.{Counted, counted_marks, fits_all}
use Rattle.cvd_targets.specs.Positions.{At, at_marks, index_at}
use Rattle.cvd_targets.specs.declared.target.TargetForm.{TargetForm}
use Rattle.cvd_targets.specs.declared.target.TargetForm.TheVariants as form
use Rattle.cvd_targets.specs.declared.target.Written.{Written}
use Rattle.cvd_targets.specs.declared.targets.Targets.{Targets}
use Rattle.cvd_targets.specs.declared.assigned.Assigned.{Assigned}

abbrev pub form_text : TargetForm → List ℕ
form_text form.Whole = codes "w"
form_text form.Part = codes "b"
form_text form.Word = codes "m"
form_text form.WordPart = codes "q"

abbrev pub form_table : List (Entry TargetForm)
form_table = entry (codes "w") form.Whole ∷ entry (codes "b") form.Part ∷ entry (codes "m") form.Word ∷ entry (codes "q") form.WordPart ∷ []

abbrev pub form_tokens : TargetForm → List Token
form_tokens f = word (form_text f) ∷ []

-- what follows the first word
abbrev pub Parts : TargetForm → Type 0
Parts form.Whole = ℕ
Parts form.Part = (var : ℕ) × ((width : ℕ) × At)
Parts form.Word = (var : ℕ) × At
Parts form.WordPart = (var : ℕ) × ((index : At) × ((width : ℕ) × At))

abbrev pub part_marks : (var : ℕ) × ((width : ℕ) × At) → List Mark
part_marks p = marks number_tokens p.0 ++ (marks number_tokens p.1.0 ++ at_marks p.1.1)

abbrev pub word_marks : (var : ℕ) × At → List Mark
word_marks p = marks number_tokens p.0 ++ at_marks p.1

abbrev pub sized_marks : (width : ℕ) × At → List Mark
sized_marks p = marks number_tokens p.0 ++ at_marks p.1

abbrev pub word_part_marks : (var : ℕ) × ((index : At) × ((width : ℕ) × At)) → List Mark
word_part_marks p = marks number_tokens p.0 ++ (at_marks p.1.0 ++ sized_marks p.1.1)

abbrev pub parts_marks : (f : TargetForm) → Parts f → List Mark
parts_marks form.Whole = marks number_tokens
parts_marks form.Part = part_marks
parts_marks form.Word = word_marks
parts_marks form.WordPart = word_part_marks

abbrev pub part_target : (var : ℕ) × ((width : ℕ) × At) → Target
part_target p = target.Part p.0 p.1.0 (index_at p.1.1)

abbrev pub word_target : (var : ℕ) × At → Target
word_target p = target.Word p.0 (index_at p.1)

abbrev pub word_part_target : (var : ℕ) × ((index : At) × ((width : ℕ) × At)) → Target
word_part_target p = target.WordPart p.0 (index_at p.1.0) p.1.1.0 (index_at p.1.1.1)

abbrev pub made : (f : TargetForm) → Parts f → Target
made form.Whole v = target.Whole v
made form.Part p = part_target p
made form.Word p = word_target p
made form.WordPart p = word_part_target p

-- a target that a process of this kind may write, with no more nodes than a design may have
abbrev pub may_be_target : Design → ProcessKind → Target → Bool
may_be_target d k t = may_write d k t && nat_le (target_nodes t) (most limit.Nodes)

-- a target that may stand, with its width and the number of its nodes
pub record IsWritten (d : Design) (k : ProcessKind) (t : Target) (x : Written) : Type 0 where
  pub target_is : x.target ≡ t
  pub nodes_are : x.nodes ≡ target_nodes t
  pub stands : may_be_target d k t ≡ true
  pub width_is : x.width ≡ width_named d t

-- what is held of a target: it; or nothing, where it may not stand
abbrev pub TargetIn : Design → ProcessKind → Target → Option Written → Type 0
TargetIn d k t (Some x) = IsWritten d k t x
TargetIn d k t None = may_be_target d k t ≡ false

-- ---- targets behind their number

abbrev pub counted_targets : Counted Target → List Mark
counted_targets = counted_marks targets_marks

-- targets that may stand together: their widths are at most 255
abbrev pub may_be_targets : Design → ProcessKind → List Target → Bool
may_be_targets d k ts = fits_all (may_write d k) target_nodes (width_named d) (most limit.Nodes) 255 ts

pub record AreWritten (d : Design) (k : ProcessKind) (ts : List Target) (x : Targets) : Type 0 where
  pub items_are : x.items ≡ ts
  pub nodes_are : x.nodes ≡ total (map target_nodes ts)
  pub stand : may_be_targets d k ts ≡ true
  pub width_is : x.width ≡ total (map (width_named d) ts)

-- what is held of targets: they; or nothing, where they may not stand together
abbrev pub TargetsIn : Design → ProcessKind → List Target → Option Targets → Type 0
TargetsIn d k ts (Some x) = AreWritten d k ts x
TargetsIn d k ts None = may_be_targets d k ts ≡ false

-- what is held of targets that were read so far
abbrev pub SoFar : Design → ProcessKind → List Target → Bool → Targets → Type 0
SoFar d k ts true x = TargetsIn d k ts (Some x)
SoFar d k ts false x = TargetsIn d k ts None

-- ---- targets and the value

abbrev pub Assigning : Type 0
Assigning = (targets : List Target) × Typed

-- as they are read
abbrev pub Assignment : Type 0
Assignment = (targets : Counted Target) × Typed

abbrev pub assignment_marks : Assignment → List Mark
assignment_marks p = counted_targets p.0 ++ marks tokens_of p.1

abbrev pub assigned_by : Assignment → Assigning
assigned_by p = (p.0.1.items, p.1)

-- targets that take the value, with no more nodes than a design may have
abbrev pub may_assign : Design → ProcessKind → Assigning → Bool
may_assign d k p = takes_value d k p.0 p.1 && nat_le (assigned_nodes p.0 p.1) (most limit.Nodes)

pub record IsAssigned (d : Design) (k : ProcessKind) (p : Assigning) (x : Assigned) : Type 0 where
  pub targets_are : x.targets ≡ p.0
  pub value_is : x.value ≡ p.1
  pub nodes_are : x.nodes ≡ assigned_nodes p.0 p.1
  pub stands : may_assign d k p ≡ true

-- what is held of targets and a value: they; or nothing, where they may not stand
abbrev pub AssignedIn : Design → ProcessKind → Assigning → Option Assigned → Type 0
AssignedIn d k p (Some x) = IsAssigned d k p x
AssignedIn d k p None = may_assign d k p ≡ false
