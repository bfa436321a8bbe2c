-- Valid processes: what each kind of process may be (docs/formats.md, "Design files").
use Rattle.std.specs.Prelude.{◌≡◌, ℕ, Bool, false, ◌||◌, List, [], ◌∷◌, All, IsTrue}
use Rattle.design_tree.specs.declared.typed.Typed.{Typed}
use Rattle.design_tree.specs.declared.step.Target.{Target}
use Rattle.design_tree.specs.declared.step.Step.{Step}
use Rattle.design_tree.specs.declared.step.Step.TheVariants as step
use Rattle.cov_types.specs.declared.kind.VarKind.{VarKind}
use Rattle.cov_types.specs.declared.kind.VarKind.TheVariants as var_kind
use Rattle.cov_types.specs.declared.kind.ProcessKind.{ProcessKind}
use Rattle.cov_types.specs.declared.kind.ProcessKind.TheVariants as kind
use Rattle.design_tree.specs.declared.design.Process.{Process}
use Rattle.design_tree.specs.declared.design.Design.{Design}
use Rattle.design_meaning.specs.States.{var_of}
use Rattle.design_meaning.specs.Targets.{var_named}
use Rattle.circuit_run.specs.Kinds.{is_assign, is_cover, is_clocked, is_initial}
use Rattle.design_meaning.specs.WellFormed.{is_step, tells}
use Rattle.design_meaning.specs.Mentions.{targets_of}

-- one `set` step alone
abbrev pub IsOneSet : List Step → Type 0
IsOneSet body = (targets : List Target) × (value : Typed) × (body ≡ step.Set targets value ∷ [])

abbrev pub IsCount : Step → Type 0
IsCount one = (counter : ℕ) × (one ≡ step.Count counter)

-- one `if` with `count` steps alone
abbrev pub IsOneTest : List Step → Type 0
IsOneTest body = (test : Typed) × (left : List Step) × (right : List Step) × (body ≡ step.If test left right ∷ []) × All IsCount left × All IsCount right

-- an assignment writes wires, any other process regs
abbrev pub kind_written : ProcessKind → VarKind
kind_written kind.Assign = var_kind.Wire
kind_written _ = var_kind.Reg

-- a clocked or an initial process may print and end the run
abbrev pub may_tell : ProcessKind → Bool
may_tell k = is_clocked k || is_initial k

-- a process of a design with so many counters
pub record IsProcess (d : Design) (counters : ℕ) (p : Process) : Type 0 where
  pub formed : All (λ one. IsTrue (is_step d counters one)) p.body
  pub assigns : IsTrue (is_assign p.kind) → IsOneSet p.body
  pub covers : IsTrue (is_cover p.kind) → IsOneTest p.body
  pub writes : All (λ target. (var_of d (var_named target)).kind ≡ kind_written p.kind) (targets_of p)
  pub tells_only : (may_tell p.kind ≡ false) → All (λ one. tells one ≡ false) p.body
