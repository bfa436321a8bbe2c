-- What is held of steps and arms, from what is held of their parts.
use Rattle.std.proofs.Common.{◌≡◌, ℕ, ◌+◌, true, List, codes, refl, sym, ◌∙◌, ap, subst}
use Rattle.design_tree.specs.declared.step.Piece.{Piece}
use Rattle.design_tree.specs.declared.step.Step.{Step}
use Rattle.design_tree.specs.declared.step.Step.TheVariants as step
use Rattle.design_tree.specs.declared.step.StepArm.{StepArm, roll-StepArm}
use Rattle.design_tree.specs.declared.step.Target.{Target}
use Rattle.design_tree.specs.declared.typed.Typed.{Typed}
use Rattle.design_meaning.specs.Widths.{width_of}
use Rattle.cvd_text.specs.Lines.{Load, added, is_within}
use Rattle.cvd_text.specs.Steps.{Around, Spot, sets, other}
use Rattle.cvd_step_laws.specs.LineMarks.{load_behind}
use Rattle.cvd_step_laws.specs.StepMarks.{block_lines_at, behind_arms, behind_items, ending_line, ArmParts}
use Rattle.cvd_step_laws.proofs.StepParts.{made_arm}
use Rattle.cvd_steps.specs.Bodies.{AreSums, load_of, IsBody, IsStep, IsArm, AreArms, AreItems, IsAssignedLine, IsTestLine, IsCaseLine, IsShowLine, IsCountLine}
use Rattle.cvd_steps.specs.declared.sums.Sums.{Sums}
use Rattle.cvd_steps.specs.declared.kept.Body.{Body}
use Rattle.cvd_steps.specs.declared.kept.Arms.{Arms}
use Rattle.cvd_steps.specs.declared.item.Items.{Items}
use Rattle.cvd_steps.specs.declared.line.AssignedLine.{AssignedLine}
use Rattle.cvd_steps.specs.declared.line.TestLine.{TestLine}
use Rattle.cvd_steps.specs.declared.line.CaseLine.{CaseLine}
use Rattle.cvd_steps.specs.declared.line.ShowLine.{ShowLine}
use Rattle.cvd_steps.specs.declared.line.CountLine.{CountLine}
use Rattle.cvd_steps.proofs.Loads.{load_set, load_later, load_show, load_finish, load_stop, load_count, load_if, load_case, load_arm}

-- sums are within the limits, wherever they come from
pub still_within : (l : Load) (s : Sums) → AreSums l s → is_within (load_of s) ≡ true
still_within l s h = ap is_within h.load_is ∙ h.within

module _ (around : Around) (before : Load) (at : Spot) where
  pub set_held : (targets : List Target) (value : Typed) (x : AssignedLine) → IsAssignedLine around before at sets (codes "set") targets value x
      → IsStep around before at (step.Set targets value) (record { step = step.Set x.targets x.value; sums = x.sums })
  set_held targets value x h = record {
    step_is = ap (λ l. step.Set l x.value) h.targets_are ∙ ap (step.Set targets) h.value_is;
    sums_are = subst (λ l. AreSums l x.sums) (sym (load_set around before at targets value)) h.sums_are;
  }

  pub later_held : (targets : List Target) (value : Typed) (x : AssignedLine) → IsAssignedLine around before at other (codes "later") targets value x
      → IsStep around before at (step.Later targets value) (record { step = step.Later x.targets x.value; sums = x.sums })
  later_held targets value x h = record {
    step_is = ap (λ l. step.Later l x.value) h.targets_are ∙ ap (step.Later targets) h.value_is;
    sums_are = subst (λ l. AreSums l x.sums) (sym (load_later around before at targets value)) h.sums_are;
  }

  pub show_held : (pieces : List Piece) (x : ShowLine) → IsShowLine around before at pieces x
      → IsStep around before at (step.Show pieces) (record { step = step.Show x.pieces; sums = x.sums })
  show_held pieces x h = record {
    step_is = ap step.Show h.pieces_are;
    sums_are = subst (λ l. AreSums l x.sums) (sym (load_show around before at pieces)) h.sums_are;
  }

  pub finish_held : (s : Sums) → AreSums (added before (ending_line around at (codes "finish")).load) s
      → IsStep around before at step.Finish (record { step = step.Finish; sums = s })
  finish_held s h = record { step_is = refl; sums_are = subst (λ l. AreSums l s) (sym (load_finish around before at)) h }

  pub stop_held : (s : Sums) → AreSums (added before (ending_line around at (codes "stop")).load) s
      → IsStep around before at step.Stop (record { step = step.Stop; sums = s })
  stop_held s h = record { step_is = refl; sums_are = subst (λ l. AreSums l s) (sym (load_stop around before at)) h }

  pub count_held : (counter : ℕ) (x : CountLine) → IsCountLine around before at counter x
      → IsStep around before at (step.Count counter) (record { step = step.Count x.counter; sums = x.sums })
  count_held counter x h = record {
    step_is = ap step.Count h.counter_is;
    sums_are = subst (λ l. AreSums l x.sums) (sym (load_count around before at counter)) h.sums_are;
  }

  pub if_held : (test : Typed) (left right : List Step) (x : TestLine) (y z : Body) → IsTestLine around before at test x
      → IsBody around (load_of x.sums) (at.deep + 1) left y → IsBody around (load_of y.sums) (at.deep + 1) right z
      → IsStep around before at (step.If test left right) (record { step = step.If x.test y.steps z.steps; sums = z.sums })
  if_held test left right x y z h k m = record {
    step_is = ap (λ t. step.If t y.steps z.steps) h.test_is ∙ ap (λ l. step.If test l z.steps) k.steps_are ∙ ap (step.If test left) m.steps_are;
    sums_are = subst (λ l. AreSums l z.sums)
        (ap (λ l. load_behind l (block_lines_at around (at.deep + 1) right)) (k.sums_are.load_is
        ∙ ap (λ l. load_behind l (block_lines_at around (at.deep + 1) left)) h.sums_are.load_is)
        ∙ sym (load_if around before at test left right)) m.sums_are;
  }

  pub case_held : (n bytes : ℕ) (on : Typed) (arms : List StepArm) (rest : List Step) (x : CaseLine) (y : Arms) (z : Body)
      → IsCaseLine around before at n on bytes x
      → AreArms (behind_arms around x.width at.deep (load_of x.sums) arms) arms y → IsBody around (load_of y.sums) (at.deep + 1) rest z
      → IsStep around before at (step.Case on arms rest) (record { step = step.Case x.on y.arms z.steps; sums = z.sums })
  case_held n bytes on arms rest x y z h k m = record {
    step_is = ap (λ t. step.Case t y.arms z.steps) h.on_is ∙ ap (λ l. step.Case on l z.steps) k.arms_are ∙ ap (step.Case on arms) m.steps_are;
    sums_are = subst (λ l. AreSums l z.sums)
        (ap (λ l. load_behind l (block_lines_at around (at.deep + 1) rest)) (k.sums_are.load_is
        ∙ ap (λ w. behind_arms around w at.deep (load_of x.sums) arms) h.width_is
        ∙ ap (λ l. behind_arms around (width_of around.design on) at.deep l arms) h.sums_are.load_is)
        ∙ sym (load_case around before at n on arms rest)) m.sums_are;
  }

module _ (around : Around) (width deep : ℕ) (before : Load) where
  pub arm_held : (p : ArmParts) (y : Items) (z : Body) → AreItems (behind_items around width before p.1.1.1.0.items) p.1.1.1.0.items y
      → IsBody around (load_of y.sums) (deep + 1) p.1.1.1.1 z
      → IsArm around width deep before (made_arm p) (record { arm = roll-StepArm (record { items = y.items; body = z.steps }); sums = z.sums })
  arm_held p y z k m = record {
    arm_is = ap (λ l. roll-StepArm (record { items = l; body = z.steps })) k.items_are
        ∙ ap (λ l. roll-StepArm (record { items = p.1.1.1.0.items; body = l })) m.steps_are;
    sums_are = subst (λ l. AreSums l z.sums)
        (ap (λ l. load_behind l (block_lines_at around (deep + 1) p.1.1.1.1)) k.sums_are.load_is ∙ sym (load_arm around width deep before p)) m.sums_are;
  }
