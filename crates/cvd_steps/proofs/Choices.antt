-- Choices and arms, from the parts that are read one behind the other.
use Rattle.std.proofs.Common.{◌≡◌, ℕ, ◌+◌, List, [], ◌∷◌, ◌++◌, codes, sym, ◌∙◌, ap, subst}
use Rattle.design_tree.specs.declared.step.Step.{Step}
use Rattle.design_tree.specs.declared.step.StepArm.{StepArm}
use Rattle.design_tree.specs.declared.step.StepItem.{StepItem}
use Rattle.design_tree.specs.declared.typed.Typed.{Typed}
use Rattle.design_meaning.specs.Widths.{width_of}
use Rattle.spelling_laws.specs.Spelled.{Apart}
use Rattle.spelling_laws.specs.Lists.{Many}
use Rattle.spelling_laws.proofs.Counted.{some_many, all_apart}
use Rattle.spelling_laws.proofs.Fitting.{assoc}
use Rattle.spelling_laws.proofs.Then as after
use Rattle.cvd_text.specs.Expressions.{tokens_of}
use Rattle.cvd_text.specs.Lines.{Load, added, stands}
use Rattle.cvd_text.specs.Pieces.{Mark, token, fits}
use Rattle.cvd_text.specs.Steps.{Around, Spot}
use Rattle.cvd_text.specs.Tokens.{number}
use Rattle.cvd_cursor.specs.Numerals.{number_tokens}
use Rattle.cvd_cursor.specs.Places.{Reading}
use Rattle.cvd_cursor.specs.Reads.{Takes, Refused, marks, line_marks}
use Rattle.cvd_cursor.specs.declared.fault.ReadFault.{ReadFault}
use Rattle.cvd_cursor.proofs.Composed.{takes_both, refused_first, refused_second, takes_as, refused_by}
use Rattle.cvd_step_laws.specs.StepMarks.{this_word, block_marks, case_line, arm_line, arm_marks, arms_marks, behind_arm, behind_arms, items_marks}
use Rattle.cvd_step_laws.specs.StepMarks.{behind_items, chosen_marks, Chosen, ArmParts}
use Rattle.cvd_step_laws.proofs.PartsApart.{apart_end, apart_word, apart_items, number_then, value_then}
use Rattle.cvd_step_laws.proofs.StepParts.{made_arm, parts_of_arm, arm_alike, arm_alike_to}
use Rattle.cvd_step_laws.proofs.StepsApart.{apart_arm}
use Rattle.cvd_steps.specs.Lines.{case_marks, arm_line_marks}
use Rattle.cvd_steps.proofs.Somes.{some_item, some_arm}

-- ---- choices

module _ (around : Around) (before : Load) (at : Spot) where
  abbrev First : Type 0
  First = (n : ℕ) × ((on : Typed) × Unit {0})

  abbrev Rest : First → Type 0
  Rest p = (arms : Many StepArm p.0) × List Step

  abbrev behind : First → Load
  behind p = added before (case_line around at p.0 p.1.0).load

  abbrev width : First → ℕ
  width p = width_of around.design p.1.0

  abbrev arms_of : ℕ → Load → (n : ℕ) → Many StepArm n → List Mark
  arms_of w load n = arms_marks around w at.deep load n

  abbrev block : Load → List Step → List Mark
  block load steps = block_marks around load (at.deep + 1) steps

  abbrev rest_marks : (p : First) → Rest p → List Mark
  rest_marks p q = arms_of (width p) (behind p) p.0 q.0 ++ block (behind_arms around (width p) at.deep (behind p) q.0.items) q.1

  abbrev Whole : Type 0
  Whole = (first : First) × Rest first

  abbrev whole_marks : Whole → List Mark
  whole_marks p = case_marks around before at p.0 ++ rest_marks p.0 p.1

  abbrev to : Whole → Chosen
  to p = (p.0.0, (p.0.1.0, (p.0.1.1, (p.1.0, p.1.1))))

  abbrev from : Chosen → Whole
  from p = ((p.0, (p.1.0, p.1.1.0)), (p.1.1.1.0, p.1.1.1.1))

  alike_to : (p : Whole) → chosen_marks around before at (to p) ≡ whole_marks p
  alike_to p =
      ap (λ l. token (number p.0.0) ∷ l)
      (sym (assoc (marks tokens_of p.0.1.0) (line_marks (stands before (case_line around at p.0.0 p.0.1.0)) p.0.1.1) (rest_marks p.0 p.1)))

  alike : (p : Chosen) → chosen_marks around before at p ≡ whole_marks (from p)
  alike p = alike_to (from p)

  apart_first : Apart fits (case_marks around before at)
  apart_first p =
      number_then (λ n. (on : Typed) × Unit {0}) (λ n q. marks tokens_of q.0 ++ line_marks (stands before (case_line around at n q.0)) q.1) p.0 p.1
      (value_then (λ t. Unit {0}) (λ t. line_marks (stands before (case_line around at p.0 t))) p.1.0 p.1.1
      (apart_end (stands before (case_line around at p.0 p.1.0)) p.1.1))

  pub chosen_no_line : (old new : Reading) (fault : ReadFault) → Refused (case_marks around before at) old fault new
      → Refused (chosen_marks around before at) old fault new
  chosen_no_line old new fault r =
      refused_by Whole Chosen to from whole_marks (chosen_marks around before at) alike alike_to old new fault
      (refused_first First Rest (case_marks around before at) rest_marks apart_first (λ p. (some_many some_arm p.0, [])) old new fault r)

  module _ (first : First) (load : Load) (same : load ≡ behind first) (w : ℕ) (wide : w ≡ width first) (old mid : Reading)
      (h : Takes (case_marks around before at) old mid first) where
    pub chosen_no_arms : (new : Reading) (fault : ReadFault) → Refused (arms_of w load first.0) mid fault new
        → Refused (chosen_marks around before at) old fault new
    chosen_no_arms new fault r =
        refused_by Whole Chosen to from whole_marks (chosen_marks around before at) alike alike_to old new fault
        (refused_second First Rest (case_marks around before at) rest_marks first (apart_first first) old mid new fault h
        (refused_first (Many StepArm first.0) (λ m. List Step) (arms_of (width first) (behind first) first.0)
        (λ m. block (behind_arms around (width first) at.deep (behind first) m.items)) (apart_all first) (λ m. []) mid new fault
        (subst (λ k. Refused (arms_of k (behind first) first.0) mid fault new) wide (subst (λ b. Refused (arms_of w b first.0) mid fault new) same r))))
      where
        apart_all : (first : First) → Apart fits (arms_of (width first) (behind first) first.0)
        apart_all first =
            all_apart fits StepArm Load (arm_marks around (width first) at.deep) (behind_arm around (width first) at.deep)
            (λ s. apart_arm around (width first) at.deep s) first.0 (behind first)

    module _ (arms : Many StepArm first.0) (next : Load) (after : next ≡ behind_arms around w at.deep load arms.items) (last : Reading)
        (t : Takes (arms_of w load first.0) mid last arms) where
      here : Takes (arms_of (width first) (behind first) first.0) mid last arms
      here = subst (λ k. Takes (arms_of k (behind first) first.0) mid last arms) wide (subst (λ b. Takes (arms_of w b first.0) mid last arms) same t)

      is : next ≡ behind_arms around (width first) at.deep (behind first) arms.items
      is = after ∙ ap (λ b. behind_arms around w at.deep b arms.items) same ∙ ap (λ k. behind_arms around k at.deep (behind first) arms.items) wide

      apart_these : Apart fits (arms_of (width first) (behind first) first.0)
      apart_these =
          all_apart fits StepArm Load (arm_marks around (width first) at.deep) (behind_arm around (width first) at.deep)
          (λ s. apart_arm around (width first) at.deep s) first.0 (behind first)

      pub chosen_no_rest : (new : Reading) (fault : ReadFault) → Refused (block next) last fault new → Refused (chosen_marks around before at) old fault new
      chosen_no_rest new fault r =
          refused_by Whole Chosen to from whole_marks (chosen_marks around before at) alike alike_to old new fault
          (refused_second First Rest (case_marks around before at) rest_marks first (apart_first first) old mid new fault h
          (refused_second (Many StepArm first.0) (λ m. List Step) (arms_of (width first) (behind first) first.0)
          (λ m. block (behind_arms around (width first) at.deep (behind first) m.items)) arms (apart_these arms) mid last new fault here
          (subst (λ b. Refused (block b) last fault new) is r)))

      pub chosen_takes : (new : Reading) (rest : List Step) → Takes (block next) last new rest
          → Takes (chosen_marks around before at) old new (first.0, (first.1.0, (first.1.1, (arms, rest))))
      chosen_takes new rest s =
          takes_as Whole Chosen to from whole_marks (chosen_marks around before at) alike alike_to old new (first, (arms, rest))
          (takes_both First Rest (case_marks around before at) rest_marks old mid new first (arms, rest) h
          (takes_both (Many StepArm first.0) (λ m. List Step) (arms_of (width first) (behind first) first.0)
          (λ m. block (behind_arms around (width first) at.deep (behind first) m.items)) mid last new arms rest here
          (subst (λ b. Takes (block b) last new rest) is s)))

-- ---- arms

module _ (around : Around) (width deep : ℕ) (before : Load) where
  abbrev ArmFirst : Type 0
  ArmFirst = (word : Unit {0}) × ((n : ℕ) × Unit {0})

  abbrev ArmRest : ArmFirst → Type 0
  ArmRest p = (items : Many StepItem p.1.0) × List Step

  abbrev items_of : (n : ℕ) → Many StepItem n → List Mark
  items_of n = items_marks around width before n

  abbrev body : Load → List Step → List Mark
  body load steps = block_marks around load (deep + 1) steps

  abbrev arm_rest : (p : ArmFirst) → ArmRest p → List Mark
  arm_rest p q = items_of p.1.0 q.0 ++ body (behind_items around width before q.0.items) q.1

  abbrev WholeArm : Type 0
  WholeArm = (first : ArmFirst) × ArmRest first

  abbrev whole_arm : WholeArm → List Mark
  whole_arm p = arm_line_marks before p.0 ++ arm_rest p.0 p.1

  abbrev to_parts : WholeArm → ArmParts
  to_parts p = (p.0.0, (p.0.1.0, (p.0.1.1, (p.1.0, p.1.1))))

  abbrev from_parts : ArmParts → WholeArm
  from_parts p = ((p.0, (p.1.0, p.1.1.0)), (p.1.1.1.0, p.1.1.1.1))

  abbrev to_arm : WholeArm → StepArm
  to_arm p = made_arm (to_parts p)

  abbrev from_arm : StepArm → WholeArm
  from_arm arm = from_parts (parts_of_arm arm)

  arm_like_to : (p : WholeArm) → arm_marks around width deep before (to_arm p) ≡ whole_arm p
  arm_like_to p = arm_alike_to around width deep before (to_parts p)

  arm_like : (arm : StepArm) → arm_marks around width deep before arm ≡ whole_arm (from_arm arm)
  arm_like arm = arm_alike around width deep before arm

  apart_arm_line : Apart fits (arm_line_marks before)
  apart_arm_line p =
      after.apart_pair fits (Unit {0}) (λ w. (n : ℕ) × Unit {0}) (marks (this_word (codes "arm")))
      (λ w q. marks number_tokens q.0 ++ line_marks (stands before (arm_line q.0)) q.1) p.0 p.1 (apart_word (codes "arm") p.0)
      (number_then (λ n. Unit {0}) (λ n. line_marks (stands before (arm_line n))) p.1.0 p.1.1 (apart_end (stands before (arm_line p.1.0)) p.1.1))

  pub arm_no_line : (old new : Reading) (fault : ReadFault) → Refused (arm_line_marks before) old fault new
      → Refused (arm_marks around width deep before) old fault new
  arm_no_line old new fault r =
      refused_by WholeArm StepArm to_arm from_arm whole_arm (arm_marks around width deep before) arm_like arm_like_to old new fault
      (refused_first ArmFirst ArmRest (arm_line_marks before) arm_rest apart_arm_line (λ p. (some_many some_item p.1.0, [])) old new fault r)

  module _ (first : ArmFirst) (old mid : Reading) (h : Takes (arm_line_marks before) old mid first) where
    pub arm_no_items : (new : Reading) (fault : ReadFault) → Refused (items_of first.1.0) mid fault new
        → Refused (arm_marks around width deep before) old fault new
    arm_no_items new fault r =
        refused_by WholeArm StepArm to_arm from_arm whole_arm (arm_marks around width deep before) arm_like arm_like_to old new fault
        (refused_second ArmFirst ArmRest (arm_line_marks before) arm_rest first (apart_arm_line first) old mid new fault h
        (refused_first (Many StepItem first.1.0) (λ m. List Step) (items_of first.1.0) (λ m. body (behind_items around width before m.items))
        (apart_items around width before first.1.0) (λ m. []) mid new fault r))

    module _ (items : Many StepItem first.1.0) (next : Load) (is : next ≡ behind_items around width before items.items) (last : Reading)
        (t : Takes (items_of first.1.0) mid last items) where
      pub arm_no_body : (new : Reading) (fault : ReadFault) → Refused (body next) last fault new → Refused (arm_marks around width deep before) old fault new
      arm_no_body new fault r =
          refused_by WholeArm StepArm to_arm from_arm whole_arm (arm_marks around width deep before) arm_like arm_like_to old new fault
          (refused_second ArmFirst ArmRest (arm_line_marks before) arm_rest first (apart_arm_line first) old mid new fault h
          (refused_second (Many StepItem first.1.0) (λ m. List Step) (items_of first.1.0) (λ m. body (behind_items around width before m.items)) items
          (apart_items around width before first.1.0 items) mid last new fault t (subst (λ b. Refused (body b) last fault new) is r)))

      pub arm_takes : (new : Reading) (steps : List Step) → Takes (body next) last new steps
          → Takes (arm_marks around width deep before) old new (to_arm (first, (items, steps)))
      arm_takes new steps s =
          takes_as WholeArm StepArm to_arm from_arm whole_arm (arm_marks around width deep before) arm_like arm_like_to old new (first, (items, steps))
          (takes_both ArmFirst ArmRest (arm_line_marks before) arm_rest old mid new first (items, steps) h
          (takes_both (Many StepItem first.1.0) (λ m. List Step) (items_of first.1.0) (λ m. body (behind_items around width before m.items))
          mid last new items steps t (subst (λ b. Takes (body b) last new steps) is s)))
