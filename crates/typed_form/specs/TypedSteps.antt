-- The typed form of a statement (this project's own): its steps. At the head of each arm stand steps that count, as many as
-- `marks` has counters for the arm's event; in a design as it comes from a source there are none.
use Rattle.std.specs.Prelude.{ℕ, Bool, List, [], ◌∷◌, ◌++◌, map, flat_map, Option, Some, None}
use Rattle.cov_types.specs.declared.place.Place.{Place}
use Rattle.elab_types.specs.declared.flat_source.FlatVar.{FlatVar}
use Rattle.elab_types.specs.declared.flat_expression.FlatExpr.{FlatExpr}
use Rattle.elab_types.specs.declared.flat_statement.FlatStmt.{FlatStmt}
use Rattle.elab_types.specs.declared.flat_statement.FlatKind.TheVariants as k
use Rattle.elab_types.specs.declared.flat_statement.FlatArm.{FlatArm, out-FlatArm}
use Rattle.design_tree.specs.declared.typed.Typed.{Typed}
use Rattle.design_tree.specs.declared.step.Target.{Target}
use Rattle.design_tree.specs.declared.step.Piece.{Piece}
use Rattle.design_tree.specs.declared.step.StepItem.{StepItem}
use Rattle.design_tree.specs.declared.step.StepArm.{StepArm}
use Rattle.design_tree.specs.declared.step.Step.{Step}
use Rattle.design_tree.specs.declared.step.Step.TheVariants as s
use Rattle.source_meaning.specs.Events.{Event, Arm, yes_arm, no_arm, case_arm, unwritten}
use Rattle.source_meaning.specs.Meaning.{Meaning, greatest_size, all_signed}
use Rattle.source_meaning.specs.Assignments.{total_width}
use Rattle.source_meaning.specs.Cases.{compared_bits}
use Rattle.flat_meaning.specs.Expressions.{meaning}
use Rattle.flat_meaning.specs.FlatTrees.{flat_stmt as stmt, flat_arm as arm}
use Rattle.design_meaning.specs.Steps.{step_arm}
use Rattle.typed_form.specs.Nodes.{test}
use Rattle.typed_form.specs.TypedExpressions.{IsTyped, IsTypedAlone, IsAssigned}
use Rattle.typed_form.specs.TypedTargets.{AreTargets}
use Rattle.typed_form.specs.TypedTexts.{ArePieces, all_formats}

-- the expression of a `case` and all its items
abbrev pub compared_all : List FlatVar → FlatExpr → List FlatArm → List Meaning
compared_all vars on arms = meaning vars on ∷ flat_map (λ a. map (meaning vars) (out-FlatArm a).items) arms

-- the items of an arm, at the size and sign of the whole `case`: all bits but the free ones are compared
pub data AreItems (vars : List FlatVar) (size : ℕ) (by_sign : Bool) : List FlatExpr → List StepItem → Type 0 where
  no_items : AreItems vars size by_sign [] []
  more_items : {of : FlatExpr} {rest : List FlatExpr} {a : Typed} {items : List StepItem}
      → IsTyped vars of size by_sign a → AreItems vars size by_sign rest items
      → AreItems vars size by_sign (of ∷ rest) (record { mask = compared_bits size (meaning vars of); value = a } ∷ items)

module _ (vars : List FlatVar) (scope : ℕ) (marks : Event → List ℕ) where
  -- the counters of an arm
  abbrev pub counts : Place → Arm → List Step
  counts p which = map s.Count (marks (record { scope = scope; place = p; arm = which }))

  mutual
    -- a statement and its steps
    pub data AreSteps : FlatStmt → List Step → Type 0 where
      -- Blocks and empty statements leave no step.
      empty : {p : Place} → AreSteps (stmt p k.Empty) []
      block : {p last : Place} {body : List FlatStmt} {steps : List Step} → AreStepsOfAll body steps → AreSteps (stmt p (k.Block body last)) steps
      if_alone : {p : Place} {on : FlatExpr} {first : FlatStmt} {a : Typed} {ys : List Step}
          → IsTypedAlone vars on a → AreSteps first ys
          → AreSteps (stmt p (k.If on first None)) (s.If (test a) (counts p yes_arm ++ ys) (counts p no_arm) ∷ [])
      if_else : {p : Place} {on : FlatExpr} {first second : FlatStmt} {a : Typed} {ys ns : List Step}
          → IsTypedAlone vars on a → AreSteps first ys → AreSteps second ns
          → AreSteps (stmt p (k.If on first (Some second))) (s.If (test a) (counts p yes_arm ++ ys) (counts p no_arm ++ ns) ∷ [])
      case : {p : Place} {wild : Bool} {on : FlatExpr} {arms : List FlatArm} {a : Typed} {step_arms : List StepArm} {rest : List Step}
          → IsTyped vars on (greatest_size (compared_all vars on arms)) (all_signed (compared_all vars on arms)) a
          → AreArms (greatest_size (compared_all vars on arms)) (all_signed (compared_all vars on arms)) arms step_arms
          → IsRest p arms rest
          → AreSteps (stmt p (k.Case wild on arms)) (s.Case a step_arms rest ∷ [])
      set : {p : Place} {target value : FlatExpr} {ts : List Target} {a : Typed}
          → AreTargets vars target ts → IsAssigned vars (total_width (meaning vars target).objects) value a
          → AreSteps (stmt p (k.Set target value)) (s.Set ts a ∷ [])
      later : {p : Place} {target value : FlatExpr} {ts : List Target} {a : Typed}
          → AreTargets vars target ts → IsAssigned vars (total_width (meaning vars target).objects) value a
          → AreSteps (stmt p (k.Later target value)) (s.Later ts a ∷ [])
      show : {p : Place} {text : Option (List ℕ)} {values : List FlatExpr} {pieces : List Piece}
          → ArePieces vars (all_formats text) values pieces → AreSteps (stmt p (k.Show text values)) (s.Show pieces ∷ [])
      finish : {p : Place} → AreSteps (stmt p k.Finish) (s.Finish ∷ [])
      stop : {p : Place} → AreSteps (stmt p k.Stop) (s.Stop ∷ [])

    -- statements in turn
    pub data AreStepsOfAll : List FlatStmt → List Step → Type 0 where
      no_stmts : AreStepsOfAll [] []
      more_stmts : {first : FlatStmt} {rest : List FlatStmt} {xs ys : List Step} → AreSteps first xs → AreStepsOfAll rest ys
          → AreStepsOfAll (first ∷ rest) (xs ++ ys)

    -- the arms with items, in order; a default is none of them
    pub data AreArms : ℕ → Bool → List FlatArm → List StepArm → Type 0 where
      no_arms : {size : ℕ} {by_sign : Bool} → AreArms size by_sign [] []
      listed : {size : ℕ} {by_sign : Bool} {p : Place} {item : FlatExpr} {items : List FlatExpr} {body : FlatStmt} {rest : List FlatArm} {its : List StepItem}
          {steps : List Step} {step_arms : List StepArm}
          → AreItems vars size by_sign (item ∷ items) its → AreSteps body steps → AreArms size by_sign rest step_arms
          → AreArms size by_sign (arm p (item ∷ items) body ∷ rest) (step_arm its (counts p case_arm ++ steps) ∷ step_arms)
      default_apart : {size : ℕ} {by_sign : Bool} {p : Place} {body : FlatStmt} {rest : List FlatArm} {step_arms : List StepArm}
          → AreArms size by_sign rest step_arms → AreArms size by_sign (arm p [] body ∷ rest) step_arms

    -- what is done where no item matches: the first default, or in its place nothing
    pub data IsRest : Place → List FlatArm → List Step → Type 0 where
      no_default : {p : Place} → IsRest p [] (counts p unwritten)
      at_default : {p q : Place} {body : FlatStmt} {rest : List FlatArm} {steps : List Step} → AreSteps body steps
          → IsRest p (arm q [] body ∷ rest) (counts q case_arm ++ steps)
      past : {p q : Place} {item : FlatExpr} {items : List FlatExpr} {body : FlatStmt} {rest : List FlatArm} {steps : List Step}
          → IsRest p rest steps → IsRest p (arm q (item ∷ items) body ∷ rest) steps
