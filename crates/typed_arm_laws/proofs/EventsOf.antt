-- The events of the arms of flat statements, by their parts.
use Rattle.std.proofs.Common.{◌≡◌, ◌∙◌, sym, ap, ℕ, List, ◌∷◌, Bool, map, Option, Some, None}
use Rattle.cov_types.specs.declared.place.Place.{Place}
use Rattle.elab_types.specs.declared.flat_expression.FlatExpr.{FlatExpr}
use Rattle.elab_types.specs.declared.flat_statement.FlatStmt.{FlatStmt, fold-roll-FlatStmt}
use Rattle.elab_types.specs.declared.flat_statement.FlatKind.{FlatKind, fold-FlatKind, fold-roll-FlatKind}
use Rattle.elab_types.specs.declared.flat_statement.FlatKind.TheVariants as v
use Rattle.elab_types.specs.declared.flat_statement.FlatKind.TheOpen as k
use Rattle.elab_types.specs.declared.flat_statement.FlatArm.{FlatArm, fold-FlatArm, fold-roll-FlatArm}
use Rattle.source_meaning.specs.Events.{Event, case_arm}
use Rattle.flat_meaning.specs.FlatTrees.{flat_stmt as stmt, flat_arm}
use Rattle.typed_drive_laws.specs.FormedBodies.{is_default}
use Rattle.typed_arm_laws.specs.FlatArms.{ArmEvents, entering, kind_events, arm_events, events}

module _ (scope : ℕ) where
  abbrev pub of_placed : k.FlatStmt-F (Place → List Event) ArmEvents (List Event) → List Event
  of_placed s = s.what s.place

  abbrev pub kinds : FlatKind → Place → List Event
  kinds = fold-FlatKind (Place → List Event) ArmEvents (List Event) (kind_events scope) (arm_events scope) of_placed

  abbrev pub arms : FlatArm → ArmEvents
  arms = fold-FlatArm (Place → List Event) ArmEvents (List Event) (kind_events scope) (arm_events scope) of_placed

  of-stmt : (p : Place) (what : FlatKind) → events scope (stmt p what) ≡ kinds what p
  of-stmt p what = fold-roll-FlatStmt (Place → List Event) ArmEvents (List Event) (kind_events scope) (arm_events scope) of_placed
      (record { place = p; what = what })

  pub of-arm : (p : Place) (items : List FlatExpr) (body : FlatStmt) → arms (flat_arm p items body) ≡ record
      { is_default = is_default items; entered = entering scope p case_arm ∷ events scope body }
  of-arm p items body = fold-roll-FlatArm (Place → List Event) ArmEvents (List Event) (kind_events scope) (arm_events scope) of_placed
      (record { place = p; items = items; body = body })

  pub of-Empty : (p : Place) → events scope (stmt p (v.Empty)) ≡ kind_events scope (k.Empty) p
  of-Empty p = of-stmt p _ ∙ ap (λ f. f p) (ap kinds (sym (v.rolls-Empty))) ∙ ap (λ f. f p)
      (fold-roll-FlatKind (Place → List Event) ArmEvents (List Event) (kind_events scope) (arm_events scope) of_placed (k.Empty))

  pub of-Block : (p : Place) (body : List FlatStmt) (last : Place)
      → events scope (stmt p (v.Block body last)) ≡ kind_events scope (k.Block (map (events scope) body) last) p
  of-Block p body last = of-stmt p _ ∙ ap (λ f. f p) (ap kinds (sym (v.rolls-Block body last)))
      ∙ ap (λ f. f p) (fold-roll-FlatKind (Place → List Event) ArmEvents (List Event) (kind_events scope) (arm_events scope) of_placed (k.Block body last))

  pub of-If : (p : Place) (on : FlatExpr) (first : FlatStmt)
      → events scope (stmt p (v.If on first None)) ≡ kind_events scope (k.If on (events scope first) None) p
  of-If p on first = of-stmt p _ ∙ ap (λ f. f p) (ap kinds (sym (v.rolls-If on first None)))
      ∙ ap (λ f. f p) (fold-roll-FlatKind (Place → List Event) ArmEvents (List Event) (kind_events scope) (arm_events scope) of_placed (k.If on first None))

  pub of-If-else : (p : Place) (on : FlatExpr) (first second : FlatStmt)
      → events scope (stmt p (v.If on first (Some second))) ≡ kind_events scope (k.If on (events scope first) (Some (events scope second))) p
  of-If-else p on first second = of-stmt p _ ∙ ap (λ f. f p) (ap kinds (sym (v.rolls-If on first (Some second))))
      ∙ ap (λ f. f p) (fold-roll-FlatKind (Place → List Event) ArmEvents (List Event) (kind_events scope) (arm_events scope) of_placed
      (k.If on first (Some second)))

  pub of-Case : (p : Place) (wild : Bool) (on : FlatExpr) (all : List FlatArm)
      → events scope (stmt p (v.Case wild on all)) ≡ kind_events scope (k.Case wild on (map arms all)) p
  of-Case p wild on all = of-stmt p _ ∙ ap (λ f. f p) (ap kinds (sym (v.rolls-Case wild on all)))
      ∙ ap (λ f. f p) (fold-roll-FlatKind (Place → List Event) ArmEvents (List Event) (kind_events scope) (arm_events scope) of_placed (k.Case wild on all))

  pub of-Set : (p : Place) (target e : FlatExpr) → events scope (stmt p (v.Set target e)) ≡ kind_events scope (k.Set target e) p
  of-Set p target e = of-stmt p _ ∙ ap (λ f. f p) (ap kinds (sym (v.rolls-Set target e)))
      ∙ ap (λ f. f p) (fold-roll-FlatKind (Place → List Event) ArmEvents (List Event) (kind_events scope) (arm_events scope) of_placed (k.Set target e))

  pub of-Later : (p : Place) (target e : FlatExpr) → events scope (stmt p (v.Later target e)) ≡ kind_events scope (k.Later target e) p
  of-Later p target e = of-stmt p _ ∙ ap (λ f. f p) (ap kinds (sym (v.rolls-Later target e)))
      ∙ ap (λ f. f p) (fold-roll-FlatKind (Place → List Event) ArmEvents (List Event) (kind_events scope) (arm_events scope) of_placed (k.Later target e))

  pub of-Show : (p : Place) (text : Option (List ℕ)) (values : List FlatExpr)
      → events scope (stmt p (v.Show text values)) ≡ kind_events scope (k.Show text values) p
  of-Show p text values = of-stmt p _ ∙ ap (λ f. f p) (ap kinds (sym (v.rolls-Show text values)))
      ∙ ap (λ f. f p) (fold-roll-FlatKind (Place → List Event) ArmEvents (List Event) (kind_events scope) (arm_events scope) of_placed (k.Show text values))

  pub of-Finish : (p : Place) → events scope (stmt p (v.Finish)) ≡ kind_events scope (k.Finish) p
  of-Finish p = of-stmt p _ ∙ ap (λ f. f p) (ap kinds (sym (v.rolls-Finish))) ∙ ap (λ f. f p)
      (fold-roll-FlatKind (Place → List Event) ArmEvents (List Event) (kind_events scope) (arm_events scope) of_placed (k.Finish))

  pub of-Stop : (p : Place) → events scope (stmt p (v.Stop)) ≡ kind_events scope (k.Stop) p
  of-Stop p = of-stmt p _ ∙ ap (λ f. f p) (ap kinds (sym (v.rolls-Stop))) ∙ ap (λ f. f p)
      (fold-roll-FlatKind (Place → List Event) ArmEvents (List Event) (kind_events scope) (arm_events scope) of_placed (k.Stop))
