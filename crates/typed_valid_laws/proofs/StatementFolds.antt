-- Whether flat statements fit, by their parts.
use Rattle.std.proofs.Common.{◌≡◌, ◌∙◌, sym, ap, ℕ, List, Bool, true, ◌&&◌, map, Option, Some, None}
use Rattle.std.specs.List.{list_all}
use Rattle.cov_types.specs.declared.place.Place.{Place}
use Rattle.elab_types.specs.declared.flat_source.FlatVar.{FlatVar}
use Rattle.elab_types.specs.declared.flat_expression.FlatExpr.{FlatExpr}
use Rattle.elab_types.specs.declared.flat_statement.FlatStmt.{FlatStmt, fold-roll-FlatStmt}
use Rattle.elab_types.specs.declared.flat_statement.FlatKind.{FlatKind, fold-FlatKind, fold-roll-FlatKind}
use Rattle.elab_types.specs.declared.flat_statement.FlatKind.TheVariants as v
use Rattle.elab_types.specs.declared.flat_statement.FlatKind.TheOpen as k
use Rattle.elab_types.specs.declared.flat_statement.FlatArm.{FlatArm, fold-FlatArm, fold-roll-FlatArm}
use Rattle.flat_meaning.specs.FlatTrees.{flat_stmt as stmt, flat_arm}
use Rattle.design_meaning.proofs.ListLaws.{all_map}
use Rattle.typed_valid_laws.specs.StatementsFit.{expression_fits, all_fit, target_fits, kind_fits, arm_fits, statement_fits}

module _ (vars : List FlatVar) where
  abbrev of_placed : k.FlatStmt-F Bool Bool Bool → Bool
  of_placed s = s.what

  abbrev kinds : FlatKind → Bool
  kinds = fold-FlatKind Bool Bool Bool (kind_fits vars) (arm_fits vars) of_placed

  abbrev pub arm : FlatArm → Bool
  arm = fold-FlatArm Bool Bool Bool (kind_fits vars) (arm_fits vars) of_placed

  abbrev pub statement : FlatStmt → Bool
  statement = statement_fits vars

  of-stmt : (p : Place) (what : FlatKind) → statement (stmt p what) ≡ kinds what
  of-stmt p what = fold-roll-FlatStmt Bool Bool Bool (kind_fits vars) (arm_fits vars) of_placed (record { place = p; what = what })

  pub of-arm : (p : Place) (items : List FlatExpr) (body : FlatStmt) → arm (flat_arm p items body) ≡ (all_fit vars items && statement body)
  of-arm p items body = fold-roll-FlatArm Bool Bool Bool (kind_fits vars) (arm_fits vars) of_placed (record { place = p; items = items; body = body })

  pub of-Block : (p : Place) (body : List FlatStmt) (last : Place) → statement (stmt p (v.Block body last)) ≡ list_all statement body
  of-Block p body last = of-stmt p _ ∙ ap kinds (sym (v.rolls-Block body last)) ∙ fold-roll-FlatKind Bool Bool Bool (kind_fits vars) (arm_fits vars)
      of_placed (k.Block body last)
      ∙ all_map (λ (fits : Bool). fits) statement body

  pub of-If : (p : Place) (on : FlatExpr) (first : FlatStmt) → statement (stmt p (v.If on first None)) ≡ (expression_fits vars on && statement first && true)
  of-If p on first = of-stmt p _ ∙ ap kinds (sym (v.rolls-If on first None)) ∙ fold-roll-FlatKind Bool Bool Bool (kind_fits vars) (arm_fits vars) of_placed
      (k.If on first None)

  pub of-If-else : (p : Place) (on : FlatExpr) (first second : FlatStmt) → statement (stmt p (v.If on first (Some second))) ≡
      (expression_fits vars on && statement first && statement second)
  of-If-else p on first second = of-stmt p _ ∙ ap kinds (sym (v.rolls-If on first (Some second))) ∙ fold-roll-FlatKind Bool Bool Bool (kind_fits vars)
      (arm_fits vars) of_placed (k.If on first (Some second))

  pub of-Case : (p : Place) (wild : Bool) (on : FlatExpr) (all : List FlatArm) → statement (stmt p (v.Case wild on all)) ≡
      (expression_fits vars on && list_all arm all)
  of-Case p wild on all = of-stmt p _ ∙ ap kinds (sym (v.rolls-Case wild on all)) ∙ fold-roll-FlatKind Bool Bool Bool (kind_fits vars) (arm_fits vars)
      of_placed (k.Case wild on all)
      ∙ ap (λ rest. expression_fits vars on && rest) (all_map (λ (fits : Bool). fits) arm all)

  pub of-Set : (p : Place) (target e : FlatExpr) → statement (stmt p (v.Set target e)) ≡ (target_fits vars target && expression_fits vars e)
  of-Set p target e = of-stmt p _ ∙ ap kinds (sym (v.rolls-Set target e)) ∙ fold-roll-FlatKind Bool Bool Bool (kind_fits vars) (arm_fits vars) of_placed
      (k.Set target e)

  pub of-Later : (p : Place) (target e : FlatExpr) → statement (stmt p (v.Later target e)) ≡ (target_fits vars target && expression_fits vars e)
  of-Later p target e = of-stmt p _ ∙ ap kinds (sym (v.rolls-Later target e)) ∙ fold-roll-FlatKind Bool Bool Bool (kind_fits vars) (arm_fits vars) of_placed
      (k.Later target e)

  pub of-Show : (p : Place) (text : Option (List ℕ)) (values : List FlatExpr) → statement (stmt p (v.Show text values)) ≡ all_fit vars values
  of-Show p text values = of-stmt p _ ∙ ap kinds (sym (v.rolls-Show text values)) ∙ fold-roll-FlatKind Bool Bool Bool (kind_fits vars) (arm_fits vars)
      of_placed (k.Show text values)
