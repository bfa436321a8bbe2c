-- Whether flat statements are well formed, by their parts.
use Rattle.std.proofs.Common.{◌≡◌, ◌∙◌, sym, ap, ℕ, List, Bool, map, Option, Some, None, ◌&&◌}
use Rattle.std.specs.List.{list_all}
use Rattle.cov_types.specs.declared.place.Place.{Place}
use Rattle.elab_types.specs.declared.flat_expression.FlatExpr.{FlatExpr}
use Rattle.elab_types.specs.declared.flat_statement.FlatStmt.{FlatStmt, fold-roll-FlatStmt}
use Rattle.elab_types.specs.declared.flat_statement.FlatKind.{FlatKind, fold-FlatKind, fold-roll-FlatKind}
use Rattle.elab_types.specs.declared.flat_statement.FlatKind.TheVariants as v
use Rattle.elab_types.specs.declared.flat_statement.FlatKind.TheOpen as k
use Rattle.elab_types.specs.declared.flat_statement.FlatArm.{FlatArm, fold-FlatArm, fold-roll-FlatArm}
use Rattle.flat_meaning.specs.FlatTrees.{flat_stmt as stmt, flat_arm as case_arm}
use Rattle.typed_drive_laws.specs.FormedBodies.{FormedArm, is_default, kind_formed, arm_formed, is_formed}

module _ (test : FlatExpr → Bool) where
  abbrev pub of_placed : k.FlatStmt-F Bool FormedArm Bool → Bool
  of_placed s = s.what

  abbrev pub kinds : FlatKind → Bool
  kinds = fold-FlatKind Bool FormedArm Bool (kind_formed test) (arm_formed test) of_placed

  abbrev pub arms : FlatArm → FormedArm
  arms = fold-FlatArm Bool FormedArm Bool (kind_formed test) (arm_formed test) of_placed

  of-stmt : (p : Place) (what : FlatKind) → is_formed test (stmt p what) ≡ kinds what
  of-stmt p what = fold-roll-FlatStmt Bool FormedArm Bool (kind_formed test) (arm_formed test) of_placed (record { place = p; what = what })

  pub of-arm : (p : Place) (items : List FlatExpr) (body : FlatStmt) → arms (case_arm p items body) ≡ record
      { is_default = is_default items; formed = list_all test items && is_formed test body }
  of-arm p items body = fold-roll-FlatArm Bool FormedArm Bool (kind_formed test) (arm_formed test) of_placed (record { place = p; items = items; body = body })

  pub of-Empty : (p : Place) → is_formed test (stmt p (v.Empty)) ≡ kind_formed test (k.Empty)
  of-Empty p = of-stmt p _ ∙ ap kinds (sym (v.rolls-Empty)) ∙ fold-roll-FlatKind Bool FormedArm Bool (kind_formed test) (arm_formed test) of_placed (k.Empty)

  pub of-Block : (p : Place) (body : List FlatStmt) (last : Place)
      → is_formed test (stmt p (v.Block body last)) ≡ kind_formed test (k.Block (map (is_formed test) body) last)
  of-Block p body last = of-stmt p _ ∙ ap kinds (sym (v.rolls-Block body last))
      ∙ fold-roll-FlatKind Bool FormedArm Bool (kind_formed test) (arm_formed test) of_placed (k.Block body last)

  pub of-If : (p : Place) (on : FlatExpr) (first : FlatStmt)
      → is_formed test (stmt p (v.If on first None)) ≡ kind_formed test (k.If on (is_formed test first) None)
  of-If p on first = of-stmt p _ ∙ ap kinds (sym (v.rolls-If on first None))
      ∙ fold-roll-FlatKind Bool FormedArm Bool (kind_formed test) (arm_formed test) of_placed (k.If on first None)

  pub of-If-else : (p : Place) (on : FlatExpr) (first second : FlatStmt)
      → is_formed test (stmt p (v.If on first (Some second))) ≡ kind_formed test (k.If on (is_formed test first) (Some (is_formed test second)))
  of-If-else p on first second = of-stmt p _ ∙ ap kinds (sym (v.rolls-If on first (Some second)))
      ∙ fold-roll-FlatKind Bool FormedArm Bool (kind_formed test) (arm_formed test) of_placed (k.If on first (Some second))

  pub of-Case : (p : Place) (wild : Bool) (on : FlatExpr) (all : List FlatArm)
      → is_formed test (stmt p (v.Case wild on all)) ≡ kind_formed test (k.Case wild on (map arms all))
  of-Case p wild on all = of-stmt p _ ∙ ap kinds (sym (v.rolls-Case wild on all))
      ∙ fold-roll-FlatKind Bool FormedArm Bool (kind_formed test) (arm_formed test) of_placed (k.Case wild on all)

  pub of-Set : (p : Place) (target e : FlatExpr) → is_formed test (stmt p (v.Set target e)) ≡ kind_formed test (k.Set target e)
  of-Set p target e = of-stmt p _ ∙ ap kinds (sym (v.rolls-Set target e))
      ∙ fold-roll-FlatKind Bool FormedArm Bool (kind_formed test) (arm_formed test) of_placed (k.Set target e)

  pub of-Later : (p : Place) (target e : FlatExpr) → is_formed test (stmt p (v.Later target e)) ≡ kind_formed test (k.Later target e)
  of-Later p target e = of-stmt p _ ∙ ap kinds (sym (v.rolls-Later target e))
      ∙ fold-roll-FlatKind Bool FormedArm Bool (kind_formed test) (arm_formed test) of_placed (k.Later target e)

  pub of-Show : (p : Place) (text : Option (List ℕ)) (values : List FlatExpr)
      → is_formed test (stmt p (v.Show text values)) ≡ kind_formed test (k.Show text values)
  of-Show p text values = of-stmt p _ ∙ ap kinds (sym (v.rolls-Show text values))
      ∙ fold-roll-FlatKind Bool FormedArm Bool (kind_formed test) (arm_formed test) of_placed (k.Show text values)

  pub of-Finish : (p : Place) → is_formed test (stmt p (v.Finish)) ≡ kind_formed test (k.Finish)
  of-Finish p = of-stmt p _ ∙ ap kinds (sym (v.rolls-Finish)) ∙ fold-roll-FlatKind Bool FormedArm Bool (kind_formed test) (arm_formed test) of_placed (k.Finish)

  pub of-Stop : (p : Place) → is_formed test (stmt p (v.Stop)) ≡ kind_formed test (k.Stop)
  of-Stop p = of-stmt p _ ∙ ap kinds (sym (v.rolls-Stop)) ∙ fold-roll-FlatKind Bool FormedArm Bool (kind_formed test) (arm_formed test) of_placed (k.Stop)
