-- The targets of flat statements, by their parts.
use Rattle.std.proofs.Common.{◌≡◌, ◌∙◌, sym, ap, ℕ, List, Bool, map, Option, Some, None}
use Rattle.cov_types.specs.declared.place.Place.{Place}
use Rattle.elab_types.specs.declared.flat_source.FlatVar.{FlatVar}
use Rattle.elab_types.specs.declared.flat_expression.FlatExpr.{FlatExpr}
use Rattle.elab_types.specs.declared.flat_statement.FlatStmt.{FlatStmt, fold-roll-FlatStmt}
use Rattle.elab_types.specs.declared.flat_statement.FlatKind.{FlatKind, fold-FlatKind, fold-roll-FlatKind}
use Rattle.elab_types.specs.declared.flat_statement.FlatKind.TheVariants as v
use Rattle.elab_types.specs.declared.flat_statement.FlatKind.TheOpen as k
use Rattle.elab_types.specs.declared.flat_statement.FlatArm.{FlatArm, fold-FlatArm, fold-roll-FlatArm}
use Rattle.source_meaning.specs.Meaning.{Object}
use Rattle.flat_meaning.specs.FlatTrees.{flat_stmt as stmt, flat_arm as case_arm}
use Rattle.flat_meaning.specs.Statements.{statement_targets, targets}

abbrev pub Objects : Type 0
Objects = List Object

module _ (vars : List FlatVar) where
  abbrev pub of_arm : k.FlatArm-F Objects Objects Objects → Objects
  of_arm c = c.body

  abbrev pub of_placed : k.FlatStmt-F Objects Objects Objects → Objects
  of_placed s = s.what

  abbrev pub kinds : FlatKind → Objects
  kinds = fold-FlatKind Objects Objects Objects (statement_targets vars) of_arm of_placed

  abbrev pub arms : FlatArm → Objects
  arms = fold-FlatArm Objects Objects Objects (statement_targets vars) of_arm of_placed

  of-stmt : (p : Place) (what : FlatKind) → targets vars (stmt p what) ≡ kinds what
  of-stmt p what = fold-roll-FlatStmt Objects Objects Objects (statement_targets vars) of_arm of_placed (record { place = p; what = what })

  pub of-arm : (p : Place) (items : List FlatExpr) (body : FlatStmt) → arms (case_arm p items body) ≡ targets vars body
  of-arm p items body = fold-roll-FlatArm Objects Objects Objects (statement_targets vars) of_arm of_placed (record { place = p; items = items; body = body })

  pub of-Empty : (p : Place) → targets vars (stmt p (v.Empty)) ≡ statement_targets vars (k.Empty)
  of-Empty p = of-stmt p _ ∙ ap kinds (sym (v.rolls-Empty)) ∙ fold-roll-FlatKind Objects Objects Objects (statement_targets vars) of_arm of_placed (k.Empty)

  pub of-Block : (p : Place) (body : List FlatStmt) (last : Place)
      → targets vars (stmt p (v.Block body last)) ≡ statement_targets vars (k.Block (map (targets vars) body) last)
  of-Block p body last = of-stmt p _ ∙ ap kinds (sym (v.rolls-Block body last))
      ∙ fold-roll-FlatKind Objects Objects Objects (statement_targets vars) of_arm of_placed (k.Block body last)

  pub of-If : (p : Place) (on : FlatExpr) (first : FlatStmt)
      → targets vars (stmt p (v.If on first None)) ≡ statement_targets vars (k.If on (targets vars first) None)
  of-If p on first = of-stmt p _ ∙ ap kinds (sym (v.rolls-If on first None))
      ∙ fold-roll-FlatKind Objects Objects Objects (statement_targets vars) of_arm of_placed (k.If on first None)

  pub of-If-else : (p : Place) (on : FlatExpr) (first second : FlatStmt)
      → targets vars (stmt p (v.If on first (Some second))) ≡ statement_targets vars (k.If on (targets vars first) (Some (targets vars second)))
  of-If-else p on first second = of-stmt p _ ∙ ap kinds (sym (v.rolls-If on first (Some second)))
      ∙ fold-roll-FlatKind Objects Objects Objects (statement_targets vars) of_arm of_placed (k.If on first (Some second))

  pub of-Case : (p : Place) (wild : Bool) (on : FlatExpr) (all : List FlatArm)
      → targets vars (stmt p (v.Case wild on all)) ≡ statement_targets vars (k.Case wild on (map arms all))
  of-Case p wild on all = of-stmt p _ ∙ ap kinds (sym (v.rolls-Case wild on all))
      ∙ fold-roll-FlatKind Objects Objects Objects (statement_targets vars) of_arm of_placed (k.Case wild on all)

  pub of-Set : (p : Place) (target e : FlatExpr) → targets vars (stmt p (v.Set target e)) ≡ statement_targets vars (k.Set target e)
  of-Set p target e = of-stmt p _ ∙ ap kinds (sym (v.rolls-Set target e))
      ∙ fold-roll-FlatKind Objects Objects Objects (statement_targets vars) of_arm of_placed (k.Set target e)

  pub of-Later : (p : Place) (target e : FlatExpr) → targets vars (stmt p (v.Later target e)) ≡ statement_targets vars (k.Later target e)
  of-Later p target e = of-stmt p _ ∙ ap kinds (sym (v.rolls-Later target e))
      ∙ fold-roll-FlatKind Objects Objects Objects (statement_targets vars) of_arm of_placed (k.Later target e)

  pub of-Show : (p : Place) (text : Option (List ℕ)) (values : List FlatExpr)
      → targets vars (stmt p (v.Show text values)) ≡ statement_targets vars (k.Show text values)
  of-Show p text values = of-stmt p _ ∙ ap kinds (sym (v.rolls-Show text values))
      ∙ fold-roll-FlatKind Objects Objects Objects (statement_targets vars) of_arm of_placed (k.Show text values)

  pub of-Finish : (p : Place) → targets vars (stmt p (v.Finish)) ≡ statement_targets vars (k.Finish)
  of-Finish p = of-stmt p _ ∙ ap kinds (sym (v.rolls-Finish)) ∙ fold-roll-FlatKind Objects Objects Objects (statement_targets vars) of_arm of_placed (k.Finish)

  pub of-Stop : (p : Place) → targets vars (stmt p (v.Stop)) ≡ statement_targets vars (k.Stop)
  of-Stop p = of-stmt p _ ∙ ap kinds (sym (v.rolls-Stop)) ∙ fold-roll-FlatKind Objects Objects Objects (statement_targets vars) of_arm of_placed (k.Stop)
