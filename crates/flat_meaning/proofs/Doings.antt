-- What flat statements do, by their parts.
use Rattle.std.proofs.Common.{◌≡◌, ◌∙◌, sym, ap, ℕ, Bool, List, map, Option, Some, None}
use Rattle.cov_types.specs.declared.place.Place.{Place}
use Rattle.elab_types.specs.declared.flat_source.FlatVar.{FlatVar}
use Rattle.elab_types.specs.declared.flat_expression.FlatExpr.{FlatExpr}
use Rattle.elab_types.specs.declared.flat_statement.FlatStmt.{FlatStmt, fold-roll-FlatStmt}
use Rattle.elab_types.specs.declared.flat_statement.FlatKind.{FlatKind, fold-FlatKind, fold-roll-FlatKind}
use Rattle.elab_types.specs.declared.flat_statement.FlatKind.TheVariants as k
use Rattle.elab_types.specs.declared.flat_statement.FlatKind.TheOpen as x
use Rattle.elab_types.specs.declared.flat_statement.FlatArm.{FlatArm, out-FlatArm, fold_out-FlatArm, fold-FlatArm, fold-roll-FlatArm}
use Rattle.circuit_run.specs.Outcomes.{Act}
use Rattle.source_meaning.specs.Events.{Event}
use Rattle.source_meaning.specs.Cases.{Choice}
use Rattle.flat_meaning.specs.Expressions.{meaning}
use Rattle.flat_meaning.specs.FlatTrees.{flat_stmt as stmt, flat_arm as arm}
use Rattle.flat_meaning.specs.Statements as flat
use Rattle.flat_meaning.specs.Statements.{statement, choice}

-- ---- statements

module _ (vars : List FlatVar) (scope : ℕ) where
  abbrev pub kinds : FlatKind → Place → Act Event
  kinds = fold-FlatKind (Place → Act Event) Choice (Act Event) (statement vars scope) (choice vars) (λ s. s.what s.place)

  abbrev pub choices : FlatArm → Choice
  choices = fold-FlatArm (Place → Act Event) Choice (Act Event) (statement vars scope) (choice vars) (λ s. s.what s.place)

  abbrev pub acts : FlatStmt → Act Event
  acts = flat.does vars scope

  of-stmt : (p : Place) (what : FlatKind) → acts (stmt p what) ≡ kinds what p
  of-stmt p what = fold-roll-FlatStmt (Place
      → Act Event) Choice (Act Event) (statement vars scope) (choice vars) (λ s. s.what s.place) (record { place = p; what = what })

  pub of-Empty : (p : Place) → acts (stmt p k.Empty) ≡ statement vars scope x.Empty p
  of-Empty p = of-stmt p _ ∙ ap (λ f. kinds f p) (sym (k.rolls-Empty)) ∙ ap (λ f. f p) (fold-roll-FlatKind (Place
      → Act Event) Choice (Act Event) (statement vars scope) (choice vars) (λ s. s.what s.place) x.Empty)

  pub of-Block : (p : Place) (body : List FlatStmt) (last : Place) → acts (stmt p (k.Block body last)) ≡ statement vars scope (x.Block (map acts body) last) p
  of-Block p body last = of-stmt p _ ∙ ap (λ f. kinds f p) (sym (k.rolls-Block body last)) ∙ ap (λ f. f p) (fold-roll-FlatKind (Place
      → Act Event) Choice (Act Event) (statement vars scope) (choice vars) (λ s. s.what s.place) (x.Block body last))

  pub of-If : (p : Place) (on : FlatExpr) (first : FlatStmt) → acts (stmt p (k.If on first None)) ≡ statement vars scope (x.If on (acts first) None) p
  of-If p on first = of-stmt p _ ∙ ap (λ f. kinds f p) (sym (k.rolls-If on first None)) ∙ ap (λ f. f p) (fold-roll-FlatKind (Place
      → Act Event) Choice (Act Event) (statement vars scope) (choice vars) (λ s. s.what s.place) (x.If on first None))

  pub of-If-else : (p : Place) (on : FlatExpr) (first second : FlatStmt)
      → acts (stmt p (k.If on first (Some second))) ≡ statement vars scope (x.If on (acts first) (Some (acts second))) p
  of-If-else p on first second = of-stmt p _ ∙ ap (λ f. kinds f p) (sym (k.rolls-If on first (Some second))) ∙ ap (λ f. f p) (fold-roll-FlatKind (Place
      → Act Event) Choice (Act Event) (statement vars scope) (choice vars) (λ s. s.what s.place) (x.If on first (Some second)))

  pub of-Case : (p : Place) (wild : Bool) (on : FlatExpr) (arms : List FlatArm)
      → acts (stmt p (k.Case wild on arms)) ≡ statement vars scope (x.Case wild on (map choices arms)) p
  of-Case p wild on arms = of-stmt p _ ∙ ap (λ f. kinds f p) (sym (k.rolls-Case wild on arms)) ∙ ap (λ f. f p) (fold-roll-FlatKind (Place
      → Act Event) Choice (Act Event) (statement vars scope) (choice vars) (λ s. s.what s.place) (x.Case wild on arms))

  pub of-Set : (p : Place) (target e : FlatExpr) → acts (stmt p (k.Set target e)) ≡ statement vars scope (x.Set target e) p
  of-Set p target e = of-stmt p _ ∙ ap (λ f. kinds f p) (sym (k.rolls-Set target e)) ∙ ap (λ f. f p) (fold-roll-FlatKind (Place
      → Act Event) Choice (Act Event) (statement vars scope) (choice vars) (λ s. s.what s.place) (x.Set target e))

  pub of-Later : (p : Place) (target e : FlatExpr) → acts (stmt p (k.Later target e)) ≡ statement vars scope (x.Later target e) p
  of-Later p target e = of-stmt p _ ∙ ap (λ f. kinds f p) (sym (k.rolls-Later target e)) ∙ ap (λ f. f p) (fold-roll-FlatKind (Place
      → Act Event) Choice (Act Event) (statement vars scope) (choice vars) (λ s. s.what s.place) (x.Later target e))

  pub of-Show : (p : Place) (text : Option (List ℕ)) (values : List FlatExpr) → acts (stmt p (k.Show text values)) ≡ statement vars scope (x.Show text values) p
  of-Show p text values = of-stmt p _ ∙ ap (λ f. kinds f p) (sym (k.rolls-Show text values)) ∙ ap (λ f. f p) (fold-roll-FlatKind (Place
      → Act Event) Choice (Act Event) (statement vars scope) (choice vars) (λ s. s.what s.place) (x.Show text values))

  pub of-Finish : (p : Place) → acts (stmt p k.Finish) ≡ statement vars scope x.Finish p
  of-Finish p = of-stmt p _ ∙ ap (λ f. kinds f p) (sym (k.rolls-Finish)) ∙ ap (λ f. f p) (fold-roll-FlatKind (Place
      → Act Event) Choice (Act Event) (statement vars scope) (choice vars) (λ s. s.what s.place) x.Finish)

  pub of-Stop : (p : Place) → acts (stmt p k.Stop) ≡ statement vars scope x.Stop p
  of-Stop p = of-stmt p _ ∙ ap (λ f. kinds f p) (sym (k.rolls-Stop)) ∙ ap (λ f. f p) (fold-roll-FlatKind (Place
      → Act Event) Choice (Act Event) (statement vars scope) (choice vars) (λ s. s.what s.place) x.Stop)

  pub of-arm : (p : Place) (items : List FlatExpr) (body : FlatStmt)
      → choices (arm p items body) ≡ record { place = p; items = map (meaning vars) items; body = acts body }
  of-arm p items body = fold-roll-FlatArm (Place
      → Act Event) Choice (Act Event) (statement vars scope) (choice vars) (λ s. s.what s.place) (record { place = p; items = items; body = body })

  pub of-any-arm : (a : FlatArm) → choices a
      ≡ record { place = (out-FlatArm a).place; items = map (meaning vars) (out-FlatArm a).items; body = acts (out-FlatArm a).body }
  of-any-arm a = fold_out-FlatArm (Place → Act Event) Choice (Act Event) (statement vars scope) (choice vars) (λ s. s.what s.place) a
