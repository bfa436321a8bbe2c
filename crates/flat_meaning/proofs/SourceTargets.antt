-- The targets of source statements, by their parts.
use Rattle.std.proofs.Common.{◌≡◌, ◌∙◌, sym, ap, ℕ, List, Bool, map, Option, Some, None}
use Rattle.cov_types.specs.declared.place.Place.{Place}
use Rattle.vlog_tree.specs.declared.expression.Expr.{Expr}
use Rattle.vlog_tree.specs.declared.statement.Stmt.{Stmt, fold-roll-Stmt}
use Rattle.vlog_tree.specs.declared.statement.StmtKind.{StmtKind, fold-StmtKind, fold-roll-StmtKind}
use Rattle.vlog_tree.specs.declared.statement.StmtKind.TheVariants as v
use Rattle.vlog_tree.specs.declared.statement.StmtKind.TheOpen as k
use Rattle.vlog_tree.specs.declared.statement.CaseArm.{CaseArm, fold-CaseArm, fold-roll-CaseArm}
use Rattle.vlog_tree.specs.Trees.{stmt, case_arm}
use Rattle.source_meaning.specs.Drives.{Targets, statement_targets, targets}

abbrev pub of_arm : k.CaseArm-F Targets Targets Targets → Targets
of_arm c env = c.body env

abbrev pub of_placed : k.Stmt-F Targets Targets Targets → Targets
of_placed s env = s.what env

abbrev pub kinds : StmtKind → Targets
kinds = fold-StmtKind Targets Targets Targets statement_targets of_arm of_placed

abbrev pub arms : CaseArm → Targets
arms = fold-CaseArm Targets Targets Targets statement_targets of_arm of_placed

of-stmt : (p : Place) (what : StmtKind) → targets (stmt p what) ≡ kinds what
of-stmt p what = fold-roll-Stmt Targets Targets Targets statement_targets of_arm of_placed (record { place = p; what = what })

pub of-arm : (p : Place) (items : List Expr) (body : Stmt) → arms (case_arm p items body) ≡ targets body
of-arm p items body = fold-roll-CaseArm Targets Targets Targets statement_targets of_arm of_placed (record { place = p; items = items; body = body })

pub of-Empty : (p : Place) → targets (stmt p (v.Empty)) ≡ statement_targets (k.Empty)
of-Empty p = of-stmt p _ ∙ ap kinds (sym (v.rolls-Empty)) ∙ fold-roll-StmtKind Targets Targets Targets statement_targets of_arm of_placed (k.Empty)

pub of-Block : (p : Place) (body : List Stmt) (last : Place) → targets (stmt p (v.Block body last)) ≡ statement_targets (k.Block (map targets body) last)
of-Block p body last = of-stmt p _ ∙ ap kinds (sym (v.rolls-Block body last))
    ∙ fold-roll-StmtKind Targets Targets Targets statement_targets of_arm of_placed (k.Block body last)

pub of-If : (p : Place) (on : Expr) (first : Stmt) → targets (stmt p (v.If on first None)) ≡ statement_targets (k.If on (targets first) None)
of-If p on first = of-stmt p _ ∙ ap kinds (sym (v.rolls-If on first None))
    ∙ fold-roll-StmtKind Targets Targets Targets statement_targets of_arm of_placed (k.If on first None)

pub of-If-else : (p : Place) (on : Expr) (first second : Stmt)
    → targets (stmt p (v.If on first (Some second))) ≡ statement_targets (k.If on (targets first) (Some (targets second)))
of-If-else p on first second = of-stmt p _ ∙ ap kinds (sym (v.rolls-If on first (Some second)))
    ∙ fold-roll-StmtKind Targets Targets Targets statement_targets of_arm of_placed (k.If on first (Some second))

pub of-Case : (p : Place) (wild : Bool) (on : Expr) (all : List CaseArm)
    → targets (stmt p (v.Case wild on all)) ≡ statement_targets (k.Case wild on (map arms all))
of-Case p wild on all = of-stmt p _ ∙ ap kinds (sym (v.rolls-Case wild on all))
    ∙ fold-roll-StmtKind Targets Targets Targets statement_targets of_arm of_placed (k.Case wild on all)

pub of-For : (p : Place) (name : List ℕ) (from test : Expr) (step_name : List ℕ) (step : Expr) (body : Stmt)
    → targets (stmt p (v.For name from test step_name step body)) ≡ statement_targets (k.For name from test step_name step (targets body))
of-For p name from test step_name step body = of-stmt p _ ∙ ap kinds (sym (v.rolls-For name from test step_name step body))
    ∙ fold-roll-StmtKind Targets Targets Targets statement_targets of_arm of_placed (k.For name from test step_name step body)

pub of-Set : (p : Place) (target e : Expr) → targets (stmt p (v.Set target e)) ≡ statement_targets (k.Set target e)
of-Set p target e = of-stmt p _ ∙ ap kinds (sym (v.rolls-Set target e))
    ∙ fold-roll-StmtKind Targets Targets Targets statement_targets of_arm of_placed (k.Set target e)

pub of-Later : (p : Place) (target e : Expr) → targets (stmt p (v.Later target e)) ≡ statement_targets (k.Later target e)
of-Later p target e = of-stmt p _ ∙ ap kinds (sym (v.rolls-Later target e))
    ∙ fold-roll-StmtKind Targets Targets Targets statement_targets of_arm of_placed (k.Later target e)

pub of-Show : (p : Place) (text : Option (List ℕ)) (values : List Expr) → targets (stmt p (v.Show text values)) ≡ statement_targets (k.Show text values)
of-Show p text values = of-stmt p _ ∙ ap kinds (sym (v.rolls-Show text values))
    ∙ fold-roll-StmtKind Targets Targets Targets statement_targets of_arm of_placed (k.Show text values)

pub of-Finish : (p : Place) → targets (stmt p (v.Finish)) ≡ statement_targets (k.Finish)
of-Finish p = of-stmt p _ ∙ ap kinds (sym (v.rolls-Finish)) ∙ fold-roll-StmtKind Targets Targets Targets statement_targets of_arm of_placed (k.Finish)

pub of-Stop : (p : Place) → targets (stmt p (v.Stop)) ≡ statement_targets (k.Stop)
of-Stop p = of-stmt p _ ∙ ap kinds (sym (v.rolls-Stop)) ∙ fold-roll-StmtKind Targets Targets Targets statement_targets of_arm of_placed (k.Stop)
