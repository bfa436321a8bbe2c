-- What source statements do, by their parts.
use Rattle.std.proofs.Common.{◌≡◌, ◌∙◌, sym, ap, ℕ, List, Bool, map, Option, Some, None}
use Rattle.cov_types.specs.declared.place.Place.{Place}
use Rattle.vlog_tree.specs.declared.expression.Expr.{Expr}
use Rattle.vlog_tree.specs.declared.statement.Stmt.{Stmt, roll-Stmt, fold-roll-Stmt}
use Rattle.vlog_tree.specs.declared.statement.StmtKind.{StmtKind, fold-StmtKind, fold-roll-StmtKind}
use Rattle.vlog_tree.specs.declared.statement.StmtKind.TheVariants as v
use Rattle.vlog_tree.specs.declared.statement.StmtKind.TheOpen as k
use Rattle.vlog_tree.specs.declared.statement.CaseArm.{CaseArm, roll-CaseArm, fold-CaseArm, fold-roll-CaseArm}
use Rattle.source_meaning.specs.Environment.{Environment}
use Rattle.source_meaning.specs.Cases.{Choice}
use Rattle.source_meaning.specs.Statements.{Does, statement, choice, placed, does}

abbrev pub stmt : Place → StmtKind → Stmt
stmt p what = roll-Stmt (record { place = p; what = what })

abbrev pub arm : Place → List Expr → Stmt → CaseArm
arm p items body = roll-CaseArm (record { place = p; items = items; body = body })

abbrev pub kinds : StmtKind → Place → Does
kinds = fold-StmtKind (Place → Does) (Environment → Choice) Does statement choice placed

abbrev pub choices : CaseArm → Environment → Choice
choices = fold-CaseArm (Place → Does) (Environment → Choice) Does statement choice placed

of-stmt : (p : Place) (what : StmtKind) → does (stmt p what) ≡ kinds what p
of-stmt p what = fold-roll-Stmt (Place → Does) (Environment → Choice) Does statement choice placed (record { place = p; what = what })

pub of-arm : (p : Place) (items : List Expr) (body : Stmt) → choices (arm p items body) ≡ choice (record { place = p; items = items; body = does body })
of-arm p items body = fold-roll-CaseArm (Place → Does) (Environment → Choice) Does statement choice placed (record { place = p; items = items; body = body })

pub of-Empty : (p : Place) → does (stmt p v.Empty) ≡ statement k.Empty p
of-Empty p = of-stmt p _ ∙ ap (λ f. kinds f p) (sym (v.rolls-Empty)) ∙ ap (λ f. f p) (fold-roll-StmtKind (Place → Does) (Environment
    → Choice) Does statement choice placed k.Empty)

pub of-Block : (p : Place) (body : List Stmt) (last : Place) → does (stmt p (v.Block body last)) ≡ statement (k.Block (map does body) last) p
of-Block p body last = of-stmt p _ ∙ ap (λ f. kinds f p) (sym (v.rolls-Block body last)) ∙ ap (λ f. f p) (fold-roll-StmtKind (Place → Does) (Environment
    → Choice) Does statement choice placed (k.Block body last))

pub of-If : (p : Place) (on : Expr) (first : Stmt) → does (stmt p (v.If on first None)) ≡ statement (k.If on (does first) None) p
of-If p on first = of-stmt p _ ∙ ap (λ f. kinds f p) (sym (v.rolls-If on first None)) ∙ ap (λ f. f p) (fold-roll-StmtKind (Place → Does) (Environment
    → Choice) Does statement choice placed (k.If on first None))

pub of-If-else : (p : Place) (on : Expr) (first second : Stmt)
    → does (stmt p (v.If on first (Some second))) ≡ statement (k.If on (does first) (Some (does second))) p
of-If-else p on first second = of-stmt p _ ∙ ap (λ f. kinds f p) (sym (v.rolls-If on first (Some second))) ∙ ap (λ f. f p) (fold-roll-StmtKind (Place
    → Does) (Environment → Choice) Does statement choice placed (k.If on first (Some second)))

pub of-Case : (p : Place) (wild : Bool) (on : Expr) (arms : List CaseArm)
    → does (stmt p (v.Case wild on arms)) ≡ statement (k.Case wild on (map choices arms)) p
of-Case p wild on arms = of-stmt p _ ∙ ap (λ f. kinds f p) (sym (v.rolls-Case wild on arms)) ∙ ap (λ f. f p) (fold-roll-StmtKind (Place → Does) (Environment
    → Choice) Does statement choice placed (k.Case wild on arms))

pub of-For : (p : Place) (name : List ℕ) (from test : Expr) (step_name : List ℕ) (step : Expr) (body : Stmt)
    → does (stmt p (v.For name from test step_name step body)) ≡ statement (k.For name from test step_name step (does body)) p
of-For p name from test step_name step body = of-stmt p _ ∙ ap (λ f. kinds f p) (sym (v.rolls-For name from test step_name step body))
    ∙ ap (λ f. f p) (fold-roll-StmtKind (Place → Does) (Environment → Choice) Does statement choice placed (k.For name from test step_name step body))

pub of-Set : (p : Place) (target e : Expr) → does (stmt p (v.Set target e)) ≡ statement (k.Set target e) p
of-Set p target e = of-stmt p _ ∙ ap (λ f. kinds f p) (sym (v.rolls-Set target e)) ∙ ap (λ f. f p) (fold-roll-StmtKind (Place → Does) (Environment
    → Choice) Does statement choice placed (k.Set target e))

pub of-Later : (p : Place) (target e : Expr) → does (stmt p (v.Later target e)) ≡ statement (k.Later target e) p
of-Later p target e = of-stmt p _ ∙ ap (λ f. kinds f p) (sym (v.rolls-Later target e)) ∙ ap (λ f. f p) (fold-roll-StmtKind (Place → Does) (Environment
    → Choice) Does statement choice placed (k.Later target e))

pub of-Show : (p : Place) (text : Option (List ℕ)) (values : List Expr) → does (stmt p (v.Show text values)) ≡ statement (k.Show text values) p
of-Show p text values = of-stmt p _ ∙ ap (λ f. kinds f p) (sym (v.rolls-Show text values)) ∙ ap (λ f. f p) (fold-roll-StmtKind (Place → Does) (Environment
    → Choice) Does statement choice placed (k.Show text values))

pub of-Finish : (p : Place) → does (stmt p v.Finish) ≡ statement k.Finish p
of-Finish p = of-stmt p _ ∙ ap (λ f. kinds f p) (sym (v.rolls-Finish)) ∙ ap (λ f. f p) (fold-roll-StmtKind (Place → Does) (Environment
    → Choice) Does statement choice placed k.Finish)

pub of-Stop : (p : Place) → does (stmt p v.Stop) ≡ statement k.Stop p
of-Stop p = of-stmt p _ ∙ ap (λ f. kinds f p) (sym (v.rolls-Stop)) ∙ ap (λ f. f p) (fold-roll-StmtKind (Place → Does) (Environment
    → Choice) Does statement choice placed k.Stop)
