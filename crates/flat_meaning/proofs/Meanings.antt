-- What an expression means, by its parts.
use Rattle.std.proofs.Common.{◌≡◌, ◌∙◌, sym, ap, ℕ, List, Bool, map}
use Rattle.vlog_tree.specs.declared.operator.UnaryOp.{UnaryOp}
use Rattle.vlog_tree.specs.declared.operator.BinaryOp.{BinaryOp}
use Rattle.vlog_tree.specs.declared.operator.SystemCall.{SystemCall}
use Rattle.elab_types.specs.declared.flat_source.FlatVar.{FlatVar}
use Rattle.elab_types.specs.declared.flat_expression.FlatExpr.{FlatExpr, fold-roll-FlatExpr}
use Rattle.elab_types.specs.declared.flat_expression.FlatExpr.TheVariants as e
use Rattle.elab_types.specs.declared.flat_expression.FlatExpr.TheOpen as x
use Rattle.elab_types.specs.declared.flat_expression.FlatSelect.{FlatSelect, fold-FlatSelect, fold-roll-FlatSelect}
use Rattle.elab_types.specs.declared.flat_expression.FlatSelect.TheVariants as select
use Rattle.source_meaning.specs.Meaning.{Meaning}
use Rattle.source_meaning.specs.Selects.{Selection}
use Rattle.flat_meaning.specs.Expressions.{meaning, expression, selection}

abbrev pub selection_of : List FlatVar → FlatSelect → Selection
selection_of vars = fold-FlatSelect Meaning Selection (expression vars) selection

pub of-Number : (vars : List FlatVar) (w : ℕ) (sg : Bool) (n free : ℕ) → meaning vars (e.Number w sg n free) ≡ expression vars (x.Number w sg n free)
of-Number vars w sg n free = ap (meaning vars) (sym (e.rolls-Number w sg n free))
    ∙ fold-roll-FlatExpr Meaning Selection (expression vars) selection (x.Number w sg n free)

pub of-Var : (vars : List FlatVar) (k : ℕ) → meaning vars (e.Var k) ≡ expression vars (x.Var k)
of-Var vars k = ap (meaning vars) (sym (e.rolls-Var k)) ∙ fold-roll-FlatExpr Meaning Selection (expression vars) selection (x.Var k)

pub of-Select : (vars : List FlatVar) (base : FlatExpr) (s : FlatSelect)
    → meaning vars (e.Select base s) ≡ expression vars (x.Select (meaning vars base) (selection_of vars s))
of-Select vars base s = ap (meaning vars) (sym (e.rolls-Select base s)) ∙ fold-roll-FlatExpr Meaning Selection (expression vars) selection (x.Select base s)

pub of-Unary : (vars : List FlatVar) (op : UnaryOp) (a : FlatExpr) → meaning vars (e.Unary op a) ≡ expression vars (x.Unary op (meaning vars a))
of-Unary vars op a = ap (meaning vars) (sym (e.rolls-Unary op a)) ∙ fold-roll-FlatExpr Meaning Selection (expression vars) selection (x.Unary op a)

pub of-Binary : (vars : List FlatVar) (op : BinaryOp) (a b : FlatExpr)
    → meaning vars (e.Binary op a b) ≡ expression vars (x.Binary op (meaning vars a) (meaning vars b))
of-Binary vars op a b = ap (meaning vars) (sym (e.rolls-Binary op a b)) ∙ fold-roll-FlatExpr Meaning Selection (expression vars) selection (x.Binary op a b)

pub of-Choose : (vars : List FlatVar) (a b c : FlatExpr) → meaning vars (e.Choose a b c)
    ≡ expression vars (x.Choose (meaning vars a) (meaning vars b) (meaning vars c))
of-Choose vars a b c = ap (meaning vars) (sym (e.rolls-Choose a b c)) ∙ fold-roll-FlatExpr Meaning Selection (expression vars) selection (x.Choose a b c)

pub of-Join : (vars : List FlatVar) (parts : List FlatExpr) → meaning vars (e.Join parts) ≡ expression vars (x.Join (map (meaning vars) parts))
of-Join vars parts = ap (meaning vars) (sym (e.rolls-Join parts)) ∙ fold-roll-FlatExpr Meaning Selection (expression vars) selection (x.Join parts)

pub of-Repeat : (vars : List FlatVar) (n : FlatExpr) (parts : List FlatExpr)
    → meaning vars (e.Repeat n parts) ≡ expression vars (x.Repeat (meaning vars n) (map (meaning vars) parts))
of-Repeat vars n parts = ap (meaning vars) (sym (e.rolls-Repeat n parts)) ∙ fold-roll-FlatExpr Meaning Selection (expression vars) selection (x.Repeat n parts)

pub of-Call : (vars : List FlatVar) (name : SystemCall) (a : FlatExpr) → meaning vars (e.Call name a) ≡ expression vars (x.Call name (meaning vars a))
of-Call vars name a = ap (meaning vars) (sym (e.rolls-Call name a)) ∙ fold-roll-FlatExpr Meaning Selection (expression vars) selection (x.Call name a)

pub of-At : (vars : List FlatVar) (i : FlatExpr) → selection_of vars (select.At i) ≡ selection (x.At (meaning vars i))
of-At vars i = ap (selection_of vars) (sym (select.rolls-At i)) ∙ fold-roll-FlatSelect Meaning Selection (expression vars) selection (x.At i)

pub of-Between : (vars : List FlatVar) (a b : FlatExpr) → selection_of vars (select.Between a b) ≡ selection (x.Between (meaning vars a) (meaning vars b))
of-Between vars a b = ap (selection_of vars) (sym (select.rolls-Between a b))
    ∙ fold-roll-FlatSelect Meaning Selection (expression vars) selection (x.Between a b)

pub of-Up : (vars : List FlatVar) (a b : FlatExpr) → selection_of vars (select.Up a b) ≡ selection (x.Up (meaning vars a) (meaning vars b))
of-Up vars a b = ap (selection_of vars) (sym (select.rolls-Up a b)) ∙ fold-roll-FlatSelect Meaning Selection (expression vars) selection (x.Up a b)

pub of-Down : (vars : List FlatVar) (a b : FlatExpr) → selection_of vars (select.Down a b) ≡ selection (x.Down (meaning vars a) (meaning vars b))
of-Down vars a b = ap (selection_of vars) (sym (select.rolls-Down a b)) ∙ fold-roll-FlatSelect Meaning Selection (expression vars) selection (x.Down a b)
