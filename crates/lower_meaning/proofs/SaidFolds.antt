-- What a flat expression says as a constant, by its parts.
use Rattle.std.proofs.Common.{◌≡◌, ◌∙◌, sym, ap, ℕ, Bool, List, map}
use Rattle.vlog_tree.specs.declared.operator.UnaryOp.{UnaryOp}
use Rattle.vlog_tree.specs.declared.operator.BinaryOp.{BinaryOp}
use Rattle.vlog_tree.specs.declared.operator.SystemCall.{SystemCall}
use Rattle.vlog_tree.specs.declared.expression.Expr.TheOpen as o
use Rattle.elab_types.specs.declared.flat_expression.FlatExpr.{FlatExpr, fold-roll-FlatExpr}
use Rattle.elab_types.specs.declared.flat_expression.FlatExpr.TheVariants as e
use Rattle.elab_types.specs.declared.flat_expression.FlatExpr.TheOpen as x
use Rattle.elab_types.specs.declared.flat_expression.FlatSelect.{FlatSelect}
use Rattle.scope_meaning.specs.Constants.{Read, node}
use Rattle.lower_meaning.specs.Constants.{nameless, no_constant, said_layer, said}

pub said-Number : (w : ℕ) (signed : Bool) (n free : ℕ) → said (e.Number w signed n free) ≡ node nameless (o.Number w signed n free)
said-Number w signed n free = ap said (sym (e.rolls-Number w signed n free)) ∙ fold-roll-FlatExpr Read (Unit {0}) said_layer (λ s. tt)
    (x.Number w signed n free)

pub said-Var : (k : ℕ) → said (e.Var k) ≡ no_constant
said-Var k = ap said (sym (e.rolls-Var k)) ∙ fold-roll-FlatExpr Read (Unit {0}) said_layer (λ s. tt) (x.Var k)

pub said-Select : (base : FlatExpr) (s : FlatSelect) → said (e.Select base s) ≡ no_constant
said-Select base s = ap said (sym (e.rolls-Select base s)) ∙ fold-roll-FlatExpr Read (Unit {0}) said_layer (λ s. tt) (x.Select base s)

pub said-Unary : (op : UnaryOp) (a : FlatExpr) → said (e.Unary op a) ≡ node nameless (o.Unary op (said a))
said-Unary op a = ap said (sym (e.rolls-Unary op a)) ∙ fold-roll-FlatExpr Read (Unit {0}) said_layer (λ s. tt) (x.Unary op a)

pub said-Binary : (op : BinaryOp) (a b : FlatExpr) → said (e.Binary op a b) ≡ node nameless (o.Binary op (said a) (said b))
said-Binary op a b = ap said (sym (e.rolls-Binary op a b)) ∙ fold-roll-FlatExpr Read (Unit {0}) said_layer (λ s. tt) (x.Binary op a b)

pub said-Choose : (test a b : FlatExpr) → said (e.Choose test a b) ≡ node nameless (o.Choose (said test) (said a) (said b))
said-Choose test a b = ap said (sym (e.rolls-Choose test a b)) ∙ fold-roll-FlatExpr Read (Unit {0}) said_layer (λ s. tt) (x.Choose test a b)

pub said-Join : (parts : List FlatExpr) → said (e.Join parts) ≡ node nameless (o.Join (map said parts))
said-Join parts = ap said (sym (e.rolls-Join parts)) ∙ fold-roll-FlatExpr Read (Unit {0}) said_layer (λ s. tt) (x.Join parts)

pub said-Repeat : (count : FlatExpr) (parts : List FlatExpr) → said (e.Repeat count parts) ≡ node nameless (o.Repeat (said count) (map said parts))
said-Repeat count parts = ap said (sym (e.rolls-Repeat count parts)) ∙ fold-roll-FlatExpr Read (Unit {0}) said_layer (λ s. tt) (x.Repeat count parts)

pub said-Call : (name : SystemCall) (a : FlatExpr) → said (e.Call name a) ≡ node nameless (o.Call name (said a))
said-Call name a = ap said (sym (e.rolls-Call name a)) ∙ fold-roll-FlatExpr Read (Unit {0}) said_layer (λ s. tt) (x.Call name a)
