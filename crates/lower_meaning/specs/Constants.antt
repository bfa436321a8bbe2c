-- What a flat expression says where a constant has to stand (IEEE 1364-2005, constant expressions): the rules of source
-- expressions, where a variable and a part of one are no constants.
use Rattle.std.specs.Prelude.{Bool, not, []}
use Rattle.vlog_tree.specs.declared.expression.Expr.TheOpen as o
use Rattle.elab_types.specs.declared.flat_expression.FlatExpr.{FlatExpr, FlatExpr-F, fold-FlatExpr}
use Rattle.elab_types.specs.declared.flat_expression.FlatExpr.TheOpen as x
use Rattle.source_meaning.specs.Environment.{Environment, unknown}
use Rattle.scope_meaning.specs.Constants.{Read, node, is_wrong}

-- no name stands for anything
abbrev pub nameless : Environment
nameless = record { scope = 0; look = λ name. unknown }

-- what stands for no constant
abbrev pub no_constant : Read
no_constant = node nameless (o.Name [])

-- one clause for each form of an expression
abbrev pub said_layer : FlatExpr-F Read (Unit {0}) → Read
said_layer (x.Number w signed n free) = node nameless (o.Number w signed n free)
said_layer (x.Var k) = no_constant
said_layer (x.Select base s) = no_constant
said_layer (x.Unary op a) = node nameless (o.Unary op a)
said_layer (x.Binary op a b) = node nameless (o.Binary op a b)
said_layer (x.Choose test a b) = node nameless (o.Choose test a b)
said_layer (x.Join parts) = node nameless (o.Join parts)
said_layer (x.Repeat count parts) = node nameless (o.Repeat count parts)
said_layer (x.Call f a) = node nameless (o.Call f a)

-- what a flat expression says as a constant
abbrev pub said : FlatExpr → Read
said = fold-FlatExpr Read (Unit {0}) said_layer (λ s. tt)

-- it is a constant: nothing is wrong in it as one
abbrev pub is_right : FlatExpr → Bool
is_right a = not (is_wrong (said a).wrong)
