-- The names that stand in an expression.
use Rattle.std.specs.Prelude.{ℕ, List, [], ◌∷◌, ◌++◌}
use Rattle.std.specs.List.{flat_map}
use Rattle.vlog_tree.specs.declared.expression.Expr.{Expr, Expr-F, fold-Expr}
use Rattle.vlog_tree.specs.declared.expression.Expr.TheOpen as e

abbrev pub NameList : Type 0
NameList = List (List ℕ)

-- one clause for each form of an expression
abbrev pub name_node : Expr-F NameList NameList → NameList
name_node (e.Number w signed n free) = []
name_node (e.Name name) = name ∷ []
name_node (e.Select base select) = base ++ select
name_node (e.Unary op a) = a
name_node (e.Binary op a b) = a ++ b
name_node (e.Choose test a b) = test ++ a ++ b
name_node (e.Join parts) = flat_map (λ ns. ns) parts
name_node (e.Repeat count parts) = count ++ flat_map (λ ns. ns) parts
name_node (e.Call name a) = a

-- one clause for each form of a select
abbrev pub name_select : e.Select-F NameList NameList → NameList
name_select (e.At a) = a
name_select (e.Between a b) = a ++ b
name_select (e.Up a b) = a ++ b
name_select (e.Down a b) = a ++ b

-- all names in an expression
abbrev pub names_in : Expr → NameList
names_in = fold-Expr NameList NameList name_node name_select
