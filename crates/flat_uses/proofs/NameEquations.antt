-- The names in an expression, node by node.
use Rattle.std.proofs.Common.{◌≡◌, ◌∙◌, sym, ap, refl, ℕ, Bool, List, [], ◌∷◌, ◌++◌, map}
use Rattle.std.specs.List.{flat_map}
use Rattle.vlog_tree.specs.declared.operator.UnaryOp.{UnaryOp}
use Rattle.vlog_tree.specs.declared.operator.BinaryOp.{BinaryOp}
use Rattle.vlog_tree.specs.declared.operator.SystemCall.{SystemCall}
use Rattle.vlog_tree.specs.declared.expression.Expr.{Expr, fold-roll-Expr}
use Rattle.vlog_tree.specs.declared.expression.Expr.TheVariants as e
use Rattle.vlog_tree.specs.declared.expression.Expr.TheOpen as o
use Rattle.vlog_tree.specs.declared.expression.Select.{Select, fold-roll-Select}
use Rattle.vlog_tree.specs.declared.expression.Select.TheVariants as select
use Rattle.flat_source_meaning.specs.Names.{NameList, names_in, name_node, name_select}
use Rattle.flat_uses.specs.SelectNames.{names_of_select}

-- lists of lists, made one by one
pub made_flat : {X A : Type 0} (f : X → List A) (xs : List X) → flat_map (λ (l : List A). l) (map f xs) ≡ flat_map f xs
made_flat f [] = refl
made_flat f (x ∷ xs) = ap (λ l. f x ++ l) (made_flat f xs)

pub names-Number : (w : ℕ) (signed : Bool) (n free : ℕ) → names_in (e.Number w signed n free) ≡ []
names-Number w signed n free =
    ap names_in (sym (e.rolls-Number w signed n free)) ∙ fold-roll-Expr NameList NameList name_node name_select (o.Number w signed n free)

pub names-Name : (x : List ℕ) → names_in (e.Name x) ≡ x ∷ []
names-Name x = ap names_in (sym (e.rolls-Name x)) ∙ fold-roll-Expr NameList NameList name_node name_select (o.Name x)

pub names-Select : (a : Expr) (s : Select) → names_in (e.Select a s) ≡ names_in a ++ names_of_select s
names-Select a s = ap names_in (sym (e.rolls-Select a s)) ∙ fold-roll-Expr NameList NameList name_node name_select (o.Select a s)

pub names-Unary : (op : UnaryOp) (a : Expr) → names_in (e.Unary op a) ≡ names_in a
names-Unary op a = ap names_in (sym (e.rolls-Unary op a)) ∙ fold-roll-Expr NameList NameList name_node name_select (o.Unary op a)

pub names-Binary : (op : BinaryOp) (a b : Expr) → names_in (e.Binary op a b) ≡ names_in a ++ names_in b
names-Binary op a b = ap names_in (sym (e.rolls-Binary op a b)) ∙ fold-roll-Expr NameList NameList name_node name_select (o.Binary op a b)

pub names-Choose : (t a b : Expr) → names_in (e.Choose t a b) ≡ (names_in t ++ names_in a) ++ names_in b
names-Choose t a b = ap names_in (sym (e.rolls-Choose t a b)) ∙ fold-roll-Expr NameList NameList name_node name_select (o.Choose t a b)

pub names-Join : (ps : List Expr) → names_in (e.Join ps) ≡ flat_map names_in ps
names-Join ps =
    ap names_in (sym (e.rolls-Join ps)) ∙ fold-roll-Expr NameList NameList name_node name_select (o.Join ps) ∙ made_flat names_in ps

pub names-Repeat : (a : Expr) (ps : List Expr) → names_in (e.Repeat a ps) ≡ names_in a ++ flat_map names_in ps
names-Repeat a ps =
    ap names_in (sym (e.rolls-Repeat a ps)) ∙ fold-roll-Expr NameList NameList name_node name_select (o.Repeat a ps)
    ∙ ap (λ l. names_in a ++ l) (made_flat names_in ps)

pub names-Call : (call : SystemCall) (a : Expr) → names_in (e.Call call a) ≡ names_in a
names-Call call a = ap names_in (sym (e.rolls-Call call a)) ∙ fold-roll-Expr NameList NameList name_node name_select (o.Call call a)

pub names-At : (a : Expr) → names_of_select (select.At a) ≡ names_in a
names-At a = ap names_of_select (sym (select.rolls-At a)) ∙ fold-roll-Select NameList NameList name_node name_select (o.At a)

pub names-Between : (a b : Expr) → names_of_select (select.Between a b) ≡ names_in a ++ names_in b
names-Between a b = ap names_of_select (sym (select.rolls-Between a b)) ∙ fold-roll-Select NameList NameList name_node name_select (o.Between a b)

pub names-Up : (a b : Expr) → names_of_select (select.Up a b) ≡ names_in a ++ names_in b
names-Up a b = ap names_of_select (sym (select.rolls-Up a b)) ∙ fold-roll-Select NameList NameList name_node name_select (o.Up a b)

pub names-Down : (a b : Expr) → names_of_select (select.Down a b) ≡ names_in a ++ names_in b
names-Down a b = ap names_of_select (sym (select.rolls-Down a b)) ∙ fold-roll-Select NameList NameList name_node name_select (o.Down a b)
