-- Expressions put together from their nodes.
use Rattle.std.specs.Prelude.{◌≡◌, ℕ, ◌&&◌, Bool, true, false, nat_le, List, [], ◌∷◌, ◌++◌, Option, None, Some}
use Rattle.cov_types.specs.Limits.{most}
use Rattle.cov_types.specs.declared.limit.LimitName.TheVariants as limit
use Rattle.cov_types.specs.declared.var.Var.{Var}
use Rattle.design_tree.specs.declared.design.Design.{Design}
use Rattle.design_tree.specs.declared.typed.Typed.{Typed}
use Rattle.design_meaning.specs.Sizes.{nodes, depth}
use Rattle.design_meaning.specs.Widths.{width_of}
use Rattle.design_meaning.specs.WellTyped.{is_typed}
use Rattle.cvd_text.specs.Targets.{is_expression}
use Rattle.cvd_nodes.specs.declared.node.Node.{Node}
use Rattle.cvd_nodes.specs.declared.node.Node.TheVariants as node
use Rattle.cvd_expressions.specs.declared.built.Built.{Built}
use Rattle.cvd_expressions.specs.declared.expression.Expression.{Expression}

-- a well typed expression that isn't too deep, with its width and its depth
pub record IsBuilt (d : Design) (b : Built) : Type 0 where
  pub typed : is_typed d b.tree ≡ true
  pub width : b.width ≡ width_of d b.tree
  pub deep : b.depth ≡ depth b.tree

-- an expression was built, or it is none that may stand
abbrev pub Builds : Design → Typed → Option Built → Type 0
Builds d tree (Some b) = (b.tree ≡ tree) × IsBuilt d b
Builds d tree None = is_expression d tree ≡ false

-- the trees of a stack, from its top
abbrev pub tops : List Built → List Typed
tops [] = []
tops (b ∷ bs) = tops bs ++ b.tree ∷ []

abbrev pub AllBuilt : Design → List Built → Type 0
AllBuilt d [] = Unit {0}
AllBuilt d (b ∷ bs) = IsBuilt d b × AllBuilt d bs

-- the number of operands of a node
abbrev pub arity : Node → ℕ
arity (node.Number w n) = 0
arity (node.Var v) = 0
arity (node.Word v low signed) = 1
arity (node.Part w low signed) = 2
arity (node.ZeroExtend w) = 1
arity (node.SignExtend w) = 1
arity (node.Truncate w) = 1
arity (node.Unary op) = 1
arity (node.Binary op) = 2
arity node.Join = 2
arity (node.Repeat n) = 1
arity node.Choose = 3

-- a node was put in front of its operands, which were the first of a stack
pub record Puts (d : Design) (held : Option Built) (new : List Built) (us : List Typed) : Type 0 where
  pub tree : Typed
  pub rest : List Typed
  pub split : us ≡ tree ∷ rest
  pub built : Builds d tree held
  pub left : tops new ≡ rest
  pub all : AllBuilt d new

-- what is held of an expression: it with its width and the number of its nodes; or nothing, where it may not stand
abbrev pub may_stand : Design → Typed → Bool
may_stand d tree = is_expression d tree && nat_le (nodes tree) (most limit.Nodes)

abbrev pub HoldsExpression : List Var → Typed → Option Expression → Type 0
HoldsExpression vars tree (Some x) =
    (x.tree ≡ tree) × ((x.nodes ≡ nodes tree) × ((d : Design) → d.vars ≡ vars → (may_stand d tree ≡ true) × (x.width ≡ width_of d tree)))
HoldsExpression vars tree None = (d : Design) → d.vars ≡ vars → may_stand d tree ≡ false
