-- Expressions by their nodes: what is left to read of one, and how nodes go together.
use Rattle.std.specs.Prelude.{◌≡◌, ◌⊎◌, ℕ, zero, suc, ◌^◌, ◌<◌, ◌≤◌, ◌&&◌, Bool, true, false, nat_le, List, [], ◌∷◌, ◌++◌, length, Option, None, Some}
use Rattle.std.specs.Option.{option_and_then}
use Rattle.cov_types.specs.Limits.{most}
use Rattle.cov_types.specs.declared.limit.LimitName.TheVariants as limit
use Rattle.design_tree.specs.declared.design.Design.{Design}
use Rattle.design_tree.specs.declared.typed.Index.{Index, roll-Index}
use Rattle.design_tree.specs.declared.typed.Typed.{Typed}
use Rattle.design_tree.specs.declared.typed.Typed.TheVariants as e
use Rattle.design_meaning.specs.Sizes.{nodes}
use Rattle.design_meaning.specs.WellTyped.{is_typed}
use Rattle.cvd_text.specs.Expressions.{tokens_of}
use Rattle.cvd_text.specs.Pieces.{Mark}
use Rattle.cvd_cursor.specs.Reads.{marks}
use Rattle.cvd_nodes.specs.declared.head.Head.{Head}
use Rattle.cvd_nodes.specs.declared.head.Head.TheVariants as head
use Rattle.cvd_nodes.specs.declared.node.Node.{Node}
use Rattle.cvd_nodes.specs.declared.node.Node.TheVariants as node

abbrev pub index : ℕ → Bool → Typed → Index
index low signed value = roll-Index (record { low = low; signed = signed; value = value })

-- so many expressions, one behind the other
abbrev pub Trees : ℕ → Type 0
Trees zero = Unit {0}
Trees (suc k) = (tree : Typed) × Trees k

abbrev pub tree_marks : (k : ℕ) → Trees k → List Mark
tree_marks zero u = []
tree_marks (suc k) t = marks tokens_of t.0 ++ tree_marks k t.1

abbrev pub list_of : (k : ℕ) → Trees k → List Typed
list_of zero u = []
list_of (suc k) t = t.0 ∷ list_of k t.1

-- the number of operands of a node, and how many expressions have to come behind it where so many come behind its own
abbrev pub operands : Head → ℕ
operands head.Number = 0
operands head.Var = 0
operands head.Word = 1
operands head.Part = 2
operands head.ZeroExtend = 1
operands head.SignExtend = 1
operands head.Truncate = 1
operands (head.Unary op) = 1
operands (head.Binary op) = 2
operands head.Join = 2
operands head.Repeat = 1
operands head.Choose = 3

-- a node put in front of what has its operands in front; none where these are too few
abbrev pub push : Node → List Typed → Option (List Typed)
push (node.Number w n) ts = Some (e.Number w n ∷ ts)
push (node.Var v) ts = Some (e.Var v ∷ ts)
push (node.Word v low signed) (at ∷ ts) = Some (e.Word v (index low signed at) ∷ ts)
push (node.Part w low signed) (of ∷ at ∷ ts) = Some (e.Part w of (index low signed at) ∷ ts)
push (node.ZeroExtend w) (of ∷ ts) = Some (e.ZeroExtend w of ∷ ts)
push (node.SignExtend w) (of ∷ ts) = Some (e.SignExtend w of ∷ ts)
push (node.Truncate w) (of ∷ ts) = Some (e.Truncate w of ∷ ts)
push (node.Unary op) (of ∷ ts) = Some (e.Unary op of ∷ ts)
push (node.Binary op) (left ∷ right ∷ ts) = Some (e.Binary op left right ∷ ts)
push node.Join (high ∷ low ∷ ts) = Some (e.Join high low ∷ ts)
push (node.Repeat n) (of ∷ ts) = Some (e.Repeat n of ∷ ts)
push node.Choose (test ∷ left ∷ right ∷ ts) = Some (e.Choose test left right ∷ ts)
push n ts = None

-- nodes in front of expressions, in the order in which they stand
abbrev pub plug : List Node → List Typed → Option (List Typed)
plug [] ts = Some ts
plug (n ∷ ns) ts = option_and_then (push n) (plug ns ts)

-- the nodes are an expression's
abbrev pub AreNodes : List Node → Typed → Type 0
AreNodes ns tree = plug ns [] ≡ Some (tree ∷ [])

-- whether an expression is well typed and has no more nodes than a design may have
abbrev pub may_be : Design → Typed → Bool
may_be d tree = is_typed d tree && nat_le (nodes tree) (most limit.Nodes)

-- what is held of an expression: its nodes; or nothing, where it can stand in no design, as designs have at most 2 ^ 32 variables
abbrev pub HoldsNodes : Typed → Option (List Node) → Type 0
HoldsNodes tree (Some ns) = AreNodes ns tree × (length ns ≡ nodes tree) × (length ns ≤ most limit.Nodes)
HoldsNodes tree None = (d : Design) → length d.vars ≤ 2 ^ 32 → may_be d tree ≡ false

-- a node was kept behind others; or none was, since some of those before wasn't, since it is none, or since there are enough
abbrev pub Keeps : List Node → Bool → Option Node → Bool → List Node → Type 0
Keeps old whole given true new = (whole ≡ true) × ((n : Node) × ((given ≡ Some n) × ((length old < most limit.Nodes) × (new ≡ old ++ n ∷ []))))
Keeps old whole given false new = (whole ≡ false) ⊎ ((given ≡ None) ⊎ (most limit.Nodes ≤ length old))
