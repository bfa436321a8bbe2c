-- Stacks, and nodes in front of what they hold.
use Rattle.std.proofs.Common.{◌≡◌, List, [], ◌∷◌, ◌++◌, Option, Some, None, refl, ◌∙◌, ap, arith}
use Rattle.std.specs.Option.{option_and_then}
use Rattle.design_tree.specs.declared.design.Design.{Design}
use Rattle.design_tree.specs.declared.typed.Typed.{Typed}
use Rattle.cvd_nodes.specs.Trees.{plug, push}
use Rattle.cvd_nodes.specs.declared.node.Node.{Node}
use Rattle.cvd_nodes.specs.declared.node.Node.TheVariants as node
use Rattle.cvd_expressions.specs.Builds.{AllBuilt, IsBuilt, arity, tops}
use Rattle.cvd_expressions.specs.declared.built.Built.{Built}

pub tops-more : (bs : List Built) (b : Built) → tops (bs ++ b ∷ []) ≡ b.tree ∷ tops bs
tops-more [] b = refl
tops-more (x ∷ bs) b = ap (λ l. l ++ x.tree ∷ []) (tops-more bs b)

pub all_before : (d : Design) (bs : List Built) (b : Built) → AllBuilt d (bs ++ b ∷ []) → AllBuilt d bs
all_before d [] b h = tt
all_before d (x ∷ bs) b h = (h.0, all_before d bs b h.1)

pub last_built : (d : Design) (bs : List Built) (b : Built) → AllBuilt d (bs ++ b ∷ []) → IsBuilt d b
last_built d [] b h = h.0
last_built d (x ∷ bs) b h = last_built d bs b h.1

pub all_with : (d : Design) (bs : List Built) (b : Built) → AllBuilt d bs → IsBuilt d b → AllBuilt d (bs ++ b ∷ [])
all_with d [] b h k = (k, tt)
all_with d (x ∷ bs) b h k = (h.0, all_with d bs b h.1 k)

-- ---- a node in front of its operands alone

pub record Alone (n : Node) (own ts us : List Typed) : Type 0 where
  pub tree : Typed
  pub made : push n own ≡ Some (tree ∷ [])
  pub split : us ≡ tree ∷ ts

at_once : (x : Typed) (ts us : List Typed) → Some (x ∷ ts) ≡ Some us → us ≡ x ∷ ts
at_once x ts us h = cc

pub alone_0 : (n : Node) (ts us : List Typed) → arity n ≡ 0 → push n ts ≡ Some us → Alone n [] ts us
alone_0 (node.Number w x) ts us e h = record { tree = _; made = refl; split = at_once _ ts us h }
alone_0 (node.Var v) ts us e h = record { tree = _; made = refl; split = at_once _ ts us h }
alone_0 (node.Word v low s) ts us e h = absurd (omega arith)
alone_0 (node.Part w low s) ts us e h = absurd (omega arith)
alone_0 (node.ZeroExtend w) ts us e h = absurd (omega arith)
alone_0 (node.SignExtend w) ts us e h = absurd (omega arith)
alone_0 (node.Truncate w) ts us e h = absurd (omega arith)
alone_0 (node.Unary op) ts us e h = absurd (omega arith)
alone_0 (node.Binary op) ts us e h = absurd (omega arith)
alone_0 node.Join ts us e h = absurd (omega arith)
alone_0 (node.Repeat m) ts us e h = absurd (omega arith)
alone_0 node.Choose ts us e h = absurd (omega arith)

pub alone_1 : (n : Node) (a : Typed) (ts us : List Typed) → arity n ≡ 1 → push n (a ∷ ts) ≡ Some us → Alone n (a ∷ []) ts us
alone_1 (node.Number w x) a ts us e h = absurd (omega arith)
alone_1 (node.Var v) a ts us e h = absurd (omega arith)
alone_1 (node.Word v low s) a ts us e h = record { tree = _; made = refl; split = at_once _ ts us h }
alone_1 (node.Part w low s) a ts us e h = absurd (omega arith)
alone_1 (node.ZeroExtend w) a ts us e h = record { tree = _; made = refl; split = at_once _ ts us h }
alone_1 (node.SignExtend w) a ts us e h = record { tree = _; made = refl; split = at_once _ ts us h }
alone_1 (node.Truncate w) a ts us e h = record { tree = _; made = refl; split = at_once _ ts us h }
alone_1 (node.Unary op) a ts us e h = record { tree = _; made = refl; split = at_once _ ts us h }
alone_1 (node.Binary op) a ts us e h = absurd (omega arith)
alone_1 node.Join a ts us e h = absurd (omega arith)
alone_1 (node.Repeat m) a ts us e h = record { tree = _; made = refl; split = at_once _ ts us h }
alone_1 node.Choose a ts us e h = absurd (omega arith)

pub alone_2 : (n : Node) (a b : Typed) (ts us : List Typed) → arity n ≡ 2 → push n (a ∷ b ∷ ts) ≡ Some us → Alone n (a ∷ b ∷ []) ts us
alone_2 (node.Number w x) a b ts us e h = absurd (omega arith)
alone_2 (node.Var v) a b ts us e h = absurd (omega arith)
alone_2 (node.Word v low s) a b ts us e h = absurd (omega arith)
alone_2 (node.Part w low s) a b ts us e h = record { tree = _; made = refl; split = at_once _ ts us h }
alone_2 (node.ZeroExtend w) a b ts us e h = absurd (omega arith)
alone_2 (node.SignExtend w) a b ts us e h = absurd (omega arith)
alone_2 (node.Truncate w) a b ts us e h = absurd (omega arith)
alone_2 (node.Unary op) a b ts us e h = absurd (omega arith)
alone_2 (node.Binary op) a b ts us e h = record { tree = _; made = refl; split = at_once _ ts us h }
alone_2 node.Join a b ts us e h = record { tree = _; made = refl; split = at_once _ ts us h }
alone_2 (node.Repeat m) a b ts us e h = absurd (omega arith)
alone_2 node.Choose a b ts us e h = absurd (omega arith)

pub alone_3 : (n : Node) (a b c : Typed) (ts us : List Typed) → arity n ≡ 3 → push n (a ∷ b ∷ c ∷ ts) ≡ Some us → Alone n (a ∷ b ∷ c ∷ []) ts us
alone_3 (node.Number w x) a b c ts us e h = absurd (omega arith)
alone_3 (node.Var v) a b c ts us e h = absurd (omega arith)
alone_3 (node.Word v low s) a b c ts us e h = absurd (omega arith)
alone_3 (node.Part w low s) a b c ts us e h = absurd (omega arith)
alone_3 (node.ZeroExtend w) a b c ts us e h = absurd (omega arith)
alone_3 (node.SignExtend w) a b c ts us e h = absurd (omega arith)
alone_3 (node.Truncate w) a b c ts us e h = absurd (omega arith)
alone_3 (node.Unary op) a b c ts us e h = absurd (omega arith)
alone_3 (node.Binary op) a b c ts us e h = absurd (omega arith)
alone_3 node.Join a b c ts us e h = absurd (omega arith)
alone_3 (node.Repeat m) a b c ts us e h = absurd (omega arith)
alone_3 node.Choose a b c ts us e h = record { tree = _; made = refl; split = at_once _ ts us h }

pub few_1_0 : (n : Node) (us : List Typed) → arity n ≡ 1 → push n ([]) ≡ Some us → ⊥
few_1_0 (node.Number w x) us e h = absurd (omega arith)
few_1_0 (node.Var v) us e h = absurd (omega arith)
few_1_0 (node.Word v low s) us e h = cc
few_1_0 (node.Part w low s) us e h = absurd (omega arith)
few_1_0 (node.ZeroExtend w) us e h = cc
few_1_0 (node.SignExtend w) us e h = cc
few_1_0 (node.Truncate w) us e h = cc
few_1_0 (node.Unary op) us e h = cc
few_1_0 (node.Binary op) us e h = absurd (omega arith)
few_1_0 node.Join us e h = absurd (omega arith)
few_1_0 (node.Repeat m) us e h = cc
few_1_0 node.Choose us e h = absurd (omega arith)

pub few_2_0 : (n : Node) (us : List Typed) → arity n ≡ 2 → push n ([]) ≡ Some us → ⊥
few_2_0 (node.Number w x) us e h = absurd (omega arith)
few_2_0 (node.Var v) us e h = absurd (omega arith)
few_2_0 (node.Word v low s) us e h = absurd (omega arith)
few_2_0 (node.Part w low s) us e h = cc
few_2_0 (node.ZeroExtend w) us e h = absurd (omega arith)
few_2_0 (node.SignExtend w) us e h = absurd (omega arith)
few_2_0 (node.Truncate w) us e h = absurd (omega arith)
few_2_0 (node.Unary op) us e h = absurd (omega arith)
few_2_0 (node.Binary op) us e h = cc
few_2_0 node.Join us e h = cc
few_2_0 (node.Repeat m) us e h = absurd (omega arith)
few_2_0 node.Choose us e h = absurd (omega arith)

pub few_2_1 : (n : Node) (a : Typed) (us : List Typed) → arity n ≡ 2 → push n (a ∷ []) ≡ Some us → ⊥
few_2_1 (node.Number w x) a us e h = absurd (omega arith)
few_2_1 (node.Var v) a us e h = absurd (omega arith)
few_2_1 (node.Word v low s) a us e h = absurd (omega arith)
few_2_1 (node.Part w low s) a us e h = cc
few_2_1 (node.ZeroExtend w) a us e h = absurd (omega arith)
few_2_1 (node.SignExtend w) a us e h = absurd (omega arith)
few_2_1 (node.Truncate w) a us e h = absurd (omega arith)
few_2_1 (node.Unary op) a us e h = absurd (omega arith)
few_2_1 (node.Binary op) a us e h = cc
few_2_1 node.Join a us e h = cc
few_2_1 (node.Repeat m) a us e h = absurd (omega arith)
few_2_1 node.Choose a us e h = absurd (omega arith)

pub few_3_0 : (n : Node) (us : List Typed) → arity n ≡ 3 → push n ([]) ≡ Some us → ⊥
few_3_0 (node.Number w x) us e h = absurd (omega arith)
few_3_0 (node.Var v) us e h = absurd (omega arith)
few_3_0 (node.Word v low s) us e h = absurd (omega arith)
few_3_0 (node.Part w low s) us e h = absurd (omega arith)
few_3_0 (node.ZeroExtend w) us e h = absurd (omega arith)
few_3_0 (node.SignExtend w) us e h = absurd (omega arith)
few_3_0 (node.Truncate w) us e h = absurd (omega arith)
few_3_0 (node.Unary op) us e h = absurd (omega arith)
few_3_0 (node.Binary op) us e h = absurd (omega arith)
few_3_0 node.Join us e h = absurd (omega arith)
few_3_0 (node.Repeat m) us e h = absurd (omega arith)
few_3_0 node.Choose us e h = cc

pub few_3_1 : (n : Node) (a : Typed) (us : List Typed) → arity n ≡ 3 → push n (a ∷ []) ≡ Some us → ⊥
few_3_1 (node.Number w x) a us e h = absurd (omega arith)
few_3_1 (node.Var v) a us e h = absurd (omega arith)
few_3_1 (node.Word v low s) a us e h = absurd (omega arith)
few_3_1 (node.Part w low s) a us e h = absurd (omega arith)
few_3_1 (node.ZeroExtend w) a us e h = absurd (omega arith)
few_3_1 (node.SignExtend w) a us e h = absurd (omega arith)
few_3_1 (node.Truncate w) a us e h = absurd (omega arith)
few_3_1 (node.Unary op) a us e h = absurd (omega arith)
few_3_1 (node.Binary op) a us e h = absurd (omega arith)
few_3_1 node.Join a us e h = absurd (omega arith)
few_3_1 (node.Repeat m) a us e h = absurd (omega arith)
few_3_1 node.Choose a us e h = cc

pub few_3_2 : (n : Node) (a b : Typed) (us : List Typed) → arity n ≡ 3 → push n (a ∷ b ∷ []) ≡ Some us → ⊥
few_3_2 (node.Number w x) a b us e h = absurd (omega arith)
few_3_2 (node.Var v) a b us e h = absurd (omega arith)
few_3_2 (node.Word v low s) a b us e h = absurd (omega arith)
few_3_2 (node.Part w low s) a b us e h = absurd (omega arith)
few_3_2 (node.ZeroExtend w) a b us e h = absurd (omega arith)
few_3_2 (node.SignExtend w) a b us e h = absurd (omega arith)
few_3_2 (node.Truncate w) a b us e h = absurd (omega arith)
few_3_2 (node.Unary op) a b us e h = absurd (omega arith)
few_3_2 (node.Binary op) a b us e h = absurd (omega arith)
few_3_2 node.Join a b us e h = absurd (omega arith)
few_3_2 (node.Repeat m) a b us e h = absurd (omega arith)
few_3_2 node.Choose a b us e h = cc

-- ---- nodes in front of a node

pub record Before (ns : List Node) (n : Node) (ts vs : List Typed) : Type 0 where
  pub mid : List Typed
  pub last : push n ts ≡ Some mid
  pub front : plug ns mid ≡ Some vs

pub before : (ns : List Node) (n : Node) (ts vs : List Typed) → plug (ns ++ n ∷ []) ts ≡ Some vs → Before ns n ts vs
before [] n ts vs h = record { mid = vs; last = h; front = refl }
before (m ∷ ns) n ts vs h = by (plug (ns ++ n ∷ []) ts) refl h (before ns n ts)
  where
    by : (o : Option (List Typed)) → plug (ns ++ n ∷ []) ts ≡ o → option_and_then (push m) o ≡ Some vs
        → ((ws : List Typed) → plug (ns ++ n ∷ []) ts ≡ Some ws → Before ns n ts ws) → Before (m ∷ ns) n ts vs
    by None e k later = absurd (cc)
    by (Some ws) e k later = let b = later ws e in record { mid = b.mid; last = b.last; front = ap (option_and_then (push m)) b.front ∙ k }

pub one_tree : (x t : Typed) → Some (x ∷ []) ≡ Some (t ∷ []) → x ≡ t
one_tree x t h = cc
