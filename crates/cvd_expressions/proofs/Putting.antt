-- A node put in front of the operands that were taken off a stack.
use Rattle.std.proofs.Common.{◌≡◌, List, [], ◌∷◌, ◌++◌, Option, Some, refl, sym, ◌∙◌, ap, subst}
use Rattle.design_tree.specs.declared.design.Design.{Design}
use Rattle.design_tree.specs.declared.typed.Typed.{Typed}
use Rattle.cvd_nodes.specs.Trees.{push}
use Rattle.cvd_nodes.specs.declared.node.Node.{Node}
use Rattle.cvd_expressions.specs.Builds.{AllBuilt, Builds, IsBuilt, Puts, arity, tops}
use Rattle.cvd_expressions.specs.declared.built.Built.{Built}
use Rattle.cvd_expressions.proofs.Stacks.{tops-more, all_before, last_built, alone_0, alone_1, alone_2, alone_3, few_1_0, few_2_0, few_2_1, few_3_0, few_3_1}
use Rattle.cvd_expressions.proofs.Stacks.{few_3_2}

pub puts_0 : (d : Design) (n : Node) (bs : List Built) (held : Option Built) (us : List Typed) → arity n ≡ 0 → AllBuilt d bs → push n (tops bs) ≡ Some us
    → ((t : Typed) → push n [] ≡ Some (t ∷ []) → Builds d t held) → Puts d held bs us
puts_0 d n bs held us none all h p =
    let a = alone_0 n (tops bs) us none h in
    record { tree = a.tree; rest = tops bs; split = a.split; built = p a.tree a.made; left = refl; all = all }

-- the trees of a stack from whose top one was taken
pub top_of : (old bs : List Built) (b : Built) → old ≡ bs ++ b ∷ [] → tops old ≡ b.tree ∷ tops bs
top_of old bs b e = ap tops e ∙ tops-more bs b

pub puts_1 : (d : Design) (n : Node) (old bs : List Built) (a : Built) (held : Option Built) (us : List Typed) → old ≡ bs ++ a ∷ [] → arity n ≡ 1
    → AllBuilt d old → push n (tops old) ≡ Some us → ((t : Typed) → IsBuilt d a → push n (a.tree ∷ []) ≡ Some (t ∷ []) → Builds d t held) → Puts d held bs us
puts_1 d n old bs a held us e one all h p =
    let here = subst (AllBuilt d) e all in
    let s = alone_1 n a.tree (tops bs) us one (sym (ap (push n) (top_of old bs a e)) ∙ h) in
    record { tree = s.tree; rest = tops bs; split = s.split; built = p s.tree (last_built d bs a here) s.made; left = refl; all = all_before d bs a here }

pub puts_2 : (d : Design) (n : Node) (old mid bs : List Built) (a b : Built) (held : Option Built) (us : List Typed) → old ≡ mid ++ a ∷ [] → mid ≡ bs ++ b ∷ []
    → arity n ≡ 2 → AllBuilt d old → push n (tops old) ≡ Some us
    → ((t : Typed) → IsBuilt d a → IsBuilt d b → push n (a.tree ∷ b.tree ∷ []) ≡ Some (t ∷ []) → Builds d t held) → Puts d held bs us
puts_2 d n old mid bs a b held us e f two all h p =
    let here = subst (AllBuilt d) e all in
    let rest = subst (AllBuilt d) f (all_before d mid a here) in
    let is = top_of old mid a e ∙ ap (λ l. a.tree ∷ l) (top_of mid bs b f) in
    let s = alone_2 n a.tree b.tree (tops bs) us two (sym (ap (push n) is) ∙ h) in
    record {
      tree = s.tree;
      rest = tops bs;
      split = s.split;
      built = p s.tree (last_built d mid a here) (last_built d bs b rest) s.made;
      left = refl;
      all = all_before d bs b rest;
    }

pub puts_3 : (d : Design) (n : Node) (old mid low bs : List Built) (a b k : Built) (held : Option Built) (us : List Typed) → old ≡ mid ++ a ∷ []
    → mid ≡ low ++ b ∷ []
    → low ≡ bs ++ k ∷ [] → arity n ≡ 3 → AllBuilt d old → push n (tops old) ≡ Some us
    → ((t : Typed) → IsBuilt d a → IsBuilt d b → IsBuilt d k → push n (a.tree ∷ b.tree ∷ k.tree ∷ []) ≡ Some (t ∷ []) → Builds d t held) → Puts d held bs us
puts_3 d n old mid low bs a b k held us e f g three all h p =
    let here = subst (AllBuilt d) e all in
    let rest = subst (AllBuilt d) f (all_before d mid a here) in
    let last = subst (AllBuilt d) g (all_before d low b rest) in
    let is = top_of old mid a e ∙ ap (λ l. a.tree ∷ l) (top_of mid low b f ∙ ap (λ l. b.tree ∷ l) (top_of low bs k g)) in
    let s = alone_3 n a.tree b.tree k.tree (tops bs) us three (sym (ap (push n) is) ∙ h) in
    record {
      tree = s.tree;
      rest = tops bs;
      split = s.split;
      built = p s.tree (last_built d mid a here) (last_built d low b rest) (last_built d bs k last) s.made;
      left = refl;
      all = all_before d bs k last;
    }

-- ---- too few operands

pub gone_1_0 : (n : Node) (old : List Built) (us : List Typed) → old ≡ [] → arity n ≡ 1 → push n (tops old) ≡ Some us → ⊥
gone_1_0 n old us e one h = few_1_0 n us one (sym (ap (λ l. push n (tops l)) e) ∙ h)

pub gone_2_0 : (n : Node) (old : List Built) (us : List Typed) → old ≡ [] → arity n ≡ 2 → push n (tops old) ≡ Some us → ⊥
gone_2_0 n old us e two h = few_2_0 n us two (sym (ap (λ l. push n (tops l)) e) ∙ h)

pub gone_2_1 : (n : Node) (old mid : List Built) (a : Built) (us : List Typed) → old ≡ mid ++ a ∷ [] → mid ≡ [] → arity n ≡ 2 → push n (tops old) ≡ Some us → ⊥
gone_2_1 n old mid a us e f two h = few_2_1 n a.tree us two (sym (ap (push n) (top_of old mid a e ∙ ap (λ l. a.tree ∷ tops l) f)) ∙ h)

pub gone_3_0 : (n : Node) (old : List Built) (us : List Typed) → old ≡ [] → arity n ≡ 3 → push n (tops old) ≡ Some us → ⊥
gone_3_0 n old us e three h = few_3_0 n us three (sym (ap (λ l. push n (tops l)) e) ∙ h)

pub gone_3_1 : (n : Node) (old mid : List Built) (a : Built) (us : List Typed) → old ≡ mid ++ a ∷ [] → mid ≡ [] → arity n ≡ 3 → push n (tops old) ≡ Some us → ⊥
gone_3_1 n old mid a us e f three h = few_3_1 n a.tree us three (sym (ap (push n) (top_of old mid a e ∙ ap (λ l. a.tree ∷ tops l) f)) ∙ h)

pub gone_3_2 : (n : Node) (old mid low : List Built) (a b : Built) (us : List Typed) → old ≡ mid ++ a ∷ [] → mid ≡ low ++ b ∷ [] → low ≡ [] → arity n ≡ 3
    → push n (tops old) ≡ Some us → ⊥
gone_3_2 n old mid low a b us e f g three h =
    few_3_2 n a.tree b.tree us three (sym (ap (push n) (top_of old mid a e ∙ ap (λ l. a.tree ∷ l) (top_of mid low b f ∙ ap (λ l. b.tree ∷ tops l) g))) ∙ h)
