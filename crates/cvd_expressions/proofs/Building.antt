-- The steps of putting nodes together, from the last to the first.
use Rattle.std.proofs.Common.{◌≡◌, ℕ, suc, ◌<◌, true, false, List, [], ◌∷◌, ◌++◌, length, take, get_or, Option, Some, None, MatchOption, refl, sym, ◌∙◌, ap}
use Rattle.std.proofs.Common.{subst}
use Rattle.std.specs.Prelude.{◌&&◌}
use Rattle.std.proofs.Math.Seq.{take-suc}
use Rattle.std.proofs.lemmas.Bool.{cases_Bool, true≢false}
use mathlib.Core.Logic.{inl, inr}
use Rattle.design_tree.specs.declared.design.Design.{Design}
use Rattle.design_tree.specs.declared.typed.Typed.{Typed}
use Rattle.cvd_text.specs.Targets.{is_expression}
use Rattle.cvd_nodes.specs.Trees.{AreNodes, plug}
use Rattle.cvd_nodes.specs.declared.node.Node.{Node}
use Rattle.cvd_nodes.proofs.Typings.{fst}
use Rattle.cvd_expressions.specs.Builds.{AllBuilt, Builds, Puts, tops}
use Rattle.cvd_expressions.specs.declared.built.Built.{Built}
use Rattle.cvd_expressions.proofs.Stacks.{all_with, last_built, tops-more, Before, before}
use Rattle.cvd_expressions.proofs.Putting.{top_of}
use Rattle.cvd_expressions.proofs.Whole.{all_fine, plugged}

-- the stack stands in front of the nodes that are left
abbrev pub Stands : Design → List Node → ℕ → List Built → Typed → Type 0
Stands d nodes left stack t = AllBuilt d stack × (plug (take left nodes) (tops stack) ≡ Some (t ∷ []))

take_whole : (ns : List Node) → take (length ns) ns ≡ ns
take_whole [] = refl
take_whole (n ∷ ns) = ap (λ l. n ∷ l) (take_whole ns)

pub at_first : (d : Design) (nodes : List Node) (t : Typed) → AreNodes nodes t → Stands d nodes (length nodes) [] t
at_first d nodes t h = (tt, ap (λ l. plug l []) (take_whole nodes) ∙ h)

-- the node before those that were put
pub next : (d : Design) (nodes : List Node) (k left : ℕ) (node : Node) (stack : List Built) (t : Typed) → left ≡ suc k → k < length nodes
    → node ≡ get_or nodes k node
    → Stands d nodes left stack t → Before (take k nodes) node (tops stack) (t ∷ [])
next d nodes k left node stack t is within here s =
    before (take k nodes) node (tops stack) (t ∷ [])
    (sym (ap (λ l. plug l (tops stack)) (ap (λ n. take n nodes) is ∙ take-suc nodes k node within ∙ ap (λ x. take k nodes ++ x ∷ []) (sym here))) ∙ s.1)

pub goes_on : (d : Design) (nodes : List Node) (k : ℕ) (node : Node) (stack new : List Built) (built : Built) (t : Typed)
    (b : Before (take k nodes) node (tops stack) (t ∷ []))
    → Puts d (Some built) new b.mid → Stands d nodes k (new ++ built ∷ []) t
goes_on d nodes k node stack new built t b p = (
  all_with d new built p.all p.built.1,
  ap (plug (take k nodes)) (tops-more new built ∙ ap (λ x. x ∷ tops new) p.built.0 ∙ ap (λ l. p.tree ∷ l) p.left ∙ sym p.split) ∙ b.front,
)

pub refused : (d : Design) (nodes : List Node) (k : ℕ) (node : Node) (stack new : List Built) (t : Typed) (b : Before (take k nodes) node (tops stack) (t ∷ []))
    → Puts d None new b.mid → is_expression d t ≡ false
refused d nodes k node stack new t b p = elim (cases_Bool (is_expression d t)) [
  | inl is ↦
      let all = plugged d (take k nodes) b.mid (t ∷ []) b.front (ap (λ x. x && true) is) in
      absurd (true≢false (sym (fst (is_expression d p.tree) _ (sym (ap (all_fine d) p.split) ∙ all)) ∙ p.built))
  | inr isn ↦ isn
]

first_of : (x y : Typed) (xs : List Typed) → Some (x ∷ xs) ≡ Some (y ∷ []) → x ≡ y
first_of x y xs h = cc

nothing_of : (y : Typed) → Some [] ≡ Some (y ∷ []) → ⊥
nothing_of y h = cc

-- the last one is the whole
pub last_is : (d : Design) (nodes : List Node) (left : ℕ) (stack new : List Built) (t : Typed) (r : Option Built) → left ≡ 0
    → MatchOption r ((stack ≡ []) × (new ≡ [])) (λ b. stack ≡ new ++ b ∷ []) → Stands d nodes left stack t → Builds d t r
last_is d nodes left stack new t (Some b) none h s =
    let is = ap (λ n. plug (take n nodes) (tops stack)) none in
    (first_of b.tree t (tops new) (ap Some (sym (top_of stack new b h)) ∙ sym is ∙ s.1), last_built d new b (subst (AllBuilt d) h s.0))
last_is d nodes left stack new t None none h s =
    let is = ap (λ n. plug (take n nodes) (tops stack)) none in
    absurd (nothing_of t (ap (λ l. Some (tops l)) (sym h.0) ∙ sym is ∙ s.1))
