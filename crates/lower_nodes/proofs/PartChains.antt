-- Parts beside one another, the last ones first.
use Rattle.std.proofs.Common.{◌≡◌, ◌∙◌, sym, ap, refl, List, [], ◌∷◌, ◌++◌}
use Rattle.design_tree.specs.declared.typed.Typed.{Typed}
use Rattle.design_tree.specs.declared.typed.Typed.TheVariants as t
use Rattle.lower_nodes.specs.Joins.{joined_onto}

joined_last : (before : List Typed) (n a : Typed) → joined_onto (before ++ n ∷ []) a ≡ joined_onto before (t.Join n a)
joined_last [] n a = refl
joined_last (b ∷ before) n a = ap (t.Join b) (joined_last before n a)

-- one part more is joined
pub joined_turn : (before after : List Typed) (n a b all : Typed) → before ≡ after ++ n ∷ [] → b ≡ t.Join n a → joined_onto before a ≡ all
    → joined_onto after b ≡ all
joined_turn before after n a b all e h k =
    ap (joined_onto after) h ∙ sym (joined_last after n a) ∙ ap (λ ts. joined_onto ts a) (sym e) ∙ k

-- no part is left
pub joined_end : (before : List Typed) (a all : Typed) → before ≡ [] → joined_onto before a ≡ all → a ≡ all
joined_end before a all e k = ap (λ ts. joined_onto ts a) (sym e) ∙ k
