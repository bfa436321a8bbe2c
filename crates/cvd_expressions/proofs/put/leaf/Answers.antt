use Rattle.std.proofs.Common.{[], sym, ◌∙◌, ap, subst}
use Rattle.design_tree.specs.declared.typed.Typed.TheVariants as e
use Rattle.cvd_nodes.specs.Trees.{push}
use Rattle.cvd_expressions.specs.Builds.{Builds}
use Rattle.cvd_expressions.proofs.Parts.{tells}
use Rattle.cvd_expressions.proofs.Stacks.{one_tree}
use Rattle.cvd_expressions.proofs.put.leaf.Goals as goal

pub returns-in-Number : goal.returns-in-Number
returns-in-Number c =
    tells c.number.result _ _
    (λ held f. λ d t s h.
    subst (λ x. Builds d x held) (one_tree (e.Number c.in-Number.width c.in-Number.value) t (sym (ap (λ n. push n []) c.in-Number.is) ∙ h)) (f d))
    c.number.ensures

pub returns-in-Var : goal.returns-in-Var
returns-in-Var c =
    tells c.variable.result _ _
    (λ held f. λ d t s h. subst (λ x. Builds d x held) (one_tree (e.Var c.in-Var.var) t (sym (ap (λ n. push n []) c.in-Var.is) ∙ h)) (f d s))
    c.variable.ensures
