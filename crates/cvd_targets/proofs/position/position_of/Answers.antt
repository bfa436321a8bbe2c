use Rattle.std.proofs.Common.{◌^◌, sym, ◌∙◌, ap, subst}
use Rattle.cvd_nodes.specs.Trees.{index}
use Rattle.cvd_targets.specs.Positions.{ExpressionIn}
use Rattle.cvd_targets.proofs.Lists.{both, both_false, and_false, below_some, below_none}
use Rattle.cvd_targets.proofs.Positions.{number_stands}
use Rattle.cvd_targets.proofs.position.position_of.Goals as goal

pub returns-in_default : goal.returns-in_default
returns-in_default c = λ d l tree e h. both_false _ _ (below_none (2 ^ 32) l (sym c.in_default.is ∙ e))

pub returns-in_default-value : goal.returns-in_default-value
returns-in_default-value c = λ d l tree e h. and_false _ _ (subst (ExpressionIn d tree) c.in_default-value.is h)

pub returns : goal.returns
returns c = λ d l tree e h.
    let low = c.in-Some.low in
    let b = below_some (2 ^ 32) l low (sym c.in-Some.is ∙ e) in
    let x = subst (ExpressionIn d tree) c.in-Some-value.is h in
    record {
      at_is = ap (λ y. index low c.args.signed y) x.tree_is ∙ ap (λ n. index n c.args.signed tree) b.1;
      nodes_are = x.nodes_are;
      stands = both _ _ (number_stands l b.0) x.stands;
    }
