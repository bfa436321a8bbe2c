use Rattle.std.proofs.Common.{sym, ◌∙◌, ap, subst}
use Rattle.std.proofs.lemmas.Bool.{true≢false}
use Rattle.cov_types.specs.declared.var.Var.{Var}
use Rattle.design_tree.specs.declared.step.Target.TheVariants as target
use Rattle.cvd_targets.specs.Positions.{NamedIn, PositionIn}
use Rattle.cvd_targets.proofs.Lists.{never}
use Rattle.cvd_targets.proofs.Positions.{nodes_at}
use Rattle.cvd_targets.proofs.TargetForms.{word_stands, word_parts}
use Rattle.cvd_targets.proofs.written.word_of.Goals as goal

pub returns-in_default : goal.returns-in_default
returns-in_default c = λ d k v a h i. never _ (λ e. true≢false (sym (word_parts d k v a e).0 ∙ subst (NamedIn d k v) c.in_default.is h))

pub returns-in_default-at : goal.returns-in_default-at
returns-in_default-at c = λ d k v a h i. never _ (λ e. true≢false (sym (word_parts d k v a e).1 ∙ subst (PositionIn d a) c.in_default-at.is i))

pub returns : goal.returns
returns c = λ d k v a h i.
    let n = subst (NamedIn d k v) c.in-Some.is h in
    let p = subst (PositionIn d a) c.in-Some-at.is i in
    record {
      target_is = ap (λ x. target.Word x c.in-Some-at.at.at) n.var_is ∙ ap (target.Word v) p.at_is;
      nodes_are = p.nodes_are ∙ sym (nodes_at a);
      stands = word_stands d k v a n.stands p.stands;
      width_is = sym (ap (λ (y : Var). y.width) n.found_is);
    }
