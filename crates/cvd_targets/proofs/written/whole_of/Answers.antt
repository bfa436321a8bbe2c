use Rattle.std.proofs.Common.{refl, sym, ◌∙◌, ap, subst}
use Rattle.std.proofs.lemmas.Bool.{true≢false}
use Rattle.cov_types.specs.declared.var.Var.{Var}
use Rattle.design_tree.specs.declared.step.Target.TheVariants as target
use Rattle.cvd_targets.specs.Positions.{NamedIn}
use Rattle.cvd_targets.proofs.Lists.{never}
use Rattle.cvd_targets.proofs.TargetForms.{whole_stands, whole_parts, one_word, words_of}
use Rattle.cvd_targets.proofs.written.whole_of.Goals as goal

pub returns-in_default : goal.returns-in_default
returns-in_default c = λ d k v h. never _ (λ e. true≢false (sym (whole_parts d k v e).0 ∙ subst (NamedIn d k v) c.in_default.is h))

pub returns-then-named-ne1 : goal.returns-then-named-ne1
returns-then-named-ne1 c = λ d k v h.
    let n = subst (NamedIn d k v) c.in-Some.is h in
    never _ (λ e. absurd (c.if-named-ne1.true (sym (ap (λ (y : Var). y.words) n.found_is) ∙ words_of d k v (whole_parts d k v e).1)))

pub returns : goal.returns
returns c = λ d k v h.
    let n = subst (NamedIn d k v) c.in-Some.is h in
    record {
      target_is = ap target.Whole n.var_is;
      nodes_are = refl;
      stands = whole_stands d k v n.stands (one_word d k v (ap (λ (y : Var). y.words) n.found_is ∙ c.if-named-ne1.false));
      width_is = sym (ap (λ (y : Var). y.width) n.found_is);
    }
