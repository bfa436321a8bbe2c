use Rattle.std.proofs.Common.{sym, ◌∙◌, ap, subst}
use Rattle.std.proofs.lemmas.Bool.{true≢false}
use Rattle.cov_types.specs.declared.var.Var.{Var}
use Rattle.design_tree.specs.declared.step.Target.TheVariants as target
use Rattle.design_meaning.specs.WellTyped as typed
use Rattle.cvd_targets.specs.Positions.{NamedIn, PositionIn}
use Rattle.cvd_targets.proofs.Lists.{never, below_some, below_none}
use Rattle.cvd_targets.proofs.Positions.{nodes_at}
use Rattle.cvd_targets.proofs.TargetForms.{part_stands, part_parts, one_word, words_of, too_wide}
use Rattle.cvd_targets.proofs.written.part_of.Goals as goal

pub returns-in_default : goal.returns-in_default
returns-in_default c = λ d k v w a h e i. never _ (λ t. true≢false (sym (part_parts d k v w a t).0 ∙ subst (NamedIn d k v) c.in_default.is h))

pub returns-then-named-ne1 : goal.returns-then-named-ne1
returns-then-named-ne1 c = λ d k v w a h e i.
    let n = subst (NamedIn d k v) c.in-Some.is h in
    never _ (λ t. absurd (c.if-named-ne1.true (sym (ap (λ (y : Var). y.words) n.found_is) ∙ words_of d k v (part_parts d k v w a t).1.0)))

pub returns-in_default-width : goal.returns-in_default-width
returns-in_default-width c = λ d k v w a h e i.
    never _ (λ t. true≢false (sym (part_parts d k v w a t).1.1.0 ∙ too_wide w (below_none 256 w (sym c.in_default-width.is ∙ e))))

pub returns-then-not-is_width : goal.returns-then-not-is_width
returns-then-not-is_width c = λ d k v w a h e i.
    let b = below_some 256 w c.in-Some-width.width (sym c.in-Some-width.is ∙ e) in
    never _ (λ t. true≢false (sym (part_parts d k v w a t).1.1.0 ∙ ap typed.is_width (sym b.1) ∙ sym c.is_width.ensures ∙ c.if-not-is_width.true))

pub returns-in_default-at : goal.returns-in_default-at
returns-in_default-at c = λ d k v w a h e i. never _ (λ t. true≢false (sym (part_parts d k v w a t).1.1.1 ∙ subst (PositionIn d a) c.in_default-at.is i))

pub returns : goal.returns
returns c = λ d k v w a h e i.
    let n = subst (NamedIn d k v) c.in-Some.is h in
    let b = below_some 256 w c.in-Some-width.width (sym c.in-Some-width.is ∙ e) in
    let p = subst (PositionIn d a) c.in-Some-at.is i in
    record {
      target_is = ap (λ x. target.Part x c.in-Some-width.width c.in-Some-at.at.at) n.var_is ∙ ap (λ y. target.Part v y c.in-Some-at.at.at) b.1
          ∙ ap (target.Part v w) p.at_is;
      nodes_are = p.nodes_are ∙ sym (nodes_at a);
      stands = part_stands d k v w a n.stands (one_word d k v (ap (λ (y : Var). y.words) n.found_is ∙ c.if-named-ne1.false))
          (ap typed.is_width (sym b.1) ∙ sym c.is_width.ensures ∙ c.if-not-is_width.false) p.stands;
      width_is = b.1;
    }
