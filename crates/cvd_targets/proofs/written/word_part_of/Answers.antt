use Rattle.std.proofs.Common.{sym, ◌∙◌, ap, subst, arith}
use Rattle.std.proofs.lemmas.Bool.{true≢false}
use Rattle.design_tree.specs.declared.step.Target.TheVariants as target
use Rattle.design_meaning.specs.WellTyped as typed
use Rattle.cvd_targets.specs.Positions.{NamedIn, PositionIn, index_at}
use Rattle.cvd_targets.proofs.Lists.{never, below_some, below_none, over, exactly}
use Rattle.cvd_targets.proofs.Positions.{nodes_at}
use Rattle.cvd_targets.proofs.TargetForms.{word_part_stands, word_part_parts, too_wide}
use Rattle.cvd_targets.proofs.written.word_part_of.Goals as goal

pub returns-in_default : goal.returns-in_default
returns-in_default c = λ d k v w i a h p e q.
    never _ (λ t. true≢false (sym (word_part_parts d k v i w a t).named ∙ subst (NamedIn d k v) c.in_default.is h))

pub returns-in_default-word : goal.returns-in_default-word
returns-in_default-word c = λ d k v w i a h p e q.
    never _ (λ t. true≢false (sym (word_part_parts d k v i w a t).at ∙ subst (PositionIn d i) c.in_default-word.is p))

pub returns-in_default-width : goal.returns-in_default-width
returns-in_default-width c = λ d k v w i a h p e q.
    never _ (λ t. true≢false (sym (word_part_parts d k v i w a t).wide ∙ too_wide w (below_none 256 w (sym c.in_default-width.is ∙ e))))

pub returns-then-not-is_width : goal.returns-then-not-is_width
returns-then-not-is_width c = λ d k v w i a h p e q.
    let b = below_some 256 w c.in-Some-width.width (sym c.in-Some-width.is ∙ e) in
    never _ (λ t. true≢false (sym (word_part_parts d k v i w a t).wide ∙ ap typed.is_width (sym b.1) ∙ sym c.is_width.ensures ∙ c.if-not-is_width.true))

pub returns-in_default-at : goal.returns-in_default-at
returns-in_default-at c = λ d k v w i a h p e q.
    never _ (λ t. true≢false (sym (word_part_parts d k v i w a t).low ∙ subst (PositionIn d a) c.in_default-at.is q))

pub returns-then-nodes-gt-MOST : goal.returns-then-nodes-gt-MOST
returns-then-nodes-gt-MOST c = λ d k v w i a h p e q.
    let x = subst (PositionIn d i) c.in-Some-word.is p in
    let y = subst (PositionIn d a) c.in-Some-at.is q in
    let more = over c.in-Some-word.word.nodes c.in-Some-at.at.nodes _ 4194304 c.saturating_add-nodes.ensures (omega arith) in
    never _ (λ t. let few = (word_part_parts d k v i w a t).few in absurd (omega (arith, few, x.nodes_are, y.nodes_are, more)))

pub returns : goal.returns
returns c = λ d k v w i a h p e q.
    let n = subst (NamedIn d k v) c.in-Some.is h in
    let x = subst (PositionIn d i) c.in-Some-word.is p in
    let b = below_some 256 w c.in-Some-width.width (sym c.in-Some-width.is ∙ e) in
    let y = subst (PositionIn d a) c.in-Some-at.is q in
    let exact = exactly c.in-Some-word.word.nodes c.in-Some-at.at.nodes _ 4194304 c.saturating_add-nodes.ensures (omega arith) (omega arith) in
    record {
      target_is = ap (λ z. target.WordPart z c.in-Some-word.word.at c.in-Some-width.width c.in-Some-at.at.at) n.var_is
          ∙ ap (λ z. target.WordPart v z c.in-Some-width.width c.in-Some-at.at.at) x.at_is
          ∙ ap (λ z. target.WordPart v (index_at i) z c.in-Some-at.at.at) b.1 ∙ ap (target.WordPart v (index_at i) w) y.at_is;
      nodes_are = let s = nodes_at i in let t = nodes_at a in omega (arith, exact, x.nodes_are, y.nodes_are);
      stands = word_part_stands d k v i w a n.stands x.stands (ap typed.is_width (sym b.1) ∙ sym c.is_width.ensures ∙ c.if-not-is_width.false) y.stands
          (omega (arith, exact, x.nodes_are, y.nodes_are));
      width_is = b.1;
    }
