use Rattle.std.proofs.Common.{◌≡◌, subst, inl, inr, List}
use Rattle.std.specs.Prelude.{Contains}
use Rattle.flow_marks.specs.declared.span.Span.{Span}
use Rattle.flow_edges.specs.Owning.{Notes, IsNamed}
use Rattle.flow_edges.proofs.Noting.{notes_more}
use Rattle.flow_edges.proofs.owners.own_targets.Goals as goal

pub returns : goal.returns
returns c =
    let sets : Notes c.args.owners.now c.own_spans.new.owners (λ x s. (x ≡ c.args.p) × Contains c.args.uses.now.sets s) =
    subst (λ (spans : List Span). Notes c.args.owners.now c.own_spans.new.owners (λ x s. (x ≡ c.args.p) × Contains spans s)) c.as_slice.ensures
    c.in_ok-own_spans.ensures in
    let defers : Notes c.own_spans.new.owners c.own_spans-2.new.owners (λ x s. (x ≡ c.args.p) × Contains c.args.uses.now.defers s) =
    subst (λ (spans : List Span). Notes c.own_spans.new.owners c.own_spans-2.new.owners (λ x s. (x ≡ c.args.p) × Contains spans s)) c.as_slice-2.ensures
    c.in_ok-own_spans-2.ensures in
    notes_more c.args.owners.now c.own_spans.new.owners c.own_spans-2.new.owners
    (λ x s. (x ≡ c.args.p) × Contains c.args.uses.now.sets s) (λ x s. (x ≡ c.args.p) × Contains c.args.uses.now.defers s)
    (λ x s. (x ≡ c.args.p) × IsNamed c.args.uses.now s) sets defers
    (λ x s r. (r.0, inl r.1)) (λ x s r. (r.0, inr r.1))
    (λ x s t. elim t.1 [ inl r ↦ inl (t.0, r) | inr r ↦ inr (t.0, r) ])
