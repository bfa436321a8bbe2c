use Rattle.std.proofs.Common.{◌≡◌, ◌∙◌, sym, subst, false, List, IsTrue}
use Rattle.std.specs.Prelude.{Contains}
use Rattle.circuit_run.specs.Kinds.{settles}
use Rattle.design_meaning.specs.Processes.{kind_of}
use Rattle.flow_marks.specs.declared.span.Span.{Span}
use Rattle.flow_edges.specs.Linking.{Grows}
use Rattle.flow_edges.proofs.Owned.{kind_read}
use Rattle.flow_edges.proofs.Grown.{grows_as, grows_none}
use Rattle.flow_edges.proofs.links.link_process.Goals as goal

pub returns-then-settles : goal.returns-then-settles
returns-then-settles c =
    let kind = kind_read c.args.design.now c.as_slice.result.now c.args.q c.index-as_slice-q.result c.as_slice.ensures c.requires.to in
    let settled : IsTrue (settles (kind_of c.args.design.now c.args.q)) =
    subst (λ k. IsTrue (settles k)) kind (sym c.settles.ensures ∙ c.if-settles.true) in
    grows_as c.args.design.now c.args.links.now c.link_reads.new.links (λ x s. (x ≡ c.args.q) × Contains c.args.uses.now.reads s)
    (λ x s. (x ≡ c.args.q) × IsTrue (settles (kind_of c.args.design.now c.args.q)) × Contains c.args.uses.now.reads s)
    (subst (λ (spans : List Span). Grows c.args.design.now c.args.links.now c.link_reads.new.links (λ x s. (x ≡ c.args.q) × Contains spans s))
    c.as_slice-then-settles.ensures c.in_ok-link_reads.ensures)
    (λ x s r. (r.0, settled, r.1)) (λ x s r. (r.0, r.2))

pub returns : goal.returns
returns c =
    let kind = kind_read c.args.design.now c.as_slice.result.now c.args.q c.index-as_slice-q.result c.as_slice.ensures c.requires.to in
    let idle : settles (kind_of c.args.design.now c.args.q) ≡ false = subst (λ k. settles k ≡ false) kind (sym c.settles.ensures ∙ c.if-settles.false) in
    grows_none c.args.design.now c.args.links.now
    (λ x s. (x ≡ c.args.q) × IsTrue (settles (kind_of c.args.design.now c.args.q)) × Contains c.args.uses.now.reads s)
    (λ x s r. absurd (let on : IsTrue (settles (kind_of c.args.design.now c.args.q)) = r.1 in cc (on, idle)))
