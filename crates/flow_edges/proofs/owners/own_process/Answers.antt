use Rattle.std.proofs.Common.{◌≡◌, ◌∙◌, sym, IsTrue}
use Rattle.circuit_run.specs.Kinds.{settles}
use Rattle.flow_edges.specs.Owning.{IsNamed}
use Rattle.flow_edges.proofs.Noting.{notes_as, notes_none}
use Rattle.flow_edges.proofs.owners.own_process.Goals as goal

pub returns-then-settles : goal.returns-then-settles
returns-then-settles c =
    let settled : IsTrue (settles c.args.kind) = sym c.settles.ensures ∙ c.if-settles.true in
    notes_as c.args.owners.now c.own_targets.new.owners (λ x s. (x ≡ c.args.p) × IsNamed c.args.uses.now s)
    (λ x s. (x ≡ c.args.p) × IsTrue (settles c.args.kind) × IsNamed c.args.uses.now s) c.in_ok-own_targets.ensures
    (λ x s r. (r.0, settled, r.1)) (λ x s r. (r.0, r.2))

pub returns : goal.returns
returns c =
    notes_none c.args.owners.now (λ x s. (x ≡ c.args.p) × IsTrue (settles c.args.kind) × IsNamed c.args.uses.now s)
    (λ x s r. absurd (let on : IsTrue (settles c.args.kind) = r.1 in cc (on, c.settles.ensures, c.if-settles.false)))
