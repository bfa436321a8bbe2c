use Rattle.std.proofs.Common.{◌≡◌, ◌+◌, arith, inl, inr}
use Rattle.std.proofs.lemmas.Bool.{cases_lt}
use Rattle.flow_edges.specs.Stretches.{IsAmong}
use Rattle.flow_hubs.proofs.Growing.{adds_none, adds_as, adds_more}
use Rattle.flow_edges.proofs.lists.note_all.Goals as goal

pub loop-at-init : goal.loop-at-init
loop-at-init c = adds_none c.args.rows.now (λ i x. IsAmong (record { from = c.args.among.from; to = c.args.among.from }) i × (x ≡ c.args.number))
    (λ i x r. absurd (omega (arith, r.0.from, r.0.to)))

pub note-requires : goal.note-requires
note-requires c = omega (arith, c.loop-at.invariant.as_many, c.requires.inside)

pub loop-at-preserved : goal.loop-at-preserved
loop-at-preserved c = adds_more c.args.rows.now c.loop-at.rows c.note.new.self
    (λ i x. IsAmong (record { from = c.args.among.from; to = c.loop-at.at }) i × (x ≡ c.args.number))
    (λ i x. (i ≡ c.loop-at.at) × (x ≡ c.args.number))
    (λ i x. IsAmong (record { from = c.args.among.from; to = c.loop-at.at + 1 }) i × (x ≡ c.args.number))
    c.loop-at.invariant c.in_ok-note.ensures
    (λ i x r. (record { from = r.0.from; to = omega (arith, r.0.to) }, r.1))
    (λ i x s. (record { from = omega (arith, s.0, c.loop-at.auto.at); to = omega (arith, s.0) }, s.1))
    (λ i x t. elim (cases_lt i c.loop-at.at) [
      | inl less ↦ inl (record { from = t.0.from; to = less }, t.1)
      | inr more ↦ inr (omega (arith, more, t.0.to), t.1)
    ])

pub returns : goal.returns
returns c = adds_as c.args.rows.now c.loop-at.rows
    (λ i x. IsAmong (record { from = c.args.among.from; to = c.loop-at.at }) i × (x ≡ c.args.number))
    (λ i x. IsAmong c.args.among i × (x ≡ c.args.number))
    c.loop-at.invariant
    (λ i x r. (record { from = r.0.from; to = omega (arith, r.0.from, r.0.to, c.requires.order, c.loop-at.auto.at-end) }, r.1))
    (λ i x t. (record { from = t.0.from; to = omega (arith, t.0.to, c.loop-at-test.false) }, t.1))
