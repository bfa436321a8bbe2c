use Rattle.std.proofs.Common.{◌≡◌, ◌∙◌, ◌≤◌, ◌+◌, ap, refl, length, arith}
use Rattle.std.proofs.lemmas.List.{take_all}
use Rattle.elab_heads.specs.Choices.{items_in}
use Rattle.elab_heads.proofs.Choices.{items-step, last-body, no-body}
use Rattle.elab_heads.proofs.choice.body_at.Goals as goal

pub loop-at-preserved : goal.loop-at-preserved
loop-at-preserved c = record {
  number = items-step c.args.arms.now c.loop-at.at c.index-arms-at.result c.args.first c.loop-at.number c.in_ok-count_body.field-0 c.in_ok-number.number
      c.loop-at-test.true c.index-arms-at.is c.loop-at.invariant.number c.in_ok-count_body.ensures c.in_ok-number.ensures;
  before = let le = c.loop-at.invariant.before in let ne = c.if-at-chosen.false in omega arith;
}

pub returns-in-Some : goal.returns-in-Some
returns-in-Some c =
    let arms = c.args.arms.now in
    let before = c.loop-at.invariant.before in
    let le : length arms ≤ c.args.chosen = omega arith in
    last-body arms c.args.last.now c.args.first c.args.chosen c.in-Some.body _ le c.in-Some.is
    (c.loop-at.invariant.number ∙ ap (λ l. c.args.first + items_in l) (take_all c.loop-at.at arms c.loop-at-test.false)) refl

pub returns-in-None : goal.returns-in-None
returns-in-None c =
    let arms = c.args.arms.now in
    let before = c.loop-at.invariant.before in
    let le : length arms ≤ c.args.chosen = omega arith in
    no-body arms c.args.last.now c.args.first c.args.chosen le c.in-None.is
