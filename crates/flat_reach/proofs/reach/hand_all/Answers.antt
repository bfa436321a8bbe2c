use Rattle.std.proofs.Common.{subst, List}
use Rattle.std.proofs.lemmas.List.{take_all}
use Rattle.flat_reach.specs.declared.reach.Handing.{Handing}
use Rattle.flat_reach.specs.Reach.{IsRound}
use Rattle.flat_reach.proofs.Rounds.{round_begins, round_more}
use Rattle.flat_reach.proofs.reach.hand_all.Goals as goal

pub loop-one-init : goal.loop-one-init
loop-one-init c = round_begins c.args.handings.now c.args.table.now

pub loop-one-preserved : goal.loop-one-preserved
loop-one-preserved c =
    round_more c.args.handings.now c.loop-one.one-index c.one-item.result c.args.table.now c.loop-one.table c.hand.new.table c.loop-one.more
    c.in_ok-hand.field-0 c.either-more.result c.loop-one-test.true c.one-item.is c.loop-one.invariant c.in_ok-hand.ensures c.either-more.ensures

pub returns : goal.returns
returns c =
    subst (λ (l : List Handing). IsRound c.args.handings.now l c.args.table.now c.loop-one.table c.loop-one.more)
    (take_all c.loop-one.one-index c.args.handings.now c.loop-one-test.false) c.loop-one.invariant
