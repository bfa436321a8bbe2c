use Rattle.flat_reach.proofs.Rounds.{round_ends}
use Rattle.flat_reach.proofs.reach.reached.Goals as goal

pub loop-turn-init : goal.loop-turn-init
loop-turn-init c = record {
  there = c.in_ok-table.ensures.there;
  sound = c.in_ok-table.ensures.sound c.args.handings.now;
}

pub loop-turn-preserved : goal.loop-turn-preserved
loop-turn-preserved c = record {
  there = λ q e. c.in_ok-more.ensures.kept 0 q (c.loop-turn.invariant.there q e);
  sound = c.in_ok-more.ensures.sound c.args.first.now c.loop-turn.invariant.sound;
}

pub returns-then-not-more : goal.returns-then-not-more
returns-then-not-more c =
    round_ends c.args.first.now c.args.handings.now c.loop-turn.table c.hand_all.new.table c.in_ok-more.more c.loop-turn.invariant.there
    c.loop-turn.invariant.sound c.in_ok-more.ensures c.if-not-more.true
