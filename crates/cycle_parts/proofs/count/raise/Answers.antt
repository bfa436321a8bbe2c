use Rattle.std.proofs.Common.{slice_index_or}
use Rattle.cycle_parts.proofs.CountLaws.{room_for_one}
use Rattle.cycle_parts.proofs.count.raise.Goals as goal

pub raise_one-requires : goal.raise_one-requires
raise_one-requires c =
    room_for_one c.args.counts.now c.loop-counter.counts c.args.raised.now c.loop-counter.counter-index
    (slice_index_or c.args.raised.now c.loop-counter.counter-index 0) c.requires c.loop-counter-test.true c.loop-counter.invariant
