use Rattle.std.proofs.Common.{refl, arith}
use Rattle.cycle_wakes.proofs.Noting.{none_marked, one_marked}
use Rattle.cycle_wakes.proofs.changes.mark_each.Goals as goal

pub loop-place-init : goal.loop-place-init
loop-place-init c = none_marked c.args.marks.now c.args.places.now

pub mark-requires : goal.mark-requires
mark-requires c = omega (arith, c.requires c.loop-place.place-index 0 c.loop-place-test.true, c.loop-place.invariant.room)

pub loop-place-preserved : goal.loop-place-preserved
loop-place-preserved c =
    one_marked c.args.marks.now c.loop-place.marks c.mark.new.self c.args.places.now c.loop-place.place-index _ refl c.loop-place.invariant
    c.mark.ensures.room c.mark.ensures.marks

pub returns : goal.returns
returns c = record {
  room = c.loop-place.invariant.room;
  kept = c.loop-place.invariant.kept;
  there = λ j lt. c.loop-place.invariant.there j (omega (arith, lt, c.loop-place-test.false));
}
