use Rattle.std.proofs.Common.{◌≡◌, ◌∙◌, sym, ap, subst, List, get_or, take}
use Rattle.std.proofs.lemmas.List.{take_all}
use Rattle.flow_marks.specs.declared.slot.Slot.{Slot}
use Rattle.flow_marks.specs.Slots.{IsIn}
use Rattle.flow_marks.specs.Takes.{spot_bit, is_listed}
use Rattle.flow_paths.specs.Walking.{TakesAll}
use Rattle.flow_paths.proofs.Listing.{zero_spot, takes_next}
use Rattle.flow_paths.proofs.branches.take_all.Goals as goal

pub take-requires : goal.take-requires
take-requires c = subst (λ (z : List Slot). IsIn z (spot_bit (get_or c.args.spots.now c.loop-spot.spot-index zero_spot)))
    (sym c.loop-spot.invariant.takes.slots)
    (c.requires c.loop-spot.spot-index zero_spot c.loop-spot-test.true)

pub loop-spot-preserved : goal.loop-spot-preserved
loop-spot-preserved c = record {
  takes = takes_next c.args.spots.now c.loop-spot.spot-index c.loop-spot-test.true c.args.walk.now.left c.loop-spot.walk.left c.take.new.marks
      c.args.walk.now.trail.items c.loop-spot.walk.trail.items c.take.new.trail.items c.loop-spot.invariant.takes c.in_ok-take.ensures;
  spare = c.loop-spot.invariant.spare;
  early = c.loop-spot.invariant.early;
}

pub returns : goal.returns
returns c = subst (TakesAll c.args.walk.now c.loop-spot.walk) (take_all c.loop-spot.spot-index c.args.spots.now c.loop-spot-test.false) c.loop-spot.invariant
