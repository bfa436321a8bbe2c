use Rattle.std.proofs.Common.{◌≡◌, ◌∙◌, sym, ap, subst, ◌||◌, ◌&&◌, not, List, get_or}
use Rattle.std.proofs.lemmas.List.{take_all}
use Rattle.flow_marks.specs.declared.slot.Slot.{Slot}
use Rattle.flow_marks.specs.Slots.{IsIn}
use Rattle.flow_marks.specs.Sets.{has}
use Rattle.flow_marks.specs.Takes.{spot_bit, is_listed}
use Rattle.flow_paths.proofs.Listing.{zero_spot, added}
use Rattle.flow_paths.proofs.branches.add_spots.Goals as goal

pub add-requires : goal.add-requires
add-requires c = subst (λ (z : List Slot). IsIn z (spot_bit (get_or c.args.spots.now c.loop-spot.spot-index zero_spot))) (sym c.loop-spot.invariant.slots)
    (c.requires c.loop-spot.spot-index zero_spot c.loop-spot-test.true)

pub loop-spot-preserved : goal.loop-spot-preserved
loop-spot-preserved c = record {
  slots = c.add.ensures.slots ∙ c.loop-spot.invariant.slots;
  bits = λ b h. added c.args.spots.now c.loop-spot.spot-index c.loop-spot-test.true (has c.loop-spot.marks) (has c.add.new.self) (has c.args.marks.now) b
      (c.add.ensures.bits b (subst (λ (z : List Slot). IsIn z b) (sym c.loop-spot.invariant.slots) h)) (c.loop-spot.invariant.bits b h);
}
