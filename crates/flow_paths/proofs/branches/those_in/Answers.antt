use Rattle.std.proofs.Common.{◌≡◌, ◌∙◌, sym, ap, subst, ◌&&◌, List, get_or, take}
use Rattle.std.proofs.lemmas.List.{take_all}
use Rattle.flow_marks.specs.Sets.{has}
use Rattle.flow_marks.specs.Takes.{spot_bit, is_listed}
use Rattle.flow_paths.proofs.Listing.{zero_spot, kept_more, kept_pass, inside_more}
use Rattle.flow_paths.proofs.branches.those_in.Goals as goal
use Rattle.flow_paths.proofs.branches.those_in.Goals.{then-has+in_ok-push, else-has}

pub loop-spot-preserved : goal.loop-spot-preserved
loop-spot-preserved c = elim c.if-has.branch [
  | then-has+in_ok-push w ↦ rw (w.all-is, w.in_ok-push.ensures.items) (record {
    inside = inside_more c.args.spots.now c.loop-spot.spot-index c.loop-spot-test.true c.args.marks.now.slots c.loop-spot.all.items c.requires
        c.loop-spot.invariant.inside;
    bits = λ b. kept_more c.args.spots.now c.loop-spot.spot-index c.loop-spot-test.true (has c.args.marks.now) c.loop-spot.all.items b
        (sym c.has.ensures ∙ w.if-has.true) (c.loop-spot.invariant.bits b);
  })
  | else-has w ↦ rw w.all-is (record {
    inside = c.loop-spot.invariant.inside;
    bits = λ b. kept_pass c.args.spots.now c.loop-spot.spot-index c.loop-spot-test.true (has c.args.marks.now) c.loop-spot.all.items b
        (sym c.has.ensures ∙ w.if-has.false) (c.loop-spot.invariant.bits b);
  })
]

pub returns-clause-bits : goal.returns-clause-bits
returns-clause-bits c = λ b. c.loop-spot.invariant.bits b
    ∙ ap (λ z. is_listed z b && has c.args.marks.now b) (take_all c.loop-spot.spot-index c.args.spots.now c.loop-spot-test.false)
