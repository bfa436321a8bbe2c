use Rattle.std.proofs.Common.{◌∙◌, sym}
use Rattle.flow_marks.proofs.Taking.{takes_one, takes_no_one}
use Rattle.flow_marks.proofs.trail.take.Goals as goal

pub returns-in_ok-push : goal.returns-in_ok-push
returns-in_ok-push c = rw c.in_ok-push.ensures.items
    (takes_one c.args.marks.now c.remove.new.self c.args.trail.now.items c.args.spot c.requires (sym c.has.ensures
    ∙ c.if-has.true) c.remove.ensures.slots c.remove.ensures.bits)

pub returns-else-has : goal.returns-else-has
returns-else-has c = takes_no_one c.args.marks.now c.args.trail.now.items c.args.spot (sym c.has.ensures ∙ c.if-has.false)
