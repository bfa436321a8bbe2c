use Rattle.lower_repeats.proofs.Repeats.{copies_some, copies_none}
use Rattle.lower_repeats.proofs.repeated.repeat_all.Goals as goal

pub returns-in-Some : goal.returns-in-Some
returns-in-Some c =
    copies_some c.args.count c.args.size c.in-Some.bits c.args.all c.repeat_bits.result c.in-Some.ensures.1 c.requires c.repeat_bits.ensures

pub returns-in-None : goal.returns-in-None
returns-in-None c = copies_none c.args.count c.args.size c.args.all c.in-None.ensures
