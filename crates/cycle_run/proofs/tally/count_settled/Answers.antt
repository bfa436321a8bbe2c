use Rattle.std.proofs.Common.{refl, length}
use Rattle.cycle_run.proofs.TallyLaws.{are_few, room_for_toggles}
use Rattle.cycle_run.proofs.tally.count_settled.Goals as goal

pub count_kept-requires-clause-few : goal.count_kept-requires-clause-few
count_kept-requires-clause-few c =
    are_few c.args.x.now.design c.args.now.now c.args.kept.now (c.args.x.now, c.requires.valid, refl) c.requires.now c.requires.many c.requires.raised

pub raise_toggled-requires-clause-fit : goal.raise_toggled-requires-clause-fit
raise_toggled-requires-clause-fit c k =
    let d = c.args.x.now.design in
    let s = c.args.now.now in
    let kept = c.args.kept.now in
    let few = are_few d s kept (c.args.x.now, c.requires.valid, refl) c.requires.now c.requires.many c.requires.raised in
    room_for_toggles d s kept c.args.counts.now c.count_kept.new.counts (length c.args.x.now.toggles) k few c.requires.raised c.requires.fit
    (c.count_kept.ensures s c.requires.raised)

pub raise_toggled-requires-clause-unchanged : goal.raise_toggled-requires-clause-unchanged
raise_toggled-requires-clause-unchanged c = c.requires.changed c.if-first.false
