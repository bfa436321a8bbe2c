use Rattle.std.proofs.Common.{◌≡◌, refl}
use Rattle.flow_paths.proofs.Reading.{target_span, target_taken, target_passed}
use Rattle.flow_paths.proofs.targets.take_target.Goals as goal
use Rattle.flow_paths.proofs.targets.take_target.Goals.{then-aim+in_ok-take_span, else-aim}

pub take_span-requires-clause-span : goal.take_span-requires-clause-span
take_span-requires-clause-span c = target_span c.args.vars.now c.args.walk.now c.args.walk.now c.requires.ready c.args.target.now c.in_ok-aim.aim
    c.in_ok-aim.ensures.aim

pub returns : goal.returns
returns c = elim c.if-aim.branch [
  | then-aim+in_ok-take_span w ↦ rw w.walk-is (target_taken c.args.vars.now c.args.walk.now (record {
    left = w.take_span.new.marks;
    spare = c.args.walk.now.spare;
    trail = w.take_span.new.trail;
    early = c.args.walk.now.early;
  }) c.requires.ready c.args.target.now c.in_ok-aim.aim c.in_ok-aim.ensures.aim w.if-aim.true w.in_ok-take_span.ensures refl refl)
  | else-aim w ↦ rw w.walk-is (target_passed c.args.vars.now c.args.walk.now c.args.walk.now c.requires.ready c.args.target.now c.in_ok-aim.aim
      c.in_ok-aim.ensures.aim w.if-aim.false)
]
