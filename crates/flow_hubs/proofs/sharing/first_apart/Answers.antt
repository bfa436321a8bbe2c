use Rattle.std.proofs.Common.{subst, arith}
use Rattle.std.proofs.lemmas.List.{take_all}
use Rattle.std.proofs.lemmas.List.Elements.{Contains-get_or}
use Rattle.flow_hubs.proofs.Listed.{AllMay, may_none, may_more}
use Rattle.flow_hubs.proofs.sharing.first_apart.Goals as goal

pub loop-p-init : goal.loop-p-init
loop-p-init c = may_none c.args.marks.now c.args.selfish.now c.args.readers.now

pub is_apart-requires-clause-marks : goal.is_apart-requires-clause-marks
is_apart-requires-clause-marks c = c.requires.readers c.loop-p.p-index 0 c.loop-p-test.true

pub is_apart-requires-clause-selfish : goal.is_apart-requires-clause-selfish
is_apart-requires-clause-selfish c = omega (arith, c.requires.readers c.loop-p.p-index 0 c.loop-p-test.true, c.requires.selfish)

pub returns-then-is_apart-clause-reader : goal.returns-then-is_apart-clause-reader
returns-then-is_apart-clause-reader c = Contains-get_or c.args.readers.now c.loop-p.p-index 0 c.loop-p-test.true

pub loop-p-preserved : goal.loop-p-preserved
loop-p-preserved c =
    may_more c.args.marks.now c.args.selfish.now c.args.readers.now c.loop-p.p-index c.loop-p-test.true c.loop-p.invariant
    (c.is_apart.ensures.not c.if-is_apart.false)

pub returns-clause-none : goal.returns-clause-none
returns-clause-none c =
    subst (AllMay c.args.marks.now c.args.selfish.now) (take_all c.loop-p.p-index c.args.readers.now c.loop-p-test.false) c.loop-p.invariant
