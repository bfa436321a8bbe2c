use Rattle.std.proofs.Common.{◌≡◌, ◌+◌, ◌/◌, ◌^◌, arith}
use Rattle.std.specs.Int.{trailing_zeros, w128}
use Rattle.cycle_parts.proofs.NextOnes.{none_above, none_between}
use Rattle.cycle_parts.proofs.toggle.next_one.Goals as goal

pub returns-then-above-eq0-clause-none : goal.returns-then-above-eq0-clause-none
returns-then-above-eq0-clause-none c k from lt =
    none_above c.args.entries.now c.requires.ascending c.args.word c.args.at c.from-place.result (omega (arith, c.from-place.ensures)) c.if-above-eq0.true
    k from lt

pub returns-then-from-place-clause-none : goal.returns-then-from-place-clause-none
returns-then-from-place-clause-none c k from lt =
    let next = c.args.at + trailing_zeros w128 (c.args.word / 2 ^ c.from-place.result) in
    none_between c.args.entries.now c.requires.ascending c.args.word c.args.at next c.from-place.result (omega (arith, c.from-place.ensures))
    (omega (arith, c.if-above-eq0.false)) c.ranges.word.fits c.if-next-entries.true (omega (arith, c.if-from-place.true, c.from.ensures)) k from lt
