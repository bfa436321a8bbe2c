use Rattle.std.proofs.Common.{◌≡◌, ℕ, ◌<◌, ◌≤◌, arith}
use Rattle.place_marks.proofs.Words.{Lowest, none_left, lowest_left, rest}
use Rattle.place_marks.proofs.marks.lowest_from.Goals as goal

pub returns-then-rest-eq0-clause-none : goal.returns-then-rest-eq0-clause-none
returns-then-rest-eq0-clause-none c = λ e k le. none_left c.args.word c.args.from c.requires c.ranges.word.fits c.if-rest-eq0.true k le

pub returns-clause-found : goal.returns-clause-found
returns-clause-found c =
    let lowest : Lowest c.args.word c.args.from _ = lowest_left c.args.word c.args.from c.requires c.ranges.word.fits (omega (arith, c.if-rest-eq0.false)) in
    (lowest.upwards, lowest.within, lowest.one, lowest.below)
