use Rattle.std.proofs.Common.{subst}
use Rattle.cvd_targets.specs.PieceParts.{SoFar, PieceIn}
use Rattle.cvd_targets.proofs.PieceLists.{not_before, not_one, kept_so}
use Rattle.cvd_targets.proofs.pieces.keep.Goals as goal

pub returns-then-not-whole : goal.returns-then-not-whole
returns-then-not-whole c = λ d ps p s o. not_before d ps p (subst (λ w. SoFar d ps w c.args.kept.now) c.if-not-whole.true s)

pub returns-in_default : goal.returns-in_default
returns-in_default c = λ d ps p s o. not_one d ps p (subst (PieceIn d p) c.in_default.is o)

pub returns : goal.returns
returns c = kept_so c.args.whole c.args.kept.now c.in-Some.one c.args.one c.put.result c.put.new.kept c.if-not-whole.false c.in-Some.is c.put.ensures
