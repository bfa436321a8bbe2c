use Rattle.std.proofs.Common.{refl, arith}
use Rattle.design_meaning.specs.Mentions.{piece_length}
use Rattle.cvd_targets.proofs.Lists.{both, and_false, test_le, test_above}
use Rattle.cvd_targets.proofs.shown.finished.Goals as goal

pub returns-then-shown-gt-MOST : goal.returns-then-shown-gt-MOST
returns-then-shown-gt-MOST c = λ d h n few s. and_false _ _ (test_above (piece_length d c.args.piece) 16777216 (omega (arith, s)))

pub returns : goal.returns
returns c = λ d h n few s. record {
  piece_is = refl;
  nodes_are = n;
  stands = both _ _ (both _ _ h (test_le _ _ few)) (test_le _ _ (omega (arith, s)));
  shown_is = s;
}
