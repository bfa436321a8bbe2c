use Rattle.flat_constants.proofs.Copies.{of_copies, join_says}
use Rattle.flat_constants.proofs.copy.join.Goals as goal

pub returns : goal.returns
returns c = λ ps h. join_says ps _ (of_copies ps c.args.parts _ c.in_ok-all.was h)
