use Rattle.std.proofs.Common.{sym, subst}
use Rattle.flow_least.specs.Least.{IsLeastOf}
use Rattle.flow_least.specs.Met.{HasMet, HasMetEither}
use Rattle.flow_least.proofs.Meeting.{met_either}
use Rattle.flow_least.proofs.driven.least_driven.Goals as goal

pub returns : goal.returns
returns c = subst (IsLeastOf (HasMetEither c.args.marks.now c.args.uses.now)) (sym c.lesser.ensures)
    (met_either c.args.marks.now c.args.uses.now c.least_met.result c.least_met-2.result
    (subst (λ xs. IsLeastOf (HasMet c.args.marks.now xs) c.least_met.result) c.as_slice.ensures c.least_met.ensures)
    (subst (λ xs. IsLeastOf (HasMet c.args.marks.now xs) c.least_met-2.result) c.as_slice-2.ensures c.least_met-2.ensures))
