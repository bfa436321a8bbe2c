use Rattle.std.proofs.Common.{refl}
use Rattle.cvd_steps.specs.Bodies.{load_of}
use Rattle.cvd_steps.proofs.Adding.{adds_up}
use Rattle.cvd_steps.proofs.sums.sum_of.Goals as goal

pub returns : goal.returns
returns c =
    adds_up (load_of c.args.before) _ _ _ _ c.args.own.steps c.args.own.nodes c.args.own.shown refl c.saturating_add-steps.ensures
    c.saturating_add-nodes.ensures c.saturating_add-shown.ensures
