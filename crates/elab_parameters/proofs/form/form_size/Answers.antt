use Rattle.std.proofs.Common.{subst, Ok, Err}
use Rattle.elab_ranges.specs.Bounds.{IsVector}
use Rattle.elab_parameters.proofs.Forms.{ranged, unranged}
use Rattle.elab_parameters.proofs.form.form_size.Goals as goal

pub returns-in-Ok : goal.returns-in-Ok
returns-in-Ok g c = λ known here.
    ranged known c.args.form.now c.in-Ranged.signed c.in-Ranged.range c.in-Ok.span c.in-Ranged.is
    (subst (λ r. IsVector known r (Ok c.in-Ok.span)) c.get.ensures (c.in-Ok.ensures.value known here))

pub returns-in-Err : goal.returns-in-Err
returns-in-Err g c = λ known here.
    unranged known c.args.form.now c.in-Ranged.signed c.in-Ranged.range c.in-Err.fault c.in-Ranged.is
    (subst (λ r. IsVector known r (Err c.in-Err.fault)) c.get.ensures (c.in-Err.ensures.value known here))
