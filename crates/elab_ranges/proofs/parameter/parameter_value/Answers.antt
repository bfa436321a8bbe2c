use Rattle.std.proofs.Common.{refl, subst, Ok, Err}
use Rattle.elab_ranges.specs.Bounds.{IsVector}
use Rattle.elab_ranges.proofs.Parameters.{ranged, no_range}
use Rattle.elab_ranges.proofs.parameter.parameter_value.Goals as goal

pub returns-in-Ok : goal.returns-in-Ok
returns-in-Ok g c = λ known m here sized.
    ranged known m c.args.form.now c.in-Ranged.signed c.in-Ranged.range c.in-Ok.span
    (record { value = c.assigned-in-Ok.result; signed = c.in-Ranged.signed }) c.in-Ranged.is
    (subst (λ r. IsVector known r (Ok c.in-Ok.span)) c.get.ensures (c.in-Ok.ensures.value known here))
    c.assigned-in-Ok.ensures.width refl (c.assigned-in-Ok.ensures.value m sized)

pub returns-in-Err : goal.returns-in-Err
returns-in-Err g c = λ known m here sized.
    no_range known m c.args.form.now c.in-Ranged.signed c.in-Ranged.range c.in-Err.fault c.in-Ranged.is
    (subst (λ r. IsVector known r (Err c.in-Err.fault)) c.get.ensures (c.in-Err.ensures.value known here))
