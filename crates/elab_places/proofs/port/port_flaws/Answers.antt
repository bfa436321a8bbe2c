use Rattle.std.proofs.Common.{◌∙◌, ap, sym, Some}
use Rattle.elab_faults.proofs.Lists.{one-vector}
use Rattle.elab_places.proofs.port.port_flaws.Goals as goal

pub returns-in-Some : goal.returns-in-Some
returns-in-Some g c = λ known here.
    one-vector known c.args.range.now c.get.result.now c.vector_flaw.result (c.in-Some.is ∙ ap Some (sym c.get.ensures)) (c.vector_flaw.ensures known here)
