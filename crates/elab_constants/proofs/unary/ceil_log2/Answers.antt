use Rattle.std.proofs.Common.{arith, sym}
use Rattle.std.proofs.lemmas.Grind.{common_steps}
use Rattle.elab_constants.proofs.Joins.{powers_none, powers_more}
use Rattle.elab_constants.proofs.unary.ceil_log2.Goals as goal

pub loop-power-init : goal.loop-power-init
loop-power-init c = record { counted = sym (powers_none c.args.of); few = omega arith }

pub loop-power-preserved : goal.loop-power-preserved
loop-power-preserved c =
    let more = powers_more c.loop-power.power c.args.of in
    record { counted = grind (arith, common_steps, more); few = grind (arith, common_steps) }
