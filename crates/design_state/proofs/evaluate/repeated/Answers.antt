use Rattle.std.proofs.Common.{◌∙◌, ap, arith}
use Rattle.std.proofs.lemmas.Grind.{common_steps}
use Rattle.bit_values.specs.Values as value
use Rattle.design_state.proofs.Repeats.{repeated_once, repeated_more}
use Rattle.design_state.proofs.evaluate.repeated.Goals as goal

pub loop-done-init : goal.loop-done-init
loop-done-init c = record { wide = omega arith; number = repeated_once c.args.of.width c.args.of.bits; begun = omega arith }

pub loop-done-preserved : goal.loop-done-preserved
loop-done-preserved c =
    let w = c.args.of.width in
    record {
      wide = grind (arith, common_steps);
      number = c.concat-all.ensures.value ∙ ap (λ n. value.concat w n c.args.of.bits) c.loop-done.invariant.number
          ∙ repeated_more w c.args.of.bits c.loop-done.done;
      begun = omega arith;
    }
