use Rattle.elab_modules.proofs.Marks.{none-above}
use Rattle.elab_modules.proofs.above.OpenModules.none.Goals as goal

pub returns : goal.returns
returns c = λ design long.
    none-above design c.args.count c.loop-number.number (record { entered = c.loop-number.entered }) long c.loop-number-test.false c.loop-number.invariant
