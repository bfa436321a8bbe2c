use Rattle.std.proofs.Common.{subst}
use Rattle.elab_constants.specs.declared.fault.ConstantFault.TheVariants as fault
use Rattle.elab_constants.specs.Reads.{IsFault}
use Rattle.flat_fixed.proofs.Nodes.{const_wrong}
use Rattle.flat_fixed.proofs.fixed.of_fault.Goals as goal

pub returns-in-NotConstant : goal.returns-in-NotConstant
returns-in-NotConstant c = λ w h. const_wrong w fault.NotConstant (subst (IsFault w) c.in-NotConstant.is h)

pub returns-in-BadSelect : goal.returns-in-BadSelect
returns-in-BadSelect c = λ w h. const_wrong w fault.BadSelect (subst (IsFault w) c.in-BadSelect.is h)

pub returns-in-WidthPast128 : goal.returns-in-WidthPast128
returns-in-WidthPast128 c = λ w h. const_wrong w fault.WidthPast128 (subst (IsFault w) c.in-WidthPast128.is h)
