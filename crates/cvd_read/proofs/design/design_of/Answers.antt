use Rattle.cvd_read.proofs.SameDesign.{same_design}
use Rattle.cvd_read.proofs.design.design_of.Goals as goal

pub returns : goal.returns
returns c = λ p h. same_design c.args.vars c.args.counters c.args.outside p h
