use Rattle.std.proofs.Common.{ap, sym}
use Rattle.design_meaning.specs.Values.{Value}
use Rattle.design_state.proofs.Typings as typing
use Rattle.flat_design.proofs.branch.number_of.Goals as goal

pub word-requires : goal.word-requires
word-requires c = typing.var_within c.args.state.now c.in-Var.var (rw c.in-Var.is at c.requires)
