use Rattle.elab_constants.proofs.Operators.{binary_is}
use Rattle.elab_constants.proofs.binary.binary.Goals as goal

pub returns : goal.returns
returns c = λ a b s t. rw (binary_is c.args.op, ← c.kind_of.ensures) (c.of_kind.ensures a b s t)
