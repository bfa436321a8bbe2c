use Rattle.lower_nodes.proofs.Whole.{plus_made, minus_made, complement_made, reduced_made}
use Rattle.lower_nodes.proofs.unary.made.Goals as goal

pub returns-in-Plus : goal.returns-in-Plus
returns-in-Plus c = λ vars a h. plus_made vars c.args.op a c.args.of c.in-Plus.is h

pub returns-in-Minus : goal.returns-in-Minus
returns-in-Minus c = λ vars a h. minus_made vars c.args.op a c.args.of c.waiting.result c.in-Minus.is h c.waiting.ensures

pub returns-in-Complement : goal.returns-in-Complement
returns-in-Complement c = λ vars a h.
    complement_made vars c.args.op a c.args.of c.waiting-in-Complement.result c.in-Complement.is h c.waiting-in-Complement.ensures

pub returns-in_default : goal.returns-in_default
returns-in_default c = λ vars a h.
    reduced_made vars c.args.op a c.args.of c.reduce.result c.in_default.not-Plus c.in_default.not-Minus c.in_default.not-Complement h c.reduce.ensures
