use Rattle.std.proofs.Common.{sym, ◌∙◌}
use Rattle.cvd_expressions.proofs.Parts.{tells}
use Rattle.cvd_expressions.proofs.Putting.{puts_0}
use Rattle.cvd_expressions.proofs.put.put.Goals as goal

pub returns-then-operands-eq0 : goal.returns-then-operands-eq0
returns-then-operands-eq0 c =
    tells c.leaf.result _ _
    (λ held f. λ d us s all h.
    puts_0 d c.args.node c.args.stack.now held us (sym c.arity-operands.ensures.value ∙ c.if-operands-eq0.true) all h (λ t m. f d t s m))
    c.leaf.ensures

pub returns : goal.returns
returns c = λ d us s all h. c.in_ok-held.ensures d us all h
