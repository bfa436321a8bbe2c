use Rattle.cvd_expressions.proofs.Putting.{puts_1, gone_1_0}
use Rattle.cvd_expressions.proofs.put.put_one.Goals as goal

pub returns-in_default : goal.returns-in_default
returns-in_default c = λ d us s all h. absurd (gone_1_0 c.args.node c.args.stack.now us c.in_default.ensures.0 c.requires h)

pub returns : goal.returns
returns c = λ d us s all h.
    puts_1 d c.args.node c.args.stack.now c.pop.new.self c.in-Some.first c.in_ok-held.held us c.in-Some.ensures c.requires all h
    (λ t b m. c.in_ok-held.ensures d t s b m)
