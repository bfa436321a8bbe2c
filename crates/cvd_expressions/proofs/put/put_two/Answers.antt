use Rattle.cvd_expressions.proofs.Putting.{puts_2, gone_2_0, gone_2_1}
use Rattle.cvd_expressions.proofs.put.put_two.Goals as goal

pub returns-in_default : goal.returns-in_default
returns-in_default c = λ d us all h. absurd (gone_2_0 c.args.node c.args.stack.now us c.in_default.ensures.0 c.requires h)

pub returns-in_default-pop : goal.returns-in_default-pop
returns-in_default-pop c = λ d us all h.
    absurd (gone_2_1 c.args.node c.args.stack.now c.pop.new.self c.in-Some.first us c.in-Some.ensures c.in_default-pop.ensures.0 c.requires h)

pub returns : goal.returns
returns c = λ d us all h.
    puts_2 d c.args.node c.args.stack.now c.pop.new.self c.pop-2.new.self c.in-Some.first c.in-Some-pop.second c.in_ok-held.held us
    c.in-Some.ensures c.in-Some-pop.ensures c.requires all h (λ t a b m. c.in_ok-held.ensures d t a b m)
