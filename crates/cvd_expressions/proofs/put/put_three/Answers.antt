use Rattle.cvd_expressions.proofs.Putting.{puts_3, gone_3_0, gone_3_1, gone_3_2}
use Rattle.cvd_expressions.proofs.put.put_three.Goals as goal

pub returns-in_default : goal.returns-in_default
returns-in_default c = λ d us all h. absurd (gone_3_0 c.args.node c.args.stack.now us c.in_default.ensures.0 c.requires h)

pub returns-in_default-pop : goal.returns-in_default-pop
returns-in_default-pop c = λ d us all h.
    absurd (gone_3_1 c.args.node c.args.stack.now c.pop.new.self c.in-Some.first us c.in-Some.ensures c.in_default-pop.ensures.0 c.requires h)

pub returns-in_default-pop-2 : goal.returns-in_default-pop-2
returns-in_default-pop-2 c = λ d us all h.
    absurd (gone_3_2 c.args.node c.args.stack.now c.pop.new.self c.pop-2.new.self c.in-Some.first c.in-Some-pop.second us c.in-Some.ensures
    c.in-Some-pop.ensures
    c.in_default-pop-2.ensures.0 c.requires h)

pub returns : goal.returns
returns c = λ d us all h.
    puts_3 d c.args.node c.args.stack.now c.pop.new.self c.pop-2.new.self c.pop-3.new.self c.in-Some.first c.in-Some-pop.second c.in-Some-pop-2.third
    c.in_ok-held.held us
    c.in-Some.ensures c.in-Some-pop.ensures c.in-Some-pop-2.ensures c.requires all h (λ t a b k m. c.in_ok-held.ensures d t a b k m)
