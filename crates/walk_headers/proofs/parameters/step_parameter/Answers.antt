use Rattle.walk_headers.proofs.parameters.step_parameter.Goals as goal

pub returns-in-Ok : goal.returns-in-Ok
returns-in-Ok c = λ design top done here at under o.
    c.past_item.ensures design top done here at under (c.in-Ok.ensures design top done here at c.args.of.now c.args.rest.now under o)

pub returns-in-Err : goal.returns-in-Err
returns-in-Err c = λ design top done here at under o. c.in-Err.ensures design top done here at c.args.of.now c.args.rest.now under o
