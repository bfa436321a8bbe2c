use Rattle.elab_overrides.proofs.GivenValues.{of_ordered, of_named}
use Rattle.elab_overrides.proofs.given.given_values.Goals as goal

pub returns-in-Ordered : goal.returns-in-Ordered
returns-in-Ordered g c = λ known env.
    of_ordered known c.args.parameters.now c.args.values.now c.in-Ordered.values c.as_slice.result.now c.in_order.result c.in-Ordered.is c.as_slice.ensures
    (c.in_order.ensures known env)

pub returns-in-Named : goal.returns-in-Named
returns-in-Named g c = λ known env.
    of_named known c.args.parameters.now c.args.values.now c.in-Named.values c.as_slice-in-Named.result.now c.by_name.result c.in-Named.is
    c.as_slice-in-Named.ensures
    (c.by_name.ensures known env)
