use Rattle.std.proofs.Common.{refl}
use Rattle.elab_overrides.proofs.GivenValues.{in_order-next, none_in_order, all_in_order, read_where}
use Rattle.elab_overrides.proofs.given.in_order.Goals as goal

pub loop-at-init : goal.loop-at-init
loop-at-init g c = λ known env. (refl, none_in_order known c.args.parameters.now c.none.result c.none.ensures)

pub loop-at-preserved : goal.loop-at-preserved
loop-at-preserved g c = λ known env.
    let value = c.index-values-at.result in
    in_order-next known c.args.parameters.now c.args.values.now c.loop-at.at value c.read.result c.loop-at.given c.with_value_at-given.result
    c.loop-at-test.true c.index-values-at.is (c.loop-at.invariant known env)
    (read_where (g.N.Names.environment c.args.names.now) known value c.read.result env c.read.ensures) c.with_value_at-given.ensures

pub returns : goal.returns
returns g c = λ known env.
    all_in_order known c.args.parameters.now c.args.values.now c.loop-at.at c.loop-at.given c.loop-at-test.false (c.loop-at.invariant known env)
