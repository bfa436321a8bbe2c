use Rattle.elab_overrides.proofs.GivenValues.{by_name-next, all_by_name}
use Rattle.elab_overrides.proofs.given.by_name.Goals as goal

pub loop-value-preserved : goal.loop-value-preserved
loop-value-preserved g c = λ known env.
    by_name-next known c.args.values.now c.loop-value.value-index c.value-item.result c.loop-value.given c.with_connection-given.result
    c.loop-value-test.true c.value-item.is (c.loop-value.invariant known env) (λ before w h. c.with_connection-given.ensures known before w env h)

pub returns : goal.returns
returns g c = λ known env. all_by_name known c.args.values.now c.loop-value.value-index c.loop-value.given c.loop-value-test.false
    (c.loop-value.invariant known env)
