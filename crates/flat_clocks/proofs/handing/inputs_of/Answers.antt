use Rattle.flat_clocks.proofs.Puts.{inputs_more}
use Rattle.flat_clocks.proofs.handing.inputs_of.Goals as goal

pub loop-port-preserved : goal.loop-port-preserved
loop-port-preserved c =
    inputs_more c.args.ports.now c.loop-port.port-index c.port-item.result c.loop-port.table c.put_input.new.table c.loop-port-test.true c.port-item.is
    c.loop-port.invariant c.in_ok-put_input.ensures
