use Rattle.cov_port.proofs.SinkLemmas.{nothing_put}
use Rattle.cov_port.proofs.mem_sink.MemSinkSink.put.Goals as goal

pub returns-then-fails-clause-part : goal.returns-then-fails-clause-part
returns-then-fails-clause-part c = nothing_put c.args.bytes.now c.args.self.now.written c.self.inside.written.items (cc)
