use Rattle.sim_output.proofs.KeepLemmas.{on_error, part_first, part_second}
use Rattle.sim_output.proofs.output.Output.add.Goals as goal

pub returns-in-Ok-clause-part : goal.returns-in-Ok-clause-part
returns-in-Ok-clause-part g c =
    on_error c.keep.result _ _ (part_second c.args.self.now c.args.text.now (g.S.Sink.written c.args.sink.now) (g.S.Sink.written c.put_kept.new.sink)
    (g.S.Sink.written c.keep.new.sink) c.in-Ok.ensures.put) c.keep.ensures.part

pub returns-in-Err-clause-part : goal.returns-in-Err-clause-part
returns-in-Err-clause-part g c =
    part_first c.args.self.now c.args.text.now (g.S.Sink.written c.args.sink.now) (g.S.Sink.written c.put_kept.new.sink) c.in-Err.ensures.part
