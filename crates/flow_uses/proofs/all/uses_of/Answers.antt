use Rattle.flow_uses.proofs.Whole.{gathered}
use Rattle.flow_uses.proofs.all.uses_of.Goals as goal

pub returns : goal.returns
returns c = gathered c.args.vars.now (record { reads = c.new.result; sets = c.new-2.result; defers = c.new-3.result }) c.gather_steps.new.lists
    (record { reads = c.from_vec.result; sets = c.from_vec-2.result; defers = c.from_vec-3.result }) c.args.steps.now
    c.new.ensures.items c.new-2.ensures.items c.new-3.ensures.items c.from_vec.ensures c.from_vec-2.ensures c.from_vec-3.ensures c.in_ok-gather_steps.ensures
