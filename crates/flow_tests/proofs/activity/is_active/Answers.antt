use Rattle.flow_tests.proofs.activity.is_active.Goals as goal

pub active-requires-clause-within : goal.active-requires-clause-within
active-requires-clause-within c = c.requires.reads.within c.args.now.now c.args.p c.requires.now
