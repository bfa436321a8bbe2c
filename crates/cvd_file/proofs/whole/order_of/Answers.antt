use Rattle.cvd_file.proofs.whole.order_of.Goals as goal

pub returns-in-Err-clause-fault : goal.returns-in-Err-clause-fault
returns-in-Err-clause-fault c = c.invalid.ensures c.args.design.now.design c.in-Err.ensures.fault
