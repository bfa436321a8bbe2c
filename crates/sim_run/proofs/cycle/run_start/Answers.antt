use Rattle.simulator.specs.Machines.{text_of}
use Rattle.sim_run.proofs.cycle.run_start.Goals as goal

pub returns-in-Ok-clause-ran : goal.returns-in-Ok-clause-ran
returns-in-Ok-clause-ran g c = record {
  text = text_of c.start-end.new.self;
  start = c.start-end.ensures.run;
  printed = rw c.line.ensures at c.in-Ok.ensures.keeps;
}

pub returns-in-Err-clause-part : goal.returns-in-Err-clause-part
returns-in-Err-clause-part g c = record {
  text = text_of c.start-end.new.self;
  start = rw (← c.start-end.ensures.end) at c.start-end.ensures.run;
  part = rw c.line.ensures at c.in-Err.ensures.part;
}
