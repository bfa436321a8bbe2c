use Rattle.machine_tests.proofs.run.told.Goals as goal

pub run_design-requires-clause-can : goal.run_design-requires-clause-can
run_design-requires-clause-can c = record {
  valid = c.in-Ok.ensures.design.valid;
  flows = c.in-Ok.ensures.flows.0;
  is_order = c.in-Ok.ensures.flows.1;
  reads = c.in-Ok.ensures.reads;
}
