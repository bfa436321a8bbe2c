-- What contracts see of what a `sim` is asked for.
use Rattle.sim_answer.specs.Simulation.{Simulation as Asked}
use Rattle.sim_frame.specs.declared.asked.Simulation.{Simulation}

-- with names as lists of bytes
abbrev pub seen : Simulation → Asked
seen asked = record {
  design = asked.design.now;
  stimulus = asked.stimulus.now;
  data_name = asked.data_name.now;
  count_bits = asked.count_bits;
}
