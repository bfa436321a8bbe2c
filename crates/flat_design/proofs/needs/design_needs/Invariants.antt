use Rattle.std.proofs.Common.{◌≡◌, drop}
use Rattle.flat_design.specs.Effects.{room_of_all, sum_of}
use Rattle.flat_design.specs.Needed.{room_seen}
use Rattle.flat_design.proofs.NeedsIn.{rooms}
use Rattle.flat_design.proofs.needs.design_needs.Given as goal

abbrev pub invariant-loop-process : goal.invariant-loop-process
invariant-loop-process l = record {
  needs : sum_of (room_seen l.all) (rooms l.design (drop l.process-index l.process-items)) ≡ room_of_all l.design;
  same : l.process-items ≡ l.design.processes;
}
