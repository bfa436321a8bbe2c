use Rattle.std.proofs.Common.{◌≡◌}
use Rattle.cycle_wakes.specs.Changes.{HasRoomFor, IsNoted}
use Rattle.cycle_wakes.specs.Wakes.{targets_of}
use Rattle.cycle_wakes.proofs.Noting.{AreNoted}
use Rattle.cycle_wakes.proofs.changes.note_targets.Given as goal

abbrev pub invariant-loop-var : goal.invariant-loop-var
invariant-loop-var l = record {
  noted : AreNoted (IsNoted l.wakes) (targets_of l.wakes l.p) l.var-index l.fn.changes l.changes;
  same : l.var-items ≡ targets_of l.wakes l.p;
}
