use Rattle.std.proofs.Common.{◌≡◌}
use Rattle.cycle_wakes.proofs.Noting.{AreNoted, QuietOrNoted}
use Rattle.cycle_wakes.proofs.changes.note_sources.Given as goal

abbrev pub invariant-loop-var : goal.invariant-loop-var
invariant-loop-var l = record {
  noted : AreNoted (QuietOrNoted l.wakes l.now l.before) l.wakes.sources l.var-index l.fn.changes l.changes;
  same : l.var-items ≡ l.wakes.sources;
}
