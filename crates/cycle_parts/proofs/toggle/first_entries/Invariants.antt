use Rattle.std.proofs.Common.{◌≡◌}
use Rattle.cycle_parts.proofs.Firsts.{AreFirstsTo}
use Rattle.cycle_parts.proofs.toggle.first_entries.Given as goal

abbrev pub invariant-loop-var : goal.invariant-loop-var
invariant-loop-var l = record {
  firsts : AreFirstsTo l.var l.x.toggles l.at l.firsts.items;
  same : l.entries ≡ l.x.toggles;
}
