use Rattle.std.proofs.Common.{ℕ, ◌-◌, ◌<◌, ◌≤◌, length}
use Rattle.cycle_parts.specs.Toggles.{entry_at}
use Rattle.cycle_parts.proofs.toggle.first_from.Given as goal

abbrev pub invariant-entries : goal.invariant-entries
invariant-entries l = record {
  from : l.fn.at ≤ l.end;
  within : l.end ≤ length l.entries;
  below : (k : ℕ) → l.fn.at ≤ k → k < l.end → (entry_at l.entries k).var < l.var;
}

abbrev pub decreases-entries : goal.decreases-entries
decreases-entries l = length l.entries - l.end
