use Rattle.std.proofs.Common.{◌≡◌, ◌-◌, ◌≤◌, length, take}
use Rattle.std.specs.Prelude.{Some}
use Rattle.design_meaning.specs.Counters.{HasCounted, toggled}
use Rattle.cycle_parts.proofs.toggle.raise_toggled.Given as goal

abbrev pub invariant-words : goal.invariant-words
invariant-words l = record {
  counted : HasCounted l.fn.counts (toggled (Some l.before) l.now (take l.at l.x.toggles)) l.counts;
  same : l.entries ≡ l.x.toggles;
  within : l.at ≤ length l.x.toggles;
}

abbrev pub decreases-words : goal.decreases-words
decreases-words l = length l.entries - l.at
