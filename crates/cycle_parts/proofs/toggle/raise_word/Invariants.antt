use Rattle.std.proofs.Common.{◌-◌, ◌≤◌, length, take}
use Rattle.design_meaning.specs.Counters.{HasCounted}
use Rattle.cycle_parts.specs.Toggles.{differing}
use Rattle.cycle_parts.proofs.toggle.raise_word.Given as goal

abbrev pub invariant-ones : goal.invariant-ones
invariant-ones l = record {
  counted : HasCounted l.fn.counts (differing l.was l.is (take l.at l.entries)) l.counts;
  within : l.at ≤ length l.entries;
}

abbrev pub decreases-ones : goal.decreases-ones
decreases-ones l = length l.entries - l.at
