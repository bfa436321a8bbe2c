use Rattle.std.proofs.Common.{◌≤◌, ◌-◌, drop, length}
use Rattle.cov_dat.specs.FrontFits.{FrontFits}
use Rattle.cov_dat.proofs.pattern.match_front.Given as goal

abbrev pub invariant-signs : goal.invariant-signs
invariant-signs l = record {
  fits : FrontFits l.pattern l.text (drop l.at l.pattern) (drop l.at l.text);
  in_pattern : l.at ≤ length l.pattern;
  in_text : l.at ≤ length l.text;
}

abbrev pub decreases-signs : goal.decreases-signs
decreases-signs l = length l.pattern - l.at
