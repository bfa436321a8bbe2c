use Rattle.std.proofs.Common.{◌≡◌, ◌≤◌, length}
use Rattle.cvd_sections.specs.Keys.{parts_of}
use Rattle.cvd_sections.proofs.CounterLists.{numerals}
use Rattle.cvd_sections.proofs.counters.are_numerals.Given as goal

abbrev pub invariant-parts : goal.invariant-parts
invariant-parts l = record {
  same : numerals (parts_of l.text) ≡ numerals (parts_of l.rest);
  shorter : length l.rest ≤ length l.text;
}

abbrev pub decreases-parts : goal.decreases-parts
decreases-parts l = length l.rest
