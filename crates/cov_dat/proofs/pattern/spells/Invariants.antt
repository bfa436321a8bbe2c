use Rattle.std.proofs.Common.{◌≡◌, ◌+◌, length}
use Rattle.cov_dat.specs.FrontFits.{spells_from}
use Rattle.cov_dat.specs.Patterns.{spells}
use Rattle.cov_dat.proofs.pattern.spells.Given as goal

abbrev pub invariant-places : goal.invariant-places
invariant-places l = spells_from l.behind_star l.pattern l.text ≡ spells l.initial.pattern l.initial.text

abbrev pub decreases-places : goal.decreases-places
decreases-places l = length l.pattern + length l.text
