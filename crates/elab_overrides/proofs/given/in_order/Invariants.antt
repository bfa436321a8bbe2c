use Rattle.std.proofs.Common.{◌≡◌, map, take}
use Rattle.scope_meaning.specs.Constants.{Names, constants, read, any_wrong}
use Rattle.elab_constants.specs.Reads.{Gives}
use Rattle.elab_overrides.specs.Given.{AreGiven, given_in_order}
use Rattle.elab_overrides.proofs.given.in_order.Given as goal

abbrev pub invariant-loop-at : goal.invariant-loop-at
invariant-loop-at g l = (known : Names) → g.N.Names.environment l.names ≡ constants known
    → Gives (AreGiven (given_in_order known l.parameters (take l.at l.values))) (any_wrong (map (read (constants known)) (take l.at l.values))) l.given
