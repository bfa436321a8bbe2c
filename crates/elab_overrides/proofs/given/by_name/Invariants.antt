use Rattle.std.proofs.Common.{◌≡◌, map, take}
use Rattle.std.specs.List.{filter_map}
use Rattle.scope_meaning.specs.Constants.{Names, constants, read, any_wrong}
use Rattle.elab_constants.specs.Reads.{Gives}
use Rattle.elab_overrides.specs.Given.{AreGiven, given_by_name}
use Rattle.elab_overrides.proofs.given.by_name.Given as goal

abbrev pub invariant-loop-value : goal.invariant-loop-value
invariant-loop-value g l = (known : Names) → g.N.Names.environment l.names ≡ constants known
    → Gives (AreGiven (given_by_name known (take l.value-index l.values)))
    (any_wrong (map (read (constants known)) (filter_map (λ c. c.value) (take l.value-index l.values)))) l.given
