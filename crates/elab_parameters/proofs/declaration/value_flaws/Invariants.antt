use Rattle.std.proofs.Common.{◌≡◌, List, take, map}
use Rattle.std.specs.List.{flat_map}
use Rattle.scope_meaning.specs.Constants as constants
use Rattle.scope_meaning.specs.Scope.{Here}
use Rattle.scope_meaning.specs.Wanted.{want, own_value}
use Rattle.elab_overrides.specs.Given.{AreGiven}
use Rattle.elab_faults.specs.Flaws.{Finds, flaws_in}
use Rattle.elab_faults.specs.Judged.{Nothing}
use Rattle.elab_parameters.proofs.declaration.value_flaws.Given as goal

abbrev pub invariant-loop-of : goal.invariant-loop-of
invariant-loop-of g l = (here : Here) (known : constants.Names) → g.N.Names.environment l.names ≡ constants.constants known → AreGiven here.given l.given
    → Finds Nothing (flaws_in (map (want known) (flat_map (own_value here l.local) (take l.of-index l.declared)))) l.so_far
