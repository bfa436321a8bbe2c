use Rattle.std.proofs.Common.{◌≡◌, take, map}
use Rattle.scope_meaning.specs.Constants as constants
use Rattle.scope_meaning.specs.Wanted.{want}
use Rattle.elab_faults.specs.Flaws.{Finds, flaws_in}
use Rattle.elab_heads.specs.Choices.{Chooses, test_in}
use Rattle.elab_heads.proofs.choice.first_true.Given as goal

abbrev pub invariant-loop-at : goal.invariant-loop-at
invariant-loop-at g l = (known : constants.Names) → g.N.Names.environment l.names ≡ constants.constants known
    → Finds (Chooses known (take l.at l.arms)) (flaws_in (map (want known) (map test_in (take l.at l.arms)))) l.so_far
