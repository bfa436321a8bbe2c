use Rattle.std.proofs.Common.{false, take}
use Rattle.std.specs.List.{list_any}
use Rattle.design_meaning.specs.Targets.{surely_names}
use Rattle.flow_paths.specs.Walking.{Passes}
use Rattle.flow_paths.proofs.targets.take_targets.Given as goal

abbrev pub invariant-loop-target : goal.invariant-loop-target
invariant-loop-target l = Passes l.initial.walk l.walk (λ b. list_any (λ x. surely_names b x) (take l.target-index l.targets)) (λ b. false)
