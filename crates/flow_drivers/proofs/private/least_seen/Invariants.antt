use Rattle.std.proofs.Common.{◌&&◌, take}
use Rattle.std.specs.Prelude.{IsTrue}
use Rattle.flow_least.specs.Least.{IsLeastOf}
use Rattle.flow_uses.specs.Uses.{has_var}
use Rattle.flow_drivers.specs.Watching.{is_seen}
use Rattle.flow_drivers.proofs.private.least_seen.Given as goal

abbrev pub invariant-loop-span : goal.invariant-loop-span
invariant-loop-span l = IsLeastOf (λ v. IsTrue (has_var (take l.span-index l.spans) v && is_seen l.watches l.outputs l.process v)) l.least
