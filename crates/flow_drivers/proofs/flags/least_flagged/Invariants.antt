use Rattle.std.proofs.Common.{◌&&◌, false, get_or, take}
use Rattle.std.specs.Prelude.{IsTrue}
use Rattle.flow_least.specs.Least.{IsLeastOf}
use Rattle.flow_uses.specs.Uses.{has_var}
use Rattle.flow_drivers.proofs.flags.least_flagged.Given as goal

abbrev pub invariant-loop-span : goal.invariant-loop-span
invariant-loop-span l = IsLeastOf (λ v. IsTrue (has_var (take l.span-index l.spans) v && get_or l.flags v false)) l.least
