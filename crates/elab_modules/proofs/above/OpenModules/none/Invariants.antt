use Rattle.std.proofs.Common.{◌≡◌, replicate, false}
use Rattle.elab_modules.proofs.above.OpenModules.none.Given as goal

abbrev pub invariant-loop-number : goal.invariant-loop-number
invariant-loop-number l = l.entered.items ≡ replicate l.number false
