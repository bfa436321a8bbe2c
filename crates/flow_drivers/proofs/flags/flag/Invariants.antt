use Rattle.std.proofs.Common.{◌≡◌, ℕ, false, if◌then◌else◌, get_or, take}
use Rattle.flow_uses.specs.Uses.{has_var}
use Rattle.flow_drivers.proofs.flags.flag.Given as goal

abbrev pub invariant-loop-span : goal.invariant-loop-span
invariant-loop-span l = (v : ℕ) → get_or l.flags v false ≡ (if has_var (take l.span-index l.spans) v then l.value else get_or l.initial.flags v false)
