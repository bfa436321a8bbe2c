use Rattle.std.proofs.Common.{◌≡◌, ◌*◌, ◌≤◌}
use Rattle.source_meaning.specs.Joins.{copies}
use Rattle.elab_constants.proofs.joined.repeated.Given as goal

abbrev pub invariant-loop-done : goal.invariant-loop-done
invariant-loop-done l = record { wide : l.all.width ≡ l.done * l.of.width; number : l.all.bits ≡ copies l.done l.of.width l.of.bits; begun : 1 ≤ l.done }
