use Rattle.std.proofs.Common.{◌≡◌, ◌*◌, ◌≤◌}
use Rattle.design_meaning.specs.Values as meaning
use Rattle.design_state.proofs.evaluate.repeated.Given as goal

abbrev pub invariant-loop-done : goal.invariant-loop-done
invariant-loop-done l = record {
  wide : l.all.width ≡ l.done * l.of.width;
  number : l.all.bits
      ≡ meaning.repeated l.of.width l.of.bits l.done;
  begun : 1 ≤ l.done;
}
