use Rattle.std.proofs.Common.{◌≡◌, ◌+◌, ◌≤◌, take}
use Rattle.elab_heads.specs.Choices.{items_in}
use Rattle.elab_heads.proofs.choice.body_at.Given as goal

abbrev pub invariant-loop-at : goal.invariant-loop-at
invariant-loop-at l = record {
  number : l.number ≡ l.first + items_in (take l.at l.arms);
  before : l.at ≤ l.chosen;
}
