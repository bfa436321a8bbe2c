use Rattle.std.proofs.Common.{◌≡◌, length, nat_le}
use Rattle.std.specs.Prelude.{if◌then◌else◌}
use Rattle.cov_words.specs.Command.{values_of}
use Rattle.cov_words.proofs.arguments.Arguments.is_single.Given as goal

abbrev pub invariant-loop-piece : goal.invariant-loop-piece
invariant-loop-piece l =
    (goal.iterator-loop-piece).can_next l.piece-iterator ×
    (goal.iterator-loop-piece).is_finite l.piece-iterator ×
    ((if l.seen then nat_le (length (values_of l.option l.piece-iterator)) 0 else nat_le (length (values_of l.option l.piece-iterator)) 1)
    ≡ nat_le (length (values_of l.option l.fn.self)) 1)
