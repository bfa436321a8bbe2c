use Rattle.std.proofs.Common.{◌≡◌}
use Rattle.cov_words.specs.Command.{value_of}
use Rattle.cov_words.proofs.arguments.Arguments.value_of.Given as goal

abbrev pub invariant-loop-piece : goal.invariant-loop-piece
invariant-loop-piece l =
    (goal.iterator-loop-piece).can_next l.piece-iterator ×
    (goal.iterator-loop-piece).is_finite l.piece-iterator ×
    (value_of l.option l.piece-iterator ≡ value_of l.option l.fn.self)
