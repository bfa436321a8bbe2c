use Rattle.std.proofs.Common.{◌≡◌, ◌+◌, length}
use Rattle.cov_words.specs.Command.{names_of}
use Rattle.cov_words.proofs.arguments.Arguments.count_names.Given as goal

abbrev pub invariant-loop-piece : goal.invariant-loop-piece
invariant-loop-piece l =
    (goal.iterator-loop-piece).can_next l.piece-iterator ×
    (goal.iterator-loop-piece).is_finite l.piece-iterator ×
    (l.count + length (names_of l.piece-iterator) ≡ length (names_of l.fn.self))
