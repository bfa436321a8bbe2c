use Rattle.std.proofs.Common.{◌≡◌}
use Rattle.std.specs.List.{list_all}
use Rattle.cov_words.specs.Command.{is_in_range}
use Rattle.cov_words.proofs.arguments.Arguments.are_in_range.Given as goal

abbrev pub invariant-loop-piece : goal.invariant-loop-piece
invariant-loop-piece l =
    (goal.iterator-loop-piece).can_next l.piece-iterator ×
    (goal.iterator-loop-piece).is_finite l.piece-iterator ×
    (list_all is_in_range l.piece-iterator ≡ list_all is_in_range l.fn.self)
