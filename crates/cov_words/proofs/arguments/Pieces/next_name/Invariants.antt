use Rattle.std.proofs.Common.{◌≡◌}
use Rattle.cov_words.specs.Command.{names_of}
use Rattle.cov_words.proofs.arguments.Pieces.next_name.Given as goal

abbrev pub invariant-loop-piece : goal.invariant-loop-piece
invariant-loop-piece l =
    (goal.iterator-loop-piece).can_next l.self ×
    (goal.iterator-loop-piece).is_finite l.self ×
    (names_of l.self ≡ names_of l.fn.self)
