use Rattle.std.proofs.Common.{◌≡◌, ◌++◌, map}
use Rattle.cov_words.specs.Command.{names_of}
use Rattle.cov_words.proofs.names.Names.collect.Given as goal

abbrev pub invariant-loop-piece : goal.invariant-loop-piece
invariant-loop-piece l =
    (goal.iterator-loop-piece).can_next l.piece-iterator ×
    (goal.iterator-loop-piece).is_finite l.piece-iterator ×
    (map (λ name. name.now) l.names.items ++ names_of l.piece-iterator ≡ l.fn.self)
