use Rattle.std.proofs.Common.{◌≡◌, is_some, map, string_bytes, length}
use Rattle.cov_words.specs.Pieces.{pieces_of}
use Rattle.cov_words.specs.Left.{pieces_left}
use Rattle.cov_words.proofs.arguments.have_pieces.Given as goal

abbrev pub invariant-fronts : goal.invariant-fronts
invariant-fronts l = is_some (pieces_left l.command l.only_names (map string_bytes l.left)) ≡ is_some (pieces_of l.fn.command (map string_bytes l.fn.words))

abbrev pub decreases-fronts : goal.decreases-fronts
decreases-fronts l = length (map string_bytes l.left)
