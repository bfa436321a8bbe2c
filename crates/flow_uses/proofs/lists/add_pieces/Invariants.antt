use Rattle.std.proofs.Common.{take}
use Rattle.std.specs.List.{list_any}
use Rattle.design_meaning.specs.Spans.{is_in_any}
use Rattle.design_meaning.specs.Paths.{piece_reads}
use Rattle.flow_spans.specs.Reads.{Adds}
use Rattle.flow_uses.proofs.lists.add_pieces.Given as goal

abbrev pub invariant-loop-piece : goal.invariant-loop-piece
invariant-loop-piece l = Adds l.vars l.initial.reads.items l.reads.items (λ b. list_any (λ p. is_in_any b (piece_reads p)) (take l.piece-index l.pieces))
