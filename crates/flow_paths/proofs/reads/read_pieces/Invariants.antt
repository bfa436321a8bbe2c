use Rattle.std.proofs.Common.{false, take}
use Rattle.std.specs.List.{list_any}
use Rattle.design_meaning.specs.Spans.{is_in_any}
use Rattle.design_meaning.specs.Paths.{piece_reads, item_reads}
use Rattle.flow_paths.specs.Walking.{Passes}
use Rattle.flow_paths.proofs.reads.read_pieces.Given as goal

abbrev pub invariant-loop-piece : goal.invariant-loop-piece
invariant-loop-piece l = Passes l.initial.walk l.walk (λ b. false) (λ b. list_any (λ x. is_in_any b (piece_reads x)) (take l.piece-index l.pieces))
