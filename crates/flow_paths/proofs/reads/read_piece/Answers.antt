use Rattle.std.proofs.Common.{◌≡◌, ap, refl, false}
use Rattle.design_meaning.specs.Spans.{is_in_any}
use Rattle.design_meaning.specs.Paths.{piece_reads}
use Rattle.flow_paths.proofs.Passing.{passes_none}
use Rattle.flow_paths.proofs.reads.read_piece.Goals as goal

pub returns-in-Text : goal.returns-in-Text
returns-in-Text c = passes_none c.args.walk.now (λ b. false) (λ b. is_in_any b (piece_reads c.args.piece.now)) c.requires.ready.empty (λ b. refl)
    (λ b. ap (λ p. is_in_any b (piece_reads p)) c.in-Text.is)

pub returns-in-Dec : goal.returns-in-Dec
returns-in-Dec c = rw c.in-Dec.is c.read_expression.ensures

pub returns-in-Hex : goal.returns-in-Hex
returns-in-Hex c = rw c.in-Hex.is c.read_expression-in-Hex.ensures

pub returns-in-Bin : goal.returns-in-Bin
returns-in-Bin c = rw c.in-Bin.is c.read_expression-in-Bin.ensures
