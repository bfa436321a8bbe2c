use Rattle.std.proofs.Common.{false, refl}
use Rattle.design_meaning.specs.Spans.{is_in_any}
use Rattle.design_meaning.specs.Paths.{piece_reads}
use Rattle.flow_spans.proofs.Adding.{adds_none}
use Rattle.flow_uses.proofs.Formed.{one_piece}
use Rattle.flow_uses.proofs.Gathering as gathering
use Rattle.flow_uses.proofs.lists.add_pieces.Goals as goal

pub loop-piece-init : goal.loop-piece-init
loop-piece-init c = adds_none c.args.vars.now c.args.reads.now.items (λ b. false) (λ b. refl)

pub add_piece-requires-clause-piece : goal.add_piece-requires-clause-piece
add_piece-requires-clause-piece c = one_piece c.args.state.now c.args.pieces.now c.loop-piece.piece-index c.piece-item.result c.loop-piece-test.true
    c.piece-item.is c.requires.pieces

pub loop-piece-preserved : goal.loop-piece-preserved
loop-piece-preserved c = gathering.adds_next c.args.vars.now c.args.reads.now.items c.loop-piece.reads.items c.add_piece.new.reads.items (λ p b. is_in_any
    b (piece_reads p))
    c.args.pieces.now c.loop-piece.piece-index c.piece-item.result c.loop-piece-test.true c.piece-item.is c.loop-piece.invariant c.in_ok-add_piece.ensures

pub returns : goal.returns
returns c = gathering.adds_end c.args.vars.now c.args.reads.now.items c.loop-piece.reads.items (λ p b. is_in_any b (piece_reads p)) c.args.pieces.now
    c.loop-piece.piece-index
    c.loop-piece-test.false c.loop-piece.invariant
