use Rattle.std.proofs.Common.{◌≡◌, sym, subst, false, refl, take, List, length, get_or}
use Rattle.std.specs.List.{list_any}
use Rattle.std.proofs.lemmas.List.{take_all}
use Rattle.design_meaning.specs.Spans.{is_in_any}
use Rattle.design_meaning.specs.Paths.{piece_reads, item_reads}
use Rattle.flow_uses.proofs.Formed as formed
use Rattle.flow_paths.specs.Walking.{IsReady, Passes}
use Rattle.flow_paths.proofs.Passing.{ready_after, passes_none, reads_next}
use Rattle.flow_paths.proofs.reads.read_pieces.Goals as goal

pub loop-piece-init : goal.loop-piece-init
loop-piece-init c = passes_none c.args.walk.now (λ b. false) (λ b. false) c.requires.ready.empty (λ b. refl) (λ b. refl)

pub read_piece-requires-clause-piece : goal.read_piece-requires-clause-piece
read_piece-requires-clause-piece c = formed.one_piece c.args.state.now c.args.pieces.now c.loop-piece.piece-index c.piece-item.result c.loop-piece-test.true
    c.piece-item.is c.requires.pieces

pub read_piece-requires-clause-ready : goal.read_piece-requires-clause-ready
read_piece-requires-clause-ready c = ready_after c.args.vars.now c.args.walk.now c.loop-piece.walk (λ b. false)
    (λ b. list_any (λ x. is_in_any b (piece_reads x)) (take c.loop-piece.piece-index c.args.pieces.now)) c.requires.ready c.loop-piece.invariant

pub loop-piece-preserved : goal.loop-piece-preserved
loop-piece-preserved c = reads_next c.args.walk.now c.loop-piece.walk c.read_piece.new.walk (λ x b. is_in_any b (piece_reads x)) c.args.pieces.now
    c.loop-piece.piece-index c.piece-item.result
    c.loop-piece-test.true c.piece-item.is c.loop-piece.invariant c.in_ok-read_piece.ensures

pub returns : goal.returns
returns c = subst (λ ys. Passes c.args.walk.now c.loop-piece.walk (λ b. false) (λ b. list_any (λ x. is_in_any b (piece_reads x)) ys))
    (take_all c.loop-piece.piece-index c.args.pieces.now c.loop-piece-test.false) c.loop-piece.invariant
