-- What is asked of pieces that are printed in a state.
use Rattle.std.specs.Prelude.{List}
use Rattle.std.specs.List.{list_all}
use Rattle.design_tree.specs.declared.step.Piece.{Piece}
use Rattle.circuit_run.specs.States.{State}
use Rattle.design_meaning.specs.WellTyped.{is_piece}
use Rattle.design_state.specs.InDesign.{InDesign}

abbrev pub IsPieceIn : State → Piece → Type 0
IsPieceIn s p = InDesign s (λ d. is_piece d p)

abbrev pub ArePiecesIn : State → List Piece → Type 0
ArePiecesIn s ps = InDesign s (λ d. list_all (is_piece d) ps)
