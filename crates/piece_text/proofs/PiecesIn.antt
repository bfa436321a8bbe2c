-- What pieces print, and how long it is at most.
use Rattle.std.proofs.Common.{◌≡◌, ap, ℕ, Bool, true, false, List, ◌∷◌}
use Rattle.std.specs.List.{list_all}
use Rattle.design_tree.specs.declared.typed.Typed.{Typed}
use Rattle.design_tree.specs.declared.step.Piece.{Piece}
use Rattle.design_tree.specs.declared.step.Piece.TheVariants as piece
use Rattle.circuit_run.specs.States.{State}
use Rattle.circuit_run.specs.Digits.{digits, trimmed, to_the_right, hex_columns, decimal_columns}
use Rattle.design_meaning.specs.Values.{of_width, value_in}
use Rattle.design_meaning.specs.WellTyped.{is_typed, is_piece}
use Rattle.design_meaning.specs.Texts.{piece_text, dec_text}
use Rattle.design_meaning.proofs.ListLaws.{left_true, right_true}
use Rattle.piece_text.specs.DigitCounts.{spelled, value_text, columns_for, decimal_piece}
use Rattle.design_state.specs.InDesign.{IsTypedIn}
use Rattle.piece_text.specs.Pieces.{IsPieceIn, ArePiecesIn}
use Rattle.design_state.proofs.Typings.{with_test}

module _ (s : State) where
  pub dec_value : (is_signed short : Bool) (e : Typed) → IsPieceIn s (piece.Dec is_signed short e) → IsTypedIn s e
  dec_value is_signed short e h = with_test s (λ d. is_piece d (piece.Dec is_signed short e)) (λ d. is_typed d e) h (λ d ok. ok)

  pub hex_value : (short : Bool) (e : Typed) → IsPieceIn s (piece.Hex short e) → IsTypedIn s e
  hex_value short e h = with_test s (λ d. is_piece d (piece.Hex short e)) (λ d. is_typed d e) h (λ d ok. ok)

  pub bin_value : (short : Bool) (e : Typed) → IsPieceIn s (piece.Bin short e) → IsTypedIn s e
  bin_value short e h = with_test s (λ d. is_piece d (piece.Bin short e)) (λ d. is_typed d e) h (λ d ok. ok)

  pub dec_text_is : (is_signed short : Bool) (e : Typed) (w n : ℕ) → value_in s e ≡ of_width w n
      → piece_text s (piece.Dec is_signed short e) ≡ decimal_piece is_signed short w n
  unfolding value_text columns_for
  dec_text_is is_signed true e w n v = ap (dec_text is_signed) v
  dec_text_is is_signed false e w n v = ap (λ a. to_the_right (decimal_columns is_signed a.width) (dec_text is_signed a)) v

  pub hex_text_is : (short : Bool) (e : Typed) (w n : ℕ) → value_in s e ≡ of_width w n → piece_text s (piece.Hex short e) ≡ spelled short 16 (hex_columns w) n
  hex_text_is true e w n v = ap (λ a. trimmed (digits 16 (hex_columns a.width) a.number)) v
  hex_text_is false e w n v = ap (λ a. digits 16 (hex_columns a.width) a.number) v

  pub bin_text_is : (short : Bool) (e : Typed) (w n : ℕ) → value_in s e ≡ of_width w n → piece_text s (piece.Bin short e) ≡ spelled short 2 w n
  bin_text_is true e w n v = ap (λ a. trimmed (digits 2 a.width a.number)) v
  bin_text_is false e w n v = ap (λ a. digits 2 a.width a.number) v

  pub first_piece : (p : Piece) (ps : List Piece) → ArePiecesIn s (p ∷ ps) → IsPieceIn s p
  first_piece p ps h = with_test s (λ d. list_all (is_piece d) (p ∷ ps)) (λ d. is_piece d p) h (λ d ok. left_true (is_piece d p) (list_all (is_piece d) ps) ok)

  pub rest_pieces : (p : Piece) (ps : List Piece) → ArePiecesIn s (p ∷ ps) → ArePiecesIn s ps
  rest_pieces p ps h = with_test s (λ d. list_all (is_piece d) (p ∷ ps)) (λ d. list_all (is_piece d) ps) h
      (λ d ok. right_true (is_piece d p) (list_all (is_piece d) ps) ok)
