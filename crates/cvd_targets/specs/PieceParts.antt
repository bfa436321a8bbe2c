-- Displayed pieces as they are read.
use Rattle.std.specs.Prelude.{◌≡◌, ℕ, ◌&&◌, Bool, true, false, nat_le, List, [], ◌∷◌, ◌++◌, codes, Option, None, Some, map, if◌then◌else◌}
use Rattle.cov_types.specs.Limits.{most}
use Rattle.cov_types.specs.declared.limit.LimitName.TheVariants as limit
use Rattle.design_tree.specs.declared.design.Design.{Design}
use Rattle.design_tree.specs.declared.step.Piece.{Piece}
use Rattle.design_tree.specs.declared.step.Piece.TheVariants as piece
use Rattle.design_tree.specs.declared.typed.Typed.{Typed}
use Rattle.circuit_run.specs.Lists.{total}
use Rattle.design_meaning.specs.Mentions.{piece_length}
use Rattle.cvd_text.specs.Expressions.{tokens_of}
use Rattle.cvd_text.specs.Targets.{is_piece, piece_nodes}
use Rattle.cvd_text.specs.Pieces.{Mark}
use Rattle.cvd_text.specs.Tokens.{Token, word, digits}
use Rattle.cvd_step_laws.specs.StepMarks.{pieces_marks}
use Rattle.cvd_cursor.specs.Reads.{marks}
use Rattle.cvd_nodes.specs.Heads.{Entry, entry}
use Rattle.cvd_nodes.specs.Nodes.{sign_tokens}
use Rattle.cvd_targets.specs.Lists.{Counted, counted_marks, fits_all}
use Rattle.cvd_targets.specs.declared.piece.PieceForm.{PieceForm}
use Rattle.cvd_targets.specs.declared.piece.PieceForm.TheVariants as form
use Rattle.cvd_targets.specs.declared.piece.Shown.{Shown}
use Rattle.cvd_targets.specs.declared.pieces.Pieces.{Pieces}

abbrev pub form_text : PieceForm → List ℕ
form_text form.Text = codes "t"
form_text (form.Dec short) = if short then codes "D" else codes "d"
form_text (form.Hex short) = if short then codes "H" else codes "h"
form_text (form.Bin short) = if short then codes "B" else codes "b"

abbrev pub form_table : List (Entry PieceForm)
form_table =
    entry (codes "t") form.Text ∷ entry (codes "d") (form.Dec false) ∷ entry (codes "D") (form.Dec true) ∷ entry (codes "h") (form.Hex false)
    ∷ entry (codes "H") (form.Hex true) ∷ entry (codes "b") (form.Bin false) ∷ entry (codes "B") (form.Bin true) ∷ []

abbrev pub form_tokens : PieceForm → List Token
form_tokens f = word (form_text f) ∷ []

abbrev pub digits_tokens : List ℕ → List Token
digits_tokens bytes = digits bytes ∷ []

-- what follows the first word
abbrev pub Parts : PieceForm → Type 0
Parts form.Text = List ℕ
Parts (form.Dec short) = (signed : Bool) × Typed
Parts (form.Hex short) = Typed
Parts (form.Bin short) = Typed

abbrev pub dec_marks : (signed : Bool) × Typed → List Mark
dec_marks p = marks sign_tokens p.0 ++ marks tokens_of p.1

abbrev pub parts_marks : (f : PieceForm) → Parts f → List Mark
parts_marks form.Text = marks digits_tokens
parts_marks (form.Dec short) = dec_marks
parts_marks (form.Hex short) = marks tokens_of
parts_marks (form.Bin short) = marks tokens_of

abbrev pub made : (f : PieceForm) → Parts f → Piece
made form.Text bytes = piece.Text bytes
made (form.Dec short) p = piece.Dec p.0 short p.1
made (form.Hex short) e = piece.Hex short e
made (form.Bin short) e = piece.Bin short e

-- a piece with no more nodes than a design may have, and no more bytes than may be displayed
abbrev pub may_be_piece : Design → Piece → Bool
may_be_piece d p = is_piece d p && nat_le (piece_nodes p) (most limit.Nodes) && nat_le (piece_length d p) (most limit.EdgeText)

-- a piece that may stand, with the number of its nodes and the most bytes that it displays
pub record IsShown (d : Design) (p : Piece) (x : Shown) : Type 0 where
  pub piece_is : x.piece ≡ p
  pub nodes_are : x.nodes ≡ piece_nodes p
  pub stands : may_be_piece d p ≡ true
  pub shown_is : x.shown ≡ piece_length d p

-- what is held of a piece: it; or nothing, where it may not stand
abbrev pub PieceIn : Design → Piece → Option Shown → Type 0
PieceIn d p (Some x) = IsShown d p x
PieceIn d p None = may_be_piece d p ≡ false

abbrev pub counted_pieces : Counted Piece → List Mark
counted_pieces = counted_marks pieces_marks

abbrev pub may_be_pieces : Design → List Piece → Bool
may_be_pieces d ps = fits_all (is_piece d) piece_nodes (piece_length d) (most limit.Nodes) (most limit.EdgeText) ps

pub record AreShown (d : Design) (ps : List Piece) (x : Pieces) : Type 0 where
  pub items_are : x.items ≡ ps
  pub nodes_are : x.nodes ≡ total (map piece_nodes ps)
  pub stand : may_be_pieces d ps ≡ true
  pub shown_is : x.shown ≡ total (map (piece_length d) ps)

-- what is held of pieces: they; or nothing, where they may not stand together
abbrev pub PiecesIn : Design → List Piece → Option Pieces → Type 0
PiecesIn d ps (Some x) = AreShown d ps x
PiecesIn d ps None = may_be_pieces d ps ≡ false

-- what is held of pieces that were read so far
abbrev pub SoFar : Design → List Piece → Bool → Pieces → Type 0
SoFar d ps true x = PiecesIn d ps (Some x)
SoFar d ps false x = PiecesIn d ps None
