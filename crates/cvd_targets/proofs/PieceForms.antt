-- Displayed pieces as they are read, from their first word and what follows it.
use Rattle.std.proofs.Common.{◌≡◌, ℕ, ◌<◌, ◌≤◌, Bool, true, false, List, [], ◌++◌, length, Some, refl, ◌∙◌, ap, arith}
use Rattle.std.specs.Prelude.{◌&&◌, All, nat_le, nat_lt}
use Rattle.std.proofs.lemmas.Bool.Decides.{nat_tests}
use Rattle.cov_types.specs.Limits.{most}
use Rattle.cov_types.specs.declared.limit.LimitName.TheVariants as limit
use Rattle.circuit_run.specs.Digits.{decimal_columns, hex_columns}
use Rattle.design_tree.specs.declared.design.Design.{Design}
use Rattle.design_tree.specs.declared.step.Piece.{Piece}
use Rattle.design_tree.specs.declared.step.Piece.TheVariants as piece
use Rattle.design_tree.specs.declared.typed.Typed.{Typed}
use Rattle.design_meaning.specs.Mentions.{piece_length}
use Rattle.design_meaning.specs.Sizes.{nodes, depth}
use Rattle.design_meaning.specs.ValidVariables.{IsVariable}
use Rattle.design_meaning.specs.WellTyped.{is_typed, is_width}
use Rattle.design_meaning.specs.Widths.{width_of}
use Rattle.piece_text.specs.DigitCounts.{columns_for}
use Rattle.piece_text.proofs.ShowFits.{is_wide}
use Rattle.spelling_laws.specs.Spelled.{Apart}
use Rattle.cvd_text.specs.Pieces.{Mark, fits}
use Rattle.cvd_text.specs.Targets.{is_expression, is_piece, piece_tokens}
use Rattle.cvd_laws.proofs.Marks.{apart_marks}
use Rattle.cvd_laws.proofs.Pieces.{apart_piece}
use Rattle.cvd_cursor.specs.Reads.{marks}
use Rattle.cvd_expressions.specs.declared.expression.Expression.{Expression}
use Rattle.cvd_nodes.specs.Heads.{look_up}
use Rattle.cvd_targets.specs.PieceParts.{form_text, form_table, form_tokens, Parts, parts_marks, made, may_be_piece}
use Rattle.cvd_targets.specs.Positions.{IsExpression}
use Rattle.cvd_targets.specs.declared.piece.PieceForm.{PieceForm}
use Rattle.cvd_targets.specs.declared.piece.PieceForm.TheVariants as form
use Rattle.cvd_targets.proofs.Lists.{left_of, right_of, both, both_false, le_of}
use Rattle.cvd_targets.proofs.Positions.{some_expression}
use Rattle.cvd_targets.proofs.Words as words

-- ---- the first word

pub form_again : (f : PieceForm) → look_up form_table (form_text f) ≡ Some f
form_again form.Text = refl
form_again (form.Dec true) = refl
form_again (form.Dec false) = refl
form_again (form.Hex true) = refl
form_again (form.Hex false) = refl
form_again (form.Bin true) = refl
form_again (form.Bin false) = refl

pub apart_form : Apart fits (marks form_tokens)
apart_form = words.apart_word form_text form_table form_again

pub some_parts : (f : PieceForm) → Parts f
some_parts form.Text = []
some_parts (form.Dec short) = (true, some_expression)
some_parts (form.Hex short) = some_expression
some_parts (form.Bin short) = some_expression

-- ---- the spelling of a piece by its parts

abbrev pub Whole : Type 0
Whole = (f : PieceForm) × Parts f

abbrev pub whole_marks : Whole → List Mark
whole_marks p = marks form_tokens p.0 ++ parts_marks p.0 p.1

abbrev pub to : Whole → Piece
to p = made p.0 p.1

abbrev pub from : Piece → Whole
from (piece.Text bytes) = (form.Text, bytes)
from (piece.Dec is_signed short e) = (form.Dec short, (is_signed, e))
from (piece.Hex short e) = (form.Hex short, e)
from (piece.Bin short e) = (form.Bin short, e)

pub alike : (p : Piece) → marks piece_tokens p ≡ whole_marks (from p)
alike (piece.Text bytes) = refl
alike (piece.Dec is_signed short e) = refl
alike (piece.Hex short e) = refl
alike (piece.Bin short e) = refl

pub alike_to : (p : Whole) → marks piece_tokens (to p) ≡ whole_marks p
alike_to p = by p.0 p.1
  where
    by : (f : PieceForm) (x : Parts f) → marks piece_tokens (made f x) ≡ whole_marks (f, x)
    by form.Text bytes = refl
    by (form.Dec short) x = refl
    by (form.Hex short) e = refl
    by (form.Bin short) e = refl

-- no piece's marks begin another's
pub apart_pieces : Apart fits (marks piece_tokens)
apart_pieces p = apart_marks piece_tokens p (apart_piece p)

pub some_piece : Piece
some_piece = piece.Text []

pub piece_long : (p : Piece) → 1 ≤ length (marks piece_tokens p)
piece_long (piece.Text bytes) = omega arith
piece_long (piece.Dec is_signed short e) = omega arith
piece_long (piece.Hex short e) = omega arith
piece_long (piece.Bin short e) = omega arith

-- ---- whether one may stand

module _ (d : Design) (e : Typed) (x : Expression) (h : IsExpression d e x) where
  pub value_is : is_expression d e ≡ true
  value_is = left_of (is_expression d e) (nat_le (nodes e) (most limit.Nodes)) h.stands

  pub value_typed : is_typed d e ≡ true
  value_typed = left_of (is_typed d e) (nat_le (depth e) (most limit.Depth)) value_is

  pub value_few : nodes e ≤ most limit.Nodes
  value_few = le_of (nodes e) (most limit.Nodes) (right_of (is_expression d e) _ h.stands)

  -- its width is one
  pub value_wide : All IsVariable d.vars → is_width x.width ≡ true
  value_wide vars = ap is_width h.width_is ∙ is_wide d vars e value_typed

-- ---- texts

test_some : (n : ℕ) → 0 < n → nat_lt 0 n ≡ true
test_some n h = grind (arith, nat_tests)

test_none : (n : ℕ) → n ≡ 0 → nat_lt 0 n ≡ false
test_none n h = grind (arith, nat_tests)

pub some_text : (d : Design) (bytes : List ℕ) → 0 < length bytes → is_piece d (piece.Text bytes) ≡ true
some_text d bytes h = both (nat_lt 0 (length bytes)) _ (test_some (length bytes) h) refl

pub empty_text : (d : Design) (bytes : List ℕ) → length bytes ≡ 0 → may_be_piece d (piece.Text bytes) ≡ false
empty_text d bytes h =
    both_false (is_piece d (piece.Text bytes) && nat_le 0 (most limit.Nodes)) _
    (both_false (is_piece d (piece.Text bytes)) _ (both_false (nat_lt 0 (length bytes)) _ (test_none (length bytes) h)))

-- ---- lengths

pub dec_columns : (d : Design) (e : Typed) (w shown : ℕ) (is_signed short : Bool) → w ≡ width_of d e → shown ≡ columns_for is_signed w
    → shown ≡ piece_length d (piece.Dec is_signed short e)
unfolding columns_for
dec_columns d e w shown is_signed short h k = k ∙ ap (decimal_columns is_signed) h

pub hex_digits_are : (d : Design) (e : Typed) (w shown : ℕ) (short : Bool) → w ≡ width_of d e → shown ≡ hex_columns w
    → shown ≡ piece_length d (piece.Hex short e)
hex_digits_are d e w shown short h k = k ∙ ap hex_columns h
