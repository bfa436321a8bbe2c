-- The typed form of a `$display` (this project's own): a piece for each value, and pieces for the bytes between.
use Rattle.std.specs.Prelude.{ℕ, Bool, List, [], ◌∷◌, ◌++◌, map, Option, Some, None}
use Rattle.elab_types.specs.declared.flat_source.FlatVar.{FlatVar}
use Rattle.elab_types.specs.declared.flat_expression.FlatExpr.{FlatExpr}
use Rattle.design_tree.specs.declared.typed.Typed.{Typed}
use Rattle.design_tree.specs.declared.step.Piece.{Piece}
use Rattle.design_tree.specs.declared.step.Piece.TheVariants as piece
use Rattle.source_meaning.specs.Texts.{Base, decimal, hexadecimal, binary, Format, literal, value, formats}
use Rattle.typed_form.specs.TypedExpressions.{IsTypedAlone, signed}

-- the piece of a value: a value in decimal is read by its own sign
abbrev pub value_piece : Base → Bool → Bool → Typed → Piece
value_piece decimal short is_signed a = piece.Dec is_signed short a
value_piece hexadecimal short is_signed a = piece.Hex short a
value_piece binary short is_signed a = piece.Bin short a

-- The pieces of formats and values: one for each value, and one or more for each run of bytes, none of them empty.
pub data ArePieces (vars : List FlatVar) : List Format → List FlatExpr → List Piece → Type 0 where
  end : ArePieces vars [] [] []
  bytes : {c : ℕ} {cs : List ℕ} {rest : List Format} {values : List FlatExpr} {ps : List Piece}
      → ArePieces vars rest values ps → ArePieces vars (literal c ∷ (map literal cs ++ rest)) values (piece.Text (c ∷ cs) ∷ ps)
  shown : {base : Base} {short : Bool} {of : FlatExpr} {a : Typed} {rest : List Format} {values : List FlatExpr} {ps : List Piece}
      → IsTypedAlone vars of a → ArePieces vars rest values ps
      → ArePieces vars (value base short ∷ rest) (of ∷ values) (value_piece base short (signed vars of) a ∷ ps)

-- all that a `$display` shows: its text, where it has one, and a line feed
abbrev pub all_formats : Option (List ℕ) → List Format
all_formats None = literal 10 ∷ []
all_formats (Some text) = formats text ++ literal 10 ∷ []
