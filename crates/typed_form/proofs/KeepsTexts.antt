-- The typed form of a `$display` prints the same text.
use Rattle.std.proofs.Common.{◌≡◌, ◌∙◌, sym, ap, ap₂, refl, ℕ, Bool, true, false, List, [], ◌∷◌, ◌++◌, map, flat_map, Option, Some, None, append_assoc}
use Rattle.elab_types.specs.declared.flat_source.FlatVar.{FlatVar}
use Rattle.elab_types.specs.declared.flat_expression.FlatExpr.{FlatExpr}
use Rattle.design_tree.specs.declared.typed.Typed.{Typed}
use Rattle.design_tree.specs.declared.step.Piece.{Piece}
use Rattle.circuit_run.specs.States.{State}
use Rattle.circuit_run.specs.Digits.{trimmed, integer_text, decimal_columns, to_the_right}
use Rattle.source_meaning.specs.Meaning.{Meaning, own, reading}
use Rattle.source_meaning.specs.Texts as source
use Rattle.source_meaning.specs.Texts.{Base, decimal, hexadecimal, binary, Format, literal, value, wrong, formats, value_text, display_text}
use Rattle.flat_meaning.specs.Expressions.{meaning}
use Rattle.design_meaning.specs.Values.{of_width}
use Rattle.design_meaning.specs.Texts.{piece_text, dec_text, hex_text, bin_text}
use Rattle.typed_form.specs.TypedTexts.{ArePieces, end, bytes, shown, value_piece, all_formats}
use Rattle.typed_form.specs.TypedLaws.{HasWidths}
use Rattle.typed_form.proofs.Keeps.{KeepsOwn}
use Rattle.typed_form.proofs.KeepsValue.{keeps_alone}

dec_is : (is_signed : Bool) (w x : ℕ) → dec_text is_signed (of_width w x) ≡ integer_text (reading w is_signed x)
dec_is true w x = refl
dec_is false w x = refl

-- a value's piece has the value's text
piece_is : (s : State) (base : Base) (short : Bool) (a : Typed) (m : Meaning) → KeepsOwn s a m
    → piece_text s (value_piece base short m.signed a) ≡ value_text base short m s
piece_is s decimal true a m p = ap (dec_text m.signed) p ∙ dec_is m.signed m.size (own m s)
piece_is s decimal false a m p =
    ap (λ v. to_the_right (decimal_columns m.signed v.width) (dec_text m.signed v)) p
    ∙ ap (to_the_right (decimal_columns m.signed m.size)) (dec_is m.signed m.size (own m s))
piece_is s hexadecimal true a m p = ap (λ v. trimmed (hex_text v)) p
piece_is s hexadecimal false a m p = ap hex_text p
piece_is s binary true a m p = ap (λ v. trimmed (bin_text v)) p
piece_is s binary false a m p = ap bin_text p

literals_shown : (s : State) (cs : List ℕ) (rest : List Format) (ms : List Meaning) → source.shown (map literal cs ++ rest) ms s ≡ cs ++ source.shown rest ms s
literals_shown s [] rest ms = refl
literals_shown s (c ∷ cs) rest ms = ap (λ x. c ∷ x) (literals_shown s cs rest ms)

shown_append : (s : State) (fs : List Format) (ms : List Meaning) → source.shown (fs ++ literal 10 ∷ []) ms s ≡ source.shown fs ms s ++ 10 ∷ []
shown_append s [] ms = refl
shown_append s (literal c ∷ fs) ms = ap (λ x. c ∷ x) (shown_append s fs ms)
shown_append s (value base short ∷ fs) [] = shown_append s fs []
shown_append s (value base short ∷ fs) (m ∷ ms) = ap (λ x. value_text base short m s ++ x) (shown_append s fs ms)
    ∙ sym (append_assoc (value_text base short m s) (source.shown fs ms s) (10 ∷ []))
shown_append s (wrong ∷ fs) ms = shown_append s fs ms

module _ (vars : List FlatVar) (s : State) (widths : HasWidths vars s) where
  keeps_pieces : {fs : List Format} {values : List FlatExpr} {ps : List Piece} → ArePieces vars fs values ps
      → flat_map (piece_text s) ps ≡ source.shown fs (map (meaning vars) values) s
  keeps_pieces end = refl
  keeps_pieces (bytes {c} {cs} {rest} {values} {ps} d) =
      ap (λ x. (c ∷ cs) ++ x) (keeps_pieces d)
      ∙ ap (λ x. c ∷ x) (sym (literals_shown s cs rest (map (meaning vars) values)))
  keeps_pieces (shown {base} {short} {of} {a} {rest} {values} {ps} d ds) =
      ap₂ ◌++◌ (piece_is s base short a (meaning vars of) (keeps_alone vars s widths d)) (keeps_pieces ds)

  pub keeps_display : (text : Option (List ℕ)) (values : List FlatExpr) (ps : List Piece) → ArePieces vars (all_formats text) values ps
      → flat_map (piece_text s) ps ≡ display_text text (map (meaning vars) values) s
  keeps_display None values ps d = keeps_pieces d
  keeps_display (Some text) values ps d = keeps_pieces d ∙ shown_append s (formats text) (map (meaning vars) values)
