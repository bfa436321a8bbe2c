-- The widths of well typed expressions are 1 to 128, and what pieces print is no longer than said.
use Rattle.std.proofs.Common.{◌≡◌, ◌∙◌, sym, subst, refl, ℕ, ◌+◌, ◌*◌, ◌<◌, ◌≤◌, ◌^◌, ◌==◌, Bool, true, false, ◌&&◌, ◌||◌, List, [], ◌∷◌, ◌++◌, length, map}
use Rattle.std.proofs.Common.{arith}
use Rattle.std.specs.Prelude.{All, flat_map, nat_lt, nat_le}
use Rattle.std.specs.List.{list_all}
use Rattle.std.proofs.lemmas.Grind.{common_steps}
use Rattle.std.proofs.lemmas.List.{length-append}
use Rattle.design_tree.specs.declared.operator.TypedUnary.{TypedUnary}
use Rattle.design_tree.specs.declared.operator.TypedUnary.TheVariants as unary
use Rattle.design_tree.specs.declared.operator.TypedBinary.{TypedBinary}
use Rattle.design_tree.specs.declared.operator.TypedBinary.TheVariants as binary
use Rattle.design_tree.specs.declared.design.Design.{Design}
use Rattle.design_tree.specs.declared.typed.Typed.{Typed}
use Rattle.design_tree.specs.declared.typed.Typed.TheVariants as e
use Rattle.design_tree.specs.declared.step.Piece.{Piece}
use Rattle.design_tree.specs.declared.step.Piece.TheVariants as piece
use Rattle.circuit_run.specs.States.{State, no_var}
use Rattle.circuit_run.specs.Lists.{total}
use Rattle.circuit_run.specs.Digits.{digits, hex_columns, decimal_columns}
use Rattle.design_meaning.specs.States.{IsStateOf, var_of}
use Rattle.design_meaning.specs.Values.{value_in, of_width, Value}
use Rattle.design_meaning.specs.Widths.{width_of, node_width, index_width, unary_width, binary_width}
use Rattle.design_meaning.specs.WellTyped.{is_typed, is_index, node_typed, index_typed, is_width, is_var, is_piece, is_shift, same_width}
use Rattle.design_meaning.specs.Mentions.{Mention, shown, mention_length, piece_length, piece_mentions}
use Rattle.design_meaning.specs.Texts.{piece_text, dec_text}
use Rattle.design_meaning.specs.ValidVariables.{IsVariable}
use Rattle.design_meaning.proofs.TypedFolds as typed
use Rattle.design_meaning.proofs.TypedInduction.{typed_induction}
use Rattle.design_meaning.proofs.ListLaws.{left_true, right_true}
use Rattle.design_meaning.proofs.ValuesFit.{fits}
use Rattle.piece_text.specs.DigitCounts.{value_text, columns_for}
use Rattle.piece_text.proofs.DigitLaws.{length-digits}
use Rattle.piece_text.proofs.TextLaws.{text_fits, trimmed_fits, right_length}

module _ (d : Design) (vars : All IsVariable d.vars) where
  abbrev Wide : Typed → Type 0
  Wide e = is_typed d e ≡ true → is_width (width_of d e) ≡ true

  at_node : (e : Typed) (w : ℕ) (c : Bool) → width_of d e ≡ w → is_typed d e ≡ c → (c ≡ true → is_width w ≡ true) → Wide e
  at_node e w c ew ec k ok = subst (λ w. is_width w ≡ true) (sym ew) (k (sym ec ∙ ok))

  var_wide : (v : ℕ) → is_var d v ≡ true → is_width (var_of d v).width ≡ true
  var_wide v ok =
      let lt : v < length d.vars = grind (arith, common_steps) in
      (vars v no_var lt).wide

  unary_wide : (op : TypedUnary) (w : ℕ) → is_width w ≡ true → is_width (unary_width op w) ≡ true
  unary_wide unary.Not w h = h
  unary_wide unary.Neg w h = h
  unary_wide unary.ReduceAnd w h = refl
  unary_wide unary.ReduceOr w h = refl
  unary_wide unary.ReduceXor w h = refl

  binary_wide : (op : TypedBinary) (w : ℕ) → is_width w ≡ true → is_width (binary_width op w) ≡ true
  binary_wide binary.Equal w h = refl
  binary_wide binary.BelowUnsigned w h = refl
  binary_wide binary.AtMostUnsigned w h = refl
  binary_wide binary.BelowSigned w h = refl
  binary_wide binary.AtMostSigned w h = refl
  binary_wide binary.Add w h = h
  binary_wide binary.Sub w h = h
  binary_wide binary.Mul w h = h
  binary_wide binary.DivideUnsigned w h = h
  binary_wide binary.DivideSigned w h = h
  binary_wide binary.RemainderUnsigned w h = h
  binary_wide binary.RemainderSigned w h = h
  binary_wide binary.And w h = h
  binary_wide binary.Or w h = h
  binary_wide binary.Xor w h = h
  binary_wide binary.ShiftLeft w h = h
  binary_wide binary.ShiftRight w h = h
  binary_wide binary.ShiftRightSigned w h = h

  pub is_wide : (e : Typed) → Wide e
  is_wide = typed_induction Wide
      (λ w n. at_node (e.Number w n) _ _ (typed.fold-Number ℕ ℕ (node_width d) index_width w n) (typed.para-Number Bool Bool (node_typed d) index_typed w n)
      (λ ok. left_true (is_width w) (nat_lt n (2 ^ w)) ok))
      (λ v. at_node (e.Var v) _ _ (typed.fold-Var ℕ ℕ (node_width d) index_width v) (typed.para-Var Bool Bool (node_typed d) index_typed v)
      (λ ok. var_wide v (left_true (is_var d v) ((var_of d v).words == 1) ok)))
      (λ v at k. at_node (e.Word v at) _ _ (typed.fold-Word ℕ ℕ (node_width d) index_width v at) (typed.para-Word Bool Bool (node_typed d) index_typed v at)
      (λ ok. var_wide v (left_true (is_var d v) (is_index d at) ok)))
      (λ w of at k1 k2. at_node (e.Part w of at) _ _ (typed.fold-Part ℕ ℕ (node_width d) index_width w of at)
      (typed.para-Part Bool Bool (node_typed d) index_typed w of at)
      (λ ok. left_true (is_width w) (is_typed d of) (left_true (is_width w && is_typed d of) (is_index d at) ok)))
      (λ w of k. at_node (e.ZeroExtend w of) _ _ (typed.fold-ZeroExtend ℕ ℕ (node_width d) index_width w of)
      (typed.para-ZeroExtend Bool Bool (node_typed d) index_typed w of)
      (λ ok. left_true (is_width w) (is_typed d of) (left_true (is_width w && is_typed d of) (nat_le (width_of d of) w) ok)))
      (λ w of k. at_node (e.SignExtend w of) _ _ (typed.fold-SignExtend ℕ ℕ (node_width d) index_width w of)
      (typed.para-SignExtend Bool Bool (node_typed d) index_typed w of)
      (λ ok. left_true (is_width w) (is_typed d of) (left_true (is_width w && is_typed d of) (nat_le (width_of d of) w) ok)))
      (λ w of k. at_node (e.Truncate w of) _ _ (typed.fold-Truncate ℕ ℕ (node_width d) index_width w of)
      (typed.para-Truncate Bool Bool (node_typed d) index_typed w of)
      (λ ok. left_true (is_width w) (is_typed d of) (left_true (is_width w && is_typed d of) (nat_le w (width_of d of)) ok)))
      (λ op of k. at_node (e.Unary op of) _ _ (typed.fold-Unary ℕ ℕ (node_width d) index_width op of)
      (typed.para-Unary Bool Bool (node_typed d) index_typed op of) (λ ok. unary_wide op (width_of d of) (k ok)))
      (λ op left right k1 k2. at_node (e.Binary op left right) _ _ (typed.fold-Binary ℕ ℕ (node_width d) index_width op left right)
      (typed.para-Binary Bool Bool (node_typed d) index_typed op left right) (λ ok. binary_wide op (width_of d left)
      (k1 (left_true (is_typed d left) (is_typed d right) (left_true (is_typed d left && is_typed d right) (is_shift op || same_width d left right) ok)))))
      (λ high low k1 k2. at_node (e.Join high low) _ _ (typed.fold-Join ℕ ℕ (node_width d) index_width high low)
      (typed.para-Join Bool Bool (node_typed d) index_typed high low)
      (λ ok. right_true (is_typed d high && is_typed d low) (is_width (width_of d high + width_of d low)) ok))
      (λ count of k. at_node (e.Repeat count of) _ _ (typed.fold-Repeat ℕ ℕ (node_width d) index_width count of)
      (typed.para-Repeat Bool Bool (node_typed d) index_typed count of) (λ ok. right_true (is_typed d of) (is_width (count * width_of d of)) ok))
      (λ test left right k0 k1 k2. at_node (e.Choose test left right) _ _ (typed.fold-Choose ℕ ℕ (node_width d) index_width test left right)
      (typed.para-Choose Bool Bool (node_typed d) index_typed test left right) (λ ok.
      k1 (right_true (is_typed d test && width_of d test == 1) (is_typed d left)
      (left_true (is_typed d test && width_of d test == 1 && is_typed d left) (is_typed d right)
      (left_true (is_typed d test && width_of d test == 1 && is_typed d left && is_typed d right) (same_width d left right) ok)))))

width_bounds : (w : ℕ) → is_width w ≡ true → (1 ≤ w) × (w ≤ 128)
width_bounds w h = grind (arith, common_steps)

dec_fits : (is_signed : Bool) (w n : ℕ) → 1 ≤ w → w ≤ 128 → n < 2 ^ w → length (dec_text is_signed (of_width w n)) ≤ decimal_columns is_signed w
unfolding value_text columns_for
dec_fits is_signed w n some most h = text_fits is_signed w n some most h

module _ (d : Design) (s : State) (of : IsStateOf d s) (vars : All IsVariable d.vars) where
  -- the value of a piece, by its width
  shown_value : (x : Typed) → is_typed d x ≡ true → (1 ≤ width_of d x) × (width_of d x ≤ 128) × ((value_in s x).width
      ≡ width_of d x) × ((value_in s x).number < 2 ^ width_of d x)
  shown_value x ok =
      let f : ((value_in s x).width ≡ width_of d x) × ((value_in s x).number < 2 ^ width_of d x) = fits d s of x ok in
      let b : (1 ≤ width_of d x) × (width_of d x ≤ 128) = width_bounds (width_of d x) (is_wide d vars x ok) in
      (b.0, b.1, f.0, f.1)

  value_fits : (is_signed : Bool) (x : Typed) → is_typed d x ≡ true
      → length (dec_text is_signed (value_in s x)) ≤ decimal_columns is_signed (value_in s x).width
  value_fits is_signed x ok =
      let k : (1 ≤ width_of d x) × (width_of d x ≤ 128) × ((value_in s x).width
      ≡ width_of d x) × ((value_in s x).number < 2 ^ width_of d x) = shown_value x ok in
      dec_fits is_signed (value_in s x).width (value_in s x).number (omega (arith, k.0, k.2)) (omega (arith, k.1, k.2))
      (subst (λ w. (value_in s x).number < 2 ^ w) (sym k.2) k.3)

  same_width_of : (x : Typed) → is_typed d x ≡ true → (value_in s x).width ≡ width_of d x
  same_width_of x ok = (fits d s of x ok).0

  piece_fits : (p : Piece) → is_piece d p ≡ true → length (piece_text s p) ≤ piece_length d p
  piece_fits (piece.Text bytes) ok = omega arith
  piece_fits (piece.Dec is_signed true x) ok = subst (λ w. length (dec_text is_signed (value_in s x)) ≤ decimal_columns is_signed w) (same_width_of x ok)
      (value_fits is_signed x ok)
  piece_fits (piece.Dec is_signed false x) ok =
      subst (λ w. length (piece_text s (piece.Dec is_signed false x)) ≤ decimal_columns is_signed w) (same_width_of x ok)
      (omega (arith, right_length (decimal_columns is_signed (value_in s x).width) (dec_text is_signed (value_in s x)) (value_fits is_signed x ok)))
  piece_fits (piece.Hex true x) ok =
      let a : Value = value_in s x in
      subst (λ w. length (piece_text s (piece.Hex true x)) ≤ hex_columns w) (same_width_of x ok)
      (omega (arith, trimmed_fits (digits 16 (hex_columns a.width) a.number), length-digits 16 (hex_columns a.width) a.number))
  piece_fits (piece.Hex false x) ok =
      let a : Value = value_in s x in
      subst (λ w. length (piece_text s (piece.Hex false x)) ≤ hex_columns w) (same_width_of x ok)
      (omega (arith, length-digits 16 (hex_columns a.width) a.number))
  piece_fits (piece.Bin true x) ok =
      let a : Value = value_in s x in
      subst (λ w. length (piece_text s (piece.Bin true x)) ≤ w) (same_width_of x ok)
      (omega (arith, trimmed_fits (digits 2 a.width a.number), length-digits 2 a.width a.number))
  piece_fits (piece.Bin false x) ok =
      let a : Value = value_in s x in
      subst (λ w. length (piece_text s (piece.Bin false x)) ≤ w) (same_width_of x ok) (omega (arith, length-digits 2 a.width a.number))

  pieces_fit : (ps : List Piece) (more : List Mention) → list_all (is_piece d) ps ≡ true
      → length (flat_map (piece_text s) ps) ≤ total (map (mention_length d) (map shown ps ++ more))
  pieces_fit [] more ok = omega arith
  pieces_fit (p ∷ ps) more ok =
      omega (
        arith,
        length-append (piece_text s p) (flat_map (piece_text s) ps),
        piece_fits p (left_true (is_piece d p) (list_all (is_piece d) ps) ok),
        pieces_fit ps more (right_true (is_piece d p) (list_all (is_piece d) ps) ok),
      )

  pub show_fits : (ps : List Piece) → list_all (is_piece d) ps ≡ true
      → length (flat_map (piece_text s) ps) ≤ total (map (mention_length d) (map shown ps ++ flat_map piece_mentions ps))
  show_fits ps ok = pieces_fit ps (flat_map piece_mentions ps) ok
