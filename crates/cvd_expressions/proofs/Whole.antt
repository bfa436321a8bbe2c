-- Where a whole expression may stand, what is in it may.
use Rattle.std.proofs.Common.{◌≡◌, ℕ, ◌≤◌, Bool, true, List, [], ◌∷◌, Option, Some, None, refl, sym, ◌∙◌, ap, arith}
use Rattle.std.specs.Prelude.{◌&&◌, ◌==◌, nat_le}
use Rattle.std.specs.Option.{option_and_then}
use Rattle.std.proofs.lemmas.Bool.Decides.{nat_tests}
use Rattle.design_tree.specs.declared.design.Design.{Design}
use Rattle.design_tree.specs.declared.typed.Index.{fold-Index}
use Rattle.design_tree.specs.declared.typed.Typed.{Typed}
use Rattle.design_tree.specs.declared.operator.TypedUnary.{TypedUnary}
use Rattle.design_tree.specs.declared.operator.TypedBinary.{TypedBinary}
use Rattle.design_tree.specs.declared.typed.Typed.TheVariants as e
use Rattle.design_meaning.specs.Sizes.{depth, node_depth, of_index}
use Rattle.design_meaning.specs.Widths.{width_of}
use Rattle.design_meaning.specs.WellTyped.{is_typed, is_index, is_width, is_var, node_typed, index_typed}
use Rattle.design_meaning.proofs.TypedFolds as folds
use Rattle.cvd_text.specs.Targets.{is_expression}
use Rattle.cvd_nodes.proofs.Typings.{fst, snd, both}
use Rattle.cvd_nodes.specs.Trees.{index, plug, push}
use Rattle.cvd_nodes.specs.declared.node.Node.{Node}
use Rattle.cvd_nodes.specs.declared.node.Node.TheVariants as node

module _ (d : Design) where
  -- all expressions of a list may stand
  abbrev pub all_fine : List Typed → Bool
  all_fine [] = true
  all_fine (x ∷ xs) = is_expression d x && all_fine xs

  shallow : (x : Typed) → is_expression d x ≡ true → depth x ≤ 2000
  shallow x h = le (depth x) (snd (is_typed d x) _ h)
    where
      le : (n : ℕ) → nat_le n 2000 ≡ true → n ≤ 2000
      le n h = grind (arith, nat_tests)

  fine : (x : Typed) → is_typed d x ≡ true → depth x ≤ 2000 → is_expression d x ≡ true
  fine x h less = both (is_typed d x) _ h (le (depth x) less)
    where
      le : (n : ℕ) → n ≤ 2000 → nat_le n 2000 ≡ true
      le n h = grind (arith, nat_tests)

  typed : (x : Typed) → is_expression d x ≡ true → is_typed d x ≡ true
  typed x h = fst (is_typed d x) _ h

  index_typed_is : (low : ℕ) (signed : Bool) (x : Typed) → is_index d (index low signed x) ≡ true → is_typed d x ≡ true
  index_typed_is low signed x h = snd _ _ (sym (folds.para-index Bool Bool (node_typed d) index_typed low signed x) ∙ h)

  index_deep : (low : ℕ) (signed : Bool) (x : Typed) → fold-Index ℕ ℕ node_depth of_index (index low signed x) ≡ depth x
  index_deep low signed x = folds.fold-index ℕ ℕ node_depth of_index low signed x

  from_Word : (v low : ℕ) (signed : Bool) (x : Typed) → is_expression d (e.Word v (index low signed x)) ≡ true → is_expression d x ≡ true
  from_Word v low signed x h =
      let t = sym (folds.para-Word Bool Bool (node_typed d) index_typed v (index low signed x)) ∙ typed _ h in
      let whole = folds.fold-Word ℕ ℕ node_depth of_index v (index low signed x) in
      let at = index_deep low signed x in
      let less = shallow _ h in
      fine x (index_typed_is low signed x (snd (is_var d v) _ t)) (omega arith)

  from_Part : (w low : ℕ) (signed : Bool) (x y : Typed) → is_expression d (e.Part w x (index low signed y)) ≡ true
      → (is_expression d x ≡ true) × (is_expression d y ≡ true)
  from_Part w low signed x y h =
      let t = sym (folds.para-Part Bool Bool (node_typed d) index_typed w x (index low signed y)) ∙ typed _ h in
      let whole = folds.fold-Part ℕ ℕ node_depth of_index w x (index low signed y) in
      let at = index_deep low signed y in
      let less = shallow _ h in (
        fine x (snd (is_width w) _ (fst (is_width w && is_typed d x) _ t)) (omega arith),
        fine y (index_typed_is low signed y (snd (is_width w && is_typed d x) _ t)) (omega arith),
      )

  from_ZeroExtend : (w : ℕ) (x : Typed) → is_expression d (e.ZeroExtend w x) ≡ true → is_expression d x ≡ true
  from_ZeroExtend w x h =
      let t = sym (folds.para-ZeroExtend Bool Bool (node_typed d) index_typed w x) ∙ typed _ h in
      let whole = folds.fold-ZeroExtend ℕ ℕ node_depth of_index w x in
      let less = shallow _ h in
      fine x (snd (is_width w) _ (fst (is_width w && is_typed d x) _ t)) (omega arith)

  from_SignExtend : (w : ℕ) (x : Typed) → is_expression d (e.SignExtend w x) ≡ true → is_expression d x ≡ true
  from_SignExtend w x h =
      let t = sym (folds.para-SignExtend Bool Bool (node_typed d) index_typed w x) ∙ typed _ h in
      let whole = folds.fold-SignExtend ℕ ℕ node_depth of_index w x in
      let less = shallow _ h in
      fine x (snd (is_width w) _ (fst (is_width w && is_typed d x) _ t)) (omega arith)

  from_Truncate : (w : ℕ) (x : Typed) → is_expression d (e.Truncate w x) ≡ true → is_expression d x ≡ true
  from_Truncate w x h =
      let t = sym (folds.para-Truncate Bool Bool (node_typed d) index_typed w x) ∙ typed _ h in
      let whole = folds.fold-Truncate ℕ ℕ node_depth of_index w x in
      let less = shallow _ h in
      fine x (snd (is_width w) _ (fst (is_width w && is_typed d x) _ t)) (omega arith)

  from_Repeat : (c : ℕ) (x : Typed) → is_expression d (e.Repeat c x) ≡ true → is_expression d x ≡ true
  from_Repeat c x h =
      let t = sym (folds.para-Repeat Bool Bool (node_typed d) index_typed c x) ∙ typed _ h in
      let whole = folds.fold-Repeat ℕ ℕ node_depth of_index c x in
      let less = shallow _ h in
      fine x (fst (is_typed d x) _ t) (omega arith)

  from_Join : (x y : Typed) → is_expression d (e.Join x y) ≡ true → (is_expression d x ≡ true) × (is_expression d y ≡ true)
  from_Join x y h =
      let t = fst (is_typed d x && is_typed d y) _ (sym (folds.para-Join Bool Bool (node_typed d) index_typed x y) ∙ typed _ h) in
      let whole = folds.fold-Join ℕ ℕ node_depth of_index x y in
      let less = shallow _ h in
      (fine x (fst (is_typed d x) _ t) (omega arith), fine y (snd (is_typed d x) _ t) (omega arith))

  from_Choose : (x y z : Typed) → is_expression d (e.Choose x y z) ≡ true
      → (is_expression d x ≡ true) × ((is_expression d y ≡ true) × (is_expression d z ≡ true))
  from_Choose x y z h =
      let all = fst (is_typed d x && width_of d x == 1 && is_typed d y && is_typed d z) _
      (sym (folds.para-Choose Bool Bool (node_typed d) index_typed x y z) ∙ typed _ h) in
      let front = fst (is_typed d x && width_of d x == 1 && is_typed d y) _ all in
      let test = fst (is_typed d x && width_of d x == 1) _ front in
      let whole = folds.fold-Choose ℕ ℕ node_depth of_index x y z in
      let less = shallow _ h in (
        fine x (fst (is_typed d x) _ test) (omega arith),
        (
          fine y (snd (is_typed d x && width_of d x == 1) _ front) (omega arith),
          fine z (snd (is_typed d x && width_of d x == 1 && is_typed d y) _ all) (omega arith),
        ),
      )

  from_Unary : (op : TypedUnary) (x : Typed) → is_expression d (e.Unary op x) ≡ true → is_expression d x ≡ true
  from_Unary op x h =
      let t = sym (folds.para-Unary Bool Bool (node_typed d) index_typed op x) ∙ typed _ h in
      let whole = folds.fold-Unary ℕ ℕ node_depth of_index op x in
      let less = shallow _ h in
      fine x t (omega arith)

  from_Binary : (op : TypedBinary) (x y : Typed) → is_expression d (e.Binary op x y) ≡ true → (is_expression d x ≡ true) × (is_expression d y ≡ true)
  from_Binary op x y h =
      let t = fst (is_typed d x && is_typed d y) _ (sym (folds.para-Binary Bool Bool (node_typed d) index_typed op x y) ∙ typed _ h) in
      let whole = folds.fold-Binary ℕ ℕ node_depth of_index op x y in
      let less = shallow _ h in
      (fine x (fst (is_typed d x) _ t) (omega arith), fine y (snd (is_typed d x) _ t) (omega arith))

  -- where a node in front is fine, its operands are
  along : (us vs : List Typed) → Some us ≡ Some vs → all_fine vs ≡ true → all_fine us ≡ true
  along us vs q h = let same : us ≡ vs = cc in ap all_fine same ∙ h

  pushed : (n : Node) (us vs : List Typed) → push n us ≡ Some vs → all_fine vs ≡ true → all_fine us ≡ true
  pushed (node.Number w n) us vs q h = snd (is_expression d (e.Number w n)) _ (along _ vs q h)
  pushed (node.Var v) us vs q h = snd (is_expression d (e.Var v)) _ (along _ vs q h)
  pushed (node.Word v low s) [] vs q h = absurd (cc)
  pushed (node.Word v low s) (x ∷ us) vs q h = let a = along _ vs q h in
      both _ _ (from_Word v low s x (fst _ (all_fine us) a)) (snd (is_expression d (e.Word v (index low s x))) _ a)
  pushed (node.Part w low s) [] vs q h = absurd (cc)
  pushed (node.Part w low s) (x ∷ []) vs q h = absurd (cc)
  pushed (node.Part w low s) (x ∷ y ∷ us) vs q h =
      let a = along _ vs q h in
      let p = from_Part w low s x y (fst _ (all_fine us) a) in
      both _ _ p.0 (both _ _ p.1 (snd (is_expression d (e.Part w x (index low s y))) _ a))
  pushed (node.ZeroExtend w) [] vs q h = absurd (cc)
  pushed (node.ZeroExtend w) (x ∷ us) vs q h = let a = along _ vs q h in
      both _ _ (from_ZeroExtend w x (fst _ (all_fine us) a)) (snd (is_expression d (e.ZeroExtend w x)) _ a)
  pushed (node.SignExtend w) [] vs q h = absurd (cc)
  pushed (node.SignExtend w) (x ∷ us) vs q h = let a = along _ vs q h in
      both _ _ (from_SignExtend w x (fst _ (all_fine us) a)) (snd (is_expression d (e.SignExtend w x)) _ a)
  pushed (node.Truncate w) [] vs q h = absurd (cc)
  pushed (node.Truncate w) (x ∷ us) vs q h = let a = along _ vs q h in
      both _ _ (from_Truncate w x (fst _ (all_fine us) a)) (snd (is_expression d (e.Truncate w x)) _ a)
  pushed (node.Unary op) [] vs q h = absurd (cc)
  pushed (node.Unary op) (x ∷ us) vs q h = let a = along _ vs q h in
      both _ _ (from_Unary op x (fst _ (all_fine us) a)) (snd (is_expression d (e.Unary op x)) _ a)
  pushed (node.Repeat c) [] vs q h = absurd (cc)
  pushed (node.Repeat c) (x ∷ us) vs q h = let a = along _ vs q h in
      both _ _ (from_Repeat c x (fst _ (all_fine us) a)) (snd (is_expression d (e.Repeat c x)) _ a)
  pushed (node.Binary op) [] vs q h = absurd (cc)
  pushed (node.Binary op) (x ∷ []) vs q h = absurd (cc)
  pushed (node.Binary op) (x ∷ y ∷ us) vs q h =
      let a = along _ vs q h in
      let p = from_Binary op x y (fst _ (all_fine us) a) in
      both _ _ p.0 (both _ _ p.1 (snd (is_expression d (e.Binary op x y)) _ a))
  pushed node.Join [] vs q h = absurd (cc)
  pushed node.Join (x ∷ []) vs q h = absurd (cc)
  pushed node.Join (x ∷ y ∷ us) vs q h =
      let a = along _ vs q h in
      let p = from_Join x y (fst _ (all_fine us) a) in
      both _ _ p.0 (both _ _ p.1 (snd (is_expression d (e.Join x y)) _ a))
  pushed node.Choose [] vs q h = absurd (cc)
  pushed node.Choose (x ∷ []) vs q h = absurd (cc)
  pushed node.Choose (x ∷ y ∷ []) vs q h = absurd (cc)
  pushed node.Choose (x ∷ y ∷ z ∷ us) vs q h =
      let a = along _ vs q h in
      let p = from_Choose x y z (fst _ (all_fine us) a) in
      both _ _ p.0 (both _ _ p.1.0 (both _ _ p.1.1 (snd (is_expression d (e.Choose x y z)) _ a)))

  -- so are all that nodes stand in front of
  pub plugged : (ns : List Node) (us vs : List Typed) → plug ns us ≡ Some vs → all_fine vs ≡ true → all_fine us ≡ true
  plugged [] us vs q h = along us vs q h
  plugged (n ∷ ns) us vs q h = by (plug ns us) refl q (plugged ns us)
    where
      by : (o : Option (List Typed)) → plug ns us ≡ o → option_and_then (push n) o ≡ Some vs
          → ((ws : List Typed) → plug ns us ≡ Some ws → all_fine ws ≡ true → all_fine us ≡ true) → all_fine us ≡ true
      by None p k later = absurd (cc)
      by (Some ws) p k later = later ws p (pushed n ws vs k h)
