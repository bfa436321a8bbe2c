-- Typings and sizes of an expression by its first node.
use Rattle.std.proofs.Common.{◌≡◌, ℕ, zero, suc, ◌+◌, ◌*◌, ◌^◌, ◌≤◌, ◌<◌, Bool, true, false, length, refl, sym, ◌∙◌, ap, arith}
use Rattle.std.specs.Prelude.{◌&&◌, ◌||◌, ◌==◌, nat_le, nat_lt}
use Rattle.std.proofs.Math.Nat.{mul-suc, pow-le-pow_right}
use Rattle.std.proofs.lemmas.Bool.{true≢false}
use Rattle.std.proofs.lemmas.Bool.Decides.{nat_tests}
use Rattle.design_tree.specs.declared.design.Design.{Design}
use Rattle.design_tree.specs.declared.typed.Typed.{Typed}
use Rattle.design_meaning.specs.Sizes.{nodes, node_size, of_index}
use Rattle.design_meaning.specs.WellTyped.{is_typed, is_index, is_width, is_var, is_plain_var, is_shift, same_width, node_typed, index_typed}
use Rattle.design_meaning.specs.Widths.{width_of}
use Rattle.design_meaning.proofs.TypedFolds as folds
use Rattle.cvd_nodes.specs.Nodes.{Fields, fields_fit, is_small, is_number}
use Rattle.cvd_nodes.specs.Trees.{Trees, index}
use Rattle.cvd_nodes.specs.declared.head.Head.{Head}
use Rattle.cvd_nodes.specs.declared.head.Head.TheVariants as head
use Rattle.cvd_nodes.proofs.Trees.{behind, made}

pub fst : (a b : Bool) → (a && b) ≡ true → a ≡ true
fst true b h = refl
fst false b h = absurd (true≢false (sym h))

pub snd : (a b : Bool) → (a && b) ≡ true → b ≡ true
snd true b h = h
snd false b h = absurd (true≢false (sym h))

pub both : (a b : Bool) → a ≡ true → b ≡ true → (a && b) ≡ true
both a b h k = ap (λ x. x && b) h ∙ k

-- ---- sizes

abbrev pub tree_count : (k : ℕ) → Trees k → ℕ
tree_count zero u = 0
tree_count (suc k) ts = nodes ts.0 + tree_count k ts.1

pub count_made : (h : Head) (f : Fields h) (k : ℕ) (ts : Trees (behind h k)) → tree_count (suc k) (made h f k ts) ≡ 1 + tree_count (behind h k) ts
count_made head.Number f k ts = let whole = folds.fold-Number ℕ ℕ node_size of_index f.0 f.1 in omega arith
count_made head.Var v k ts = let whole = folds.fold-Var ℕ ℕ node_size of_index v in omega arith
count_made head.Word f k ts = let whole = folds.fold-Word ℕ ℕ node_size of_index f.0 (index f.1.0 f.1.1 ts.0) in
    let at = folds.fold-index ℕ ℕ node_size of_index f.1.0 f.1.1 ts.0 in omega arith
count_made head.Part f k ts = let whole = folds.fold-Part ℕ ℕ node_size of_index f.0 ts.0 (index f.1.0 f.1.1 ts.1.0) in
    let at = folds.fold-index ℕ ℕ node_size of_index f.1.0 f.1.1 ts.1.0 in omega arith
count_made head.ZeroExtend w k ts = let whole = folds.fold-ZeroExtend ℕ ℕ node_size of_index w ts.0 in omega arith
count_made head.SignExtend w k ts = let whole = folds.fold-SignExtend ℕ ℕ node_size of_index w ts.0 in omega arith
count_made head.Truncate w k ts = let whole = folds.fold-Truncate ℕ ℕ node_size of_index w ts.0 in omega arith
count_made (head.Unary op) u k ts = let whole = folds.fold-Unary ℕ ℕ node_size of_index op ts.0 in omega arith
count_made (head.Binary op) u k ts = let whole = folds.fold-Binary ℕ ℕ node_size of_index op ts.0 ts.1.0 in omega arith
count_made head.Join u k ts = let whole = folds.fold-Join ℕ ℕ node_size of_index ts.0 ts.1.0 in omega arith
count_made head.Repeat n k ts = let whole = folds.fold-Repeat ℕ ℕ node_size of_index n ts.0 in omega arith
count_made head.Choose u k ts = let whole = folds.fold-Choose ℕ ℕ node_size of_index ts.0 ts.1.0 ts.1.1.0 in omega arith

-- ---- typings

abbrev pub all_typed : Design → (k : ℕ) → Trees k → Bool
all_typed d zero u = true
all_typed d (suc k) ts = is_typed d ts.0 && all_typed d k ts.1

module _ (d : Design) where
  index_value : (low : ℕ) (signed : Bool) (x : Typed) → is_index d (index low signed x) ≡ true → is_typed d x ≡ true
  index_value low signed x h = snd (nat_lt low (2 ^ 32)) _ (sym (folds.para-index Bool Bool (node_typed d) index_typed low signed x) ∙ h)

  index_low : (low : ℕ) (signed : Bool) (x : Typed) → is_index d (index low signed x) ≡ true → is_number low ≡ true
  index_low low signed x h = fst (nat_lt low (2 ^ 32)) _ (sym (folds.para-index Bool Bool (node_typed d) index_typed low signed x) ∙ h)

  -- whether a node's expression is well typed, by its operands
  abbrev pub node_is : (h : Head) (f : Fields h) (k : ℕ) (ts : Trees (behind h k)) → Bool
  node_is head.Number f k ts = is_width f.0 && nat_lt f.1 (2 ^ f.0)
  node_is head.Var v k ts = is_plain_var d v
  node_is head.Word f k ts = is_var d f.0 && is_index d (index f.1.0 f.1.1 ts.0)
  node_is head.Part f k ts = is_width f.0 && is_typed d ts.0 && is_index d (index f.1.0 f.1.1 ts.1.0)
  node_is head.ZeroExtend w k ts = is_width w && is_typed d ts.0 && nat_le (width_of d ts.0) w
  node_is head.SignExtend w k ts = is_width w && is_typed d ts.0 && nat_le (width_of d ts.0) w
  node_is head.Truncate w k ts = is_width w && is_typed d ts.0 && nat_le w (width_of d ts.0)
  node_is (head.Unary op) u k ts = is_typed d ts.0
  node_is (head.Binary op) u k ts = is_typed d ts.0 && is_typed d ts.1.0 && (is_shift op || same_width d ts.0 ts.1.0)
  node_is head.Join u k ts = is_typed d ts.0 && is_typed d ts.1.0 && is_width (width_of d ts.0 + width_of d ts.1.0)
  node_is head.Repeat n k ts = is_typed d ts.0 && is_width (n * width_of d ts.0)
  node_is head.Choose u k ts = is_typed d ts.0 && width_of d ts.0 == 1 && is_typed d ts.1.0 && is_typed d ts.1.1.0 && same_width d ts.1.0 ts.1.1.0

  pub typed_made : (h : Head) (f : Fields h) (k : ℕ) (ts : Trees (behind h k)) → is_typed d (made h f k ts).0 ≡ node_is h f k ts
  typed_made head.Number f k ts = folds.para-Number Bool Bool (node_typed d) index_typed f.0 f.1
  typed_made head.Var v k ts = folds.para-Var Bool Bool (node_typed d) index_typed v
  typed_made head.Word f k ts = folds.para-Word Bool Bool (node_typed d) index_typed f.0 (index f.1.0 f.1.1 ts.0)
  typed_made head.Part f k ts = folds.para-Part Bool Bool (node_typed d) index_typed f.0 ts.0 (index f.1.0 f.1.1 ts.1.0)
  typed_made head.ZeroExtend w k ts = folds.para-ZeroExtend Bool Bool (node_typed d) index_typed w ts.0
  typed_made head.SignExtend w k ts = folds.para-SignExtend Bool Bool (node_typed d) index_typed w ts.0
  typed_made head.Truncate w k ts = folds.para-Truncate Bool Bool (node_typed d) index_typed w ts.0
  typed_made (head.Unary op) u k ts = folds.para-Unary Bool Bool (node_typed d) index_typed op ts.0
  typed_made (head.Binary op) u k ts = folds.para-Binary Bool Bool (node_typed d) index_typed op ts.0 ts.1.0
  typed_made head.Join u k ts = folds.para-Join Bool Bool (node_typed d) index_typed ts.0 ts.1.0
  typed_made head.Repeat n k ts = folds.para-Repeat Bool Bool (node_typed d) index_typed n ts.0
  typed_made head.Choose u k ts = folds.para-Choose Bool Bool (node_typed d) index_typed ts.0 ts.1.0 ts.1.1.0

  -- what is behind an expression, and the operands of its first node
  rest_typed : (h : Head) (f : Fields h) (k : ℕ) (ts : Trees (behind h k)) → node_is h f k ts ≡ true → all_typed d k (made h f k ts).1 ≡ true
      → all_typed d (behind h k) ts ≡ true
  rest_typed head.Number f k ts h r = r
  rest_typed head.Var v k ts h r = r
  rest_typed head.Word f k ts h r = both _ _ (index_value f.1.0 f.1.1 ts.0 (snd (is_var d f.0) _ h)) r
  rest_typed head.Part f k ts h r =
      both _ _ (snd (is_width f.0) _ (fst (is_width f.0 && is_typed d ts.0) _ h))
      (both _ _ (index_value f.1.0 f.1.1 ts.1.0 (snd (is_width f.0 && is_typed d ts.0) _ h)) r)
  rest_typed head.ZeroExtend w k ts h r = both _ _ (snd (is_width w) _ (fst (is_width w && is_typed d ts.0) _ h)) r
  rest_typed head.SignExtend w k ts h r = both _ _ (snd (is_width w) _ (fst (is_width w && is_typed d ts.0) _ h)) r
  rest_typed head.Truncate w k ts h r = both _ _ (snd (is_width w) _ (fst (is_width w && is_typed d ts.0) _ h)) r
  rest_typed (head.Unary op) u k ts h r = both _ _ h r
  rest_typed (head.Binary op) u k ts h r =
      let pair = fst (is_typed d ts.0 && is_typed d ts.1.0) _ h in
      both _ _ (fst (is_typed d ts.0) _ pair) (both _ _ (snd (is_typed d ts.0) _ pair) r)
  rest_typed head.Join u k ts h r =
      let pair = fst (is_typed d ts.0 && is_typed d ts.1.0) _ h in
      both _ _ (fst (is_typed d ts.0) _ pair) (both _ _ (snd (is_typed d ts.0) _ pair) r)
  rest_typed head.Repeat n k ts h r = both _ _ (fst (is_typed d ts.0) _ h) r
  rest_typed head.Choose u k ts h r =
      let all = fst (is_typed d ts.0 && width_of d ts.0 == 1 && is_typed d ts.1.0 && is_typed d ts.1.1.0) _ h in
      let front = fst (is_typed d ts.0 && width_of d ts.0 == 1 && is_typed d ts.1.0) _ all in
      let test = fst (is_typed d ts.0 && width_of d ts.0 == 1) _ front in
      both _ _ (fst (is_typed d ts.0) _ test) (both _ _ (snd (is_typed d ts.0 && width_of d ts.0 == 1) _ front)
      (both _ _ (snd (is_typed d ts.0 && width_of d ts.0 == 1 && is_typed d ts.1.0) _ all) r))

  pub typed_operands : (h : Head) (f : Fields h) (k : ℕ) (ts : Trees (behind h k)) → all_typed d (suc k) (made h f k ts) ≡ true
      → all_typed d (behind h k) ts ≡ true
  typed_operands h f k ts e =
      rest_typed h f k ts (sym (typed_made h f k ts) ∙ fst (is_typed d (made h f k ts).0) _ e) (snd (is_typed d (made h f k ts).0) _ e)

  -- ---- fields of a well typed node fit their types

  small_width : (w : ℕ) → is_width w ≡ true → is_small w ≡ true
  small_width w h = grind (arith, nat_tests)

  small_value : (w n : ℕ) → is_width w ≡ true → nat_lt n (2 ^ w) ≡ true → nat_lt n (2 ^ 128) ≡ true
  small_value w n h k =
      let most = pow-le-pow_right {n = 2} (omega arith) {i = w} {j = 128} (width_most w h) in
      let less = below n (2 ^ w) k in
      let least : n < 2 ^ 128 = omega arith in
      grind (arith, nat_tests)
    where
      width_most : (w : ℕ) → is_width w ≡ true → w ≤ 128
      width_most w h = grind (arith, nat_tests)

      below : (a b : ℕ) → nat_lt a b ≡ true → a < b
      below a b h = grind (arith, nat_tests)

  number_var : (v : ℕ) → length d.vars ≤ 2 ^ 32 → is_var d v ≡ true → is_number v ≡ true
  number_var v few h = grind (arith, nat_tests)

  small_repeat : (n w : ℕ) → is_width (n * w) ≡ true → is_small n ≡ true
  small_repeat n zero h = absurd (by (n * 0) (omega arith) h)
    where
      one : (m : ℕ) → is_width m ≡ true → 1 ≤ m
      one m h = grind (arith, nat_tests)

      by : (m : ℕ) → m ≡ 0 → is_width m ≡ true → ⊥
      by m e h = let some = one m h in omega arith
  small_repeat n (suc w) h = let few = most (n * suc w) h in let least : n ≤ n * suc w = mul_more n w in grind (arith, nat_tests)
    where
      most : (m : ℕ) → is_width m ≡ true → m ≤ 128
      most m h = grind (arith, nat_tests)

      mul_more : (n w : ℕ) → n ≤ n * suc w
      mul_more n w = let e = mul-suc n w in omega arith

  pub fields_made : (h : Head) (f : Fields h) (k : ℕ) (ts : Trees (behind h k)) → length d.vars ≤ 2 ^ 32 → node_is h f k ts ≡ true → fields_fit h f ≡ true
  fields_made head.Number f k ts few h = both _ _ (small_width f.0 (fst _ _ h)) (small_value f.0 f.1 (fst _ _ h) (snd (is_width f.0) _ h))
  fields_made head.Var v k ts few h = number_var v few (fst (is_var d v) _ h)
  fields_made head.Word f k ts few h = both _ _ (number_var f.0 few (fst (is_var d f.0) _ h)) (index_low f.1.0 f.1.1 ts.0 (snd (is_var d f.0) _ h))
  fields_made head.Part f k ts few h =
      both _ _ (small_width f.0 (fst (is_width f.0) _ (fst (is_width f.0 && is_typed d ts.0) _ h)))
      (index_low f.1.0 f.1.1 ts.1.0 (snd (is_width f.0 && is_typed d ts.0) _ h))
  fields_made head.ZeroExtend w k ts few h = small_width w (fst (is_width w) _ (fst (is_width w && is_typed d ts.0) _ h))
  fields_made head.SignExtend w k ts few h = small_width w (fst (is_width w) _ (fst (is_width w && is_typed d ts.0) _ h))
  fields_made head.Truncate w k ts few h = small_width w (fst (is_width w) _ (fst (is_width w && is_typed d ts.0) _ h))
  fields_made (head.Unary op) u k ts few h = refl
  fields_made (head.Binary op) u k ts few h = refl
  fields_made head.Join u k ts few h = refl
  fields_made head.Repeat n k ts few h = small_repeat n (width_of d ts.0) (snd (is_typed d ts.0) _ h)
  fields_made head.Choose u k ts few h = refl
