-- A constant means what it says, and none of it is refused.
use Rattle.std.proofs.Common.{◌≡◌, ◌∙◌, sym, ap, ap₂, refl, ℕ, max, ◌^◌, Bool, true, false, not, ◌&&◌, ◌||◌, List, [], ◌∷◌, ◌++◌, map, arith, pos}
use Rattle.std.proofs.Common.{int_le, nat_lt}
use Rattle.std.specs.Prelude.{nat_le}
use Rattle.vlog_tree.specs.declared.operator.UnaryOp.{UnaryOp}
use Rattle.vlog_tree.specs.declared.operator.UnaryOp.TheVariants as unary
use Rattle.vlog_tree.specs.declared.operator.BinaryOp.{BinaryOp}
use Rattle.vlog_tree.specs.declared.operator.BinaryOp.TheVariants as binary
use Rattle.vlog_tree.specs.declared.operator.SystemCall.{SystemCall}
use Rattle.vlog_tree.specs.declared.operator.SystemCall.TheVariants as call
use Rattle.vlog_tree.specs.declared.expression.Expr.TheOpen as o
use Rattle.elab_types.specs.declared.flat_source.FlatVar.{FlatVar}
use Rattle.elab_types.specs.declared.flat_expression.FlatExpr.{FlatExpr}
use Rattle.elab_types.specs.declared.flat_expression.FlatExpr.TheVariants as e
use Rattle.elab_types.specs.declared.flat_expression.FlatExpr.TheOpen as x
use Rattle.elab_types.specs.declared.flat_expression.FlatSelect.{FlatSelect}
use Rattle.source_meaning.specs.Meaning.{Meaning, fixed_integer}
use Rattle.source_meaning.specs.Operators.{unary_of, binary_of, chosen}
use Rattle.source_meaning.specs.Joins.{joined, repeated, called, objects_of}
use Rattle.source_meaning.specs.Expressions as source
use Rattle.scope_meaning.specs.Constants.{Wrong, Read, node, is_wrong, either_wrong, any_wrong, is_size, is_number, is_low}
use Rattle.scope_meaning.specs.Constants as constants
use Rattle.flat_meaning.specs.Expressions.{expression, meaning}
use Rattle.flat_meaning.specs.Faults.{check, stands, meanings, all_selects, all_sizes}
use Rattle.flat_meaning.proofs.Meanings as of
use Rattle.design_meaning.proofs.ListLaws.{left_true, right_true, and_from}
use Rattle.lower_meaning.specs.Constants.{nameless, said}
use Rattle.lower_meaning.proofs.CheckFolds as folds
use Rattle.lower_meaning.proofs.CheckMeans.{check_means}
use Rattle.lower_meaning.proofs.SaidFolds as says
use Rattle.lower_meaning.proofs.FlatInduction.{Some, alone, flat_induction}

-- ---- flags

left_none : (a b : Bool) → (a || b) ≡ false → a ≡ false
left_none true b h = h
left_none false b h = refl

right_none : (a b : Bool) → (a || b) ≡ false → b ≡ false
right_none true true h = h
right_none true false h = refl
right_none false b h = h

none_of_three : (a b c : Bool) → a ≡ false → b ≡ false → c ≡ false → ((a || b) || c) ≡ false
none_of_three a b c h k l = ap (λ z. (z || b) || c) h ∙ ap (λ z. z || c) k ∙ l

pub first_right : (v w : Wrong) → is_wrong (either_wrong v w) ≡ false → is_wrong v ≡ false
first_right v w h =
    let names = left_none ((v.name || w.name) || (v.select || w.select)) (v.wide || w.wide) h in
    none_of_three v.name v.select v.wide
    (left_none v.name w.name (left_none (v.name || w.name) (v.select || w.select) names))
    (left_none v.select w.select (right_none (v.name || w.name) (v.select || w.select) names))
    (left_none v.wide w.wide (right_none ((v.name || w.name) || (v.select || w.select)) (v.wide || w.wide) h))

pub second_right : (v w : Wrong) → is_wrong (either_wrong v w) ≡ false → is_wrong w ≡ false
second_right v w h =
    let names = left_none ((v.name || w.name) || (v.select || w.select)) (v.wide || w.wide) h in
    none_of_three w.name w.select w.wide
    (right_none v.name w.name (left_none (v.name || w.name) (v.select || w.select) names))
    (right_none v.select w.select (right_none (v.name || w.name) (v.select || w.select) names))
    (right_none v.wide w.wide (right_none ((v.name || w.name) || (v.select || w.select)) (v.wide || w.wide) h))

not_false : (b : Bool) → not b ≡ false → b ≡ true
not_false true h = refl
not_false false h = sym h

no : {A : Type 0} → true ≡ false → A
no e = cc

unless_wrong : (a b : Bool) → a ≡ false → (not a && not b) ≡ false → b ≡ true
unless_wrong true b h k = no h
unless_wrong false b h k = not_false b k

-- ---- operators

small_max : (m n : ℕ) → nat_le m 128 ≡ true → nat_le n 128 ≡ true → nat_le (max m n) 128 ≡ true
small_max m n h k = grind (arith)

pub unary_plain : (op : UnaryOp) (m : Meaning) → (unary_of op m).objects ≡ []
unary_plain unary.Plus m = refl
unary_plain _ m = refl

pub unary_small : (op : UnaryOp) (m : Meaning) → nat_le m.size 128 ≡ true → nat_le (unary_of op m).size 128 ≡ true
unary_small unary.Plus m h = h
unary_small unary.Minus m h = h
unary_small unary.Complement m h = h
unary_small _ m h = refl

pub binary_plain : (op : BinaryOp) (m n : Meaning) → (binary_of op m n).objects ≡ []
binary_plain binary.Add m n = refl
binary_plain _ m n = refl

pub binary_small : (op : BinaryOp) (m n : Meaning) → nat_le m.size 128 ≡ true → nat_le n.size 128 ≡ true → nat_le (binary_of op m n).size 128 ≡ true
binary_small binary.Add m n h k = small_max m.size n.size h k
binary_small binary.Subtract m n h k = small_max m.size n.size h k
binary_small binary.Multiply m n h k = small_max m.size n.size h k
binary_small binary.Divide m n h k = small_max m.size n.size h k
binary_small binary.Remainder m n h k = small_max m.size n.size h k
binary_small binary.And m n h k = small_max m.size n.size h k
binary_small binary.Or m n h k = small_max m.size n.size h k
binary_small binary.Xor m n h k = small_max m.size n.size h k
binary_small binary.TildeCaret m n h k = small_max m.size n.size h k
binary_small binary.CaretTilde m n h k = small_max m.size n.size h k
binary_small binary.ShiftLeft m n h k = h
binary_small binary.ArithmeticShiftLeft m n h k = h
binary_small binary.ShiftRight m n h k = h
binary_small binary.ArithmeticShiftRight m n h k = h
binary_small _ m n h k = refl

pub called_plain : (f : SystemCall) (m : Meaning) → (called f m).objects ≡ []
called_plain call.Signed m = refl
called_plain _ m = refl

pub called_small : (f : SystemCall) (m : Meaning) → nat_le m.size 128 ≡ true → nat_le (called f m).size 128 ≡ true
called_small call.Signed m h = h
called_small call.Unsigned m h = h
called_small call.CeilLog2 m h = refl

-- ---- constants

module _ (vars : List FlatVar) where
  -- A constant means what it says, names nothing, and is not refused.
  pub record Right (a : FlatExpr) : Type 0 where
    pub means : (said a).meaning ≡ meaning vars a
    pub plain : (meaning vars a).objects ≡ []
    pub small : nat_le (meaning vars a).size 128 ≡ true
    pub selects : (check vars a).selects ≡ true
    pub sizes : (check vars a).sizes ≡ true

  abbrev IsRight : FlatExpr → Type 0
  IsRight a = is_wrong (said a).wrong ≡ false → Right a

  -- the same of several
  record AllRight (parts : List FlatExpr) : Type 0 where
    means : constants.meanings (map said parts) ≡ map (meaning vars) parts
    plain : objects_of (map (meaning vars) parts) ≡ []
    selects : all_selects (map (check vars) parts) ≡ true
    sizes : all_sizes (map (check vars) parts) ≡ true

  all_right : (parts : List (Some IsRight)) → is_wrong (any_wrong (map said (alone parts))) ≡ false → AllRight (alone parts)
  all_right [] h = record { means = refl; plain = refl; selects = refl; sizes = refl }
  all_right (p ∷ parts) h =
      let a = p.0 in
      let first = p.1 (first_right (said a).wrong (any_wrong (map said (alone parts))) h) in
      let rest = all_right parts (second_right (said a).wrong (any_wrong (map said (alone parts))) h) in
      record {
        means = ap₂ (λ m ms. m ∷ ms) first.means rest.means;
        plain = ap₂ (λ os ps. os ++ ps) first.plain rest.plain;
        selects = and_from (check vars a).selects (all_selects (map (check vars) (alone parts))) first.selects rest.selects;
        sizes = and_from (check vars a).sizes (all_sizes (map (check vars) (alone parts))) first.sizes rest.sizes;
      }

  -- what is checked is small where the meaning is
  small_checked : (a : FlatExpr) → Right a → nat_le (check vars a).meaning.size 128 ≡ true
  small_checked a r = ap (λ m. nat_le m.size 128) (check_means vars a) ∙ r.small

  number_right : (w : ℕ) (signed : Bool) (n free : ℕ) → IsRight (e.Number w signed n free)
  number_right w signed n free h =
      let fits = not_false (is_number w n) (sym (ap (λ r. is_wrong r.wrong) (says.said-Number w signed n free)) ∙ h) in
      let small = right_true (nat_le 1 w) (nat_le w 128) (left_true (is_size w) (nat_lt n (2 ^ w)) fits) in
      record {
        means = ap (λ r. r.meaning) (says.said-Number w signed n free) ∙ sym (of.of-Number vars w signed n free);
        plain = ap (λ m. m.objects) (of.of-Number vars w signed n free);
        small = ap (λ m. nat_le m.size 128) (of.of-Number vars w signed n free) ∙ small;
        selects = ap (λ c. c.selects) (folds.checked-Number vars w signed n free);
        sizes = ap (λ c. c.sizes) (folds.checked-Number vars w signed n free) ∙ small;
      }

  unary_right : (op : UnaryOp) (a : FlatExpr) → IsRight a → IsRight (e.Unary op a)
  unary_right op a k h =
      let r = k (sym (ap (λ r. is_wrong r.wrong) (says.said-Unary op a)) ∙ h) in
      let c = check vars a in
      record {
        means = ap (λ r. r.meaning) (says.said-Unary op a) ∙ ap (unary_of op) r.means ∙ sym (of.of-Unary vars op a);
        plain = ap (λ m. m.objects) (of.of-Unary vars op a) ∙ unary_plain op (meaning vars a);
        small = ap (λ m. nat_le m.size 128) (of.of-Unary vars op a) ∙ unary_small op (meaning vars a) r.small;
        selects = ap (λ c. c.selects) (folds.checked-Unary vars op a)
            ∙ and_from c.selects (stands (unary_of op c.meaning).objects) r.selects (ap stands (unary_plain op c.meaning));
        sizes = ap (λ c. c.sizes) (folds.checked-Unary vars op a)
            ∙ and_from c.sizes (nat_le (unary_of op c.meaning).size 128) r.sizes (unary_small op c.meaning (small_checked a r));
      }

  binary_right : (op : BinaryOp) (a b : FlatExpr) → IsRight a → IsRight b → IsRight (e.Binary op a b)
  binary_right op a b k l h =
      let w = sym (ap (λ r. is_wrong r.wrong) (says.said-Binary op a b)) ∙ h in
      let r = k (first_right (said a).wrong (said b).wrong w) in
      let s = l (second_right (said a).wrong (said b).wrong w) in
      let c = check vars a in
      let d = check vars b in
      record {
        means = ap (λ r. r.meaning) (says.said-Binary op a b) ∙ ap₂ (binary_of op) r.means s.means ∙ sym (of.of-Binary vars op a b);
        plain = ap (λ m. m.objects) (of.of-Binary vars op a b) ∙ binary_plain op (meaning vars a) (meaning vars b);
        small = ap (λ m. nat_le m.size 128) (of.of-Binary vars op a b) ∙ binary_small op (meaning vars a) (meaning vars b) r.small s.small;
        selects = ap (λ c. c.selects) (folds.checked-Binary vars op a b)
            ∙ and_from (c.selects && d.selects) (stands (binary_of op c.meaning d.meaning).objects)
            (and_from c.selects d.selects r.selects s.selects) (ap stands (binary_plain op c.meaning d.meaning));
        sizes = ap (λ c. c.sizes) (folds.checked-Binary vars op a b)
            ∙ and_from (c.sizes && d.sizes) (nat_le (binary_of op c.meaning d.meaning).size 128)
            (and_from c.sizes d.sizes r.sizes s.sizes) (binary_small op c.meaning d.meaning (small_checked a r) (small_checked b s));
      }

  choose_right : (test a b : FlatExpr) → IsRight test → IsRight a → IsRight b → IsRight (e.Choose test a b)
  choose_right test a b j k l h =
      let w = sym (ap (λ r. is_wrong r.wrong) (says.said-Choose test a b)) ∙ h in
      let arms = second_right (said test).wrong (either_wrong (said a).wrong (said b).wrong) w in
      let q = j (first_right (said test).wrong (either_wrong (said a).wrong (said b).wrong) w) in
      let r = k (first_right (said a).wrong (said b).wrong arms) in
      let s = l (second_right (said a).wrong (said b).wrong arms) in
      let t = check vars test in
      let c = check vars a in
      let d = check vars b in
      record {
        means = ap (λ r. r.meaning) (says.said-Choose test a b)
            ∙ ap (λ m. chosen m (said a).meaning (said b).meaning) q.means ∙ ap₂ (chosen (meaning vars test)) r.means s.means
            ∙ sym (of.of-Choose vars test a b);
        plain = ap (λ m. m.objects) (of.of-Choose vars test a b);
        small = ap (λ m. nat_le m.size 128) (of.of-Choose vars test a b) ∙ small_max (meaning vars a).size (meaning vars b).size r.small s.small;
        selects = ap (λ c. c.selects) (folds.checked-Choose vars test a b)
            ∙ and_from (t.selects && c.selects && d.selects) true
            (and_from (t.selects && c.selects) d.selects (and_from t.selects c.selects q.selects r.selects) s.selects) refl;
        sizes = ap (λ c. c.sizes) (folds.checked-Choose vars test a b)
            ∙ and_from (t.sizes && c.sizes && d.sizes) (nat_le (max c.meaning.size d.meaning.size) 128)
            (and_from (t.sizes && c.sizes) d.sizes (and_from t.sizes c.sizes q.sizes r.sizes) s.sizes)
            (small_max c.meaning.size d.meaning.size (small_checked a r) (small_checked b s));
      }

  call_right : (f : SystemCall) (a : FlatExpr) → IsRight a → IsRight (e.Call f a)
  call_right f a k h =
      let r = k (sym (ap (λ r. is_wrong r.wrong) (says.said-Call f a)) ∙ h) in
      let c = check vars a in
      record {
        means = ap (λ r. r.meaning) (says.said-Call f a) ∙ ap (called f) r.means ∙ sym (of.of-Call vars f a);
        plain = ap (λ m. m.objects) (of.of-Call vars f a) ∙ called_plain f (meaning vars a);
        small = ap (λ m. nat_le m.size 128) (of.of-Call vars f a) ∙ called_small f (meaning vars a) r.small;
        selects = ap (λ c. c.selects) (folds.checked-Call vars f a)
            ∙ and_from c.selects (stands (called f c.meaning).objects) r.selects (ap stands (called_plain f c.meaning));
        sizes = ap (λ c. c.sizes) (folds.checked-Call vars f a)
            ∙ and_from c.sizes (nat_le (called f c.meaning).size 128) r.sizes (called_small f c.meaning (small_checked a r));
      }

  join_right : (parts : List (Some IsRight)) → IsRight (e.Join (alone parts))
  join_right parts h =
      let ps = alone parts in
      let w = sym (ap (λ r. is_wrong r.wrong) (says.said-Join ps)) ∙ h in
      let m = joined (constants.meanings (map said ps)) in
      let wide : Wrong = record { name = false; select = false; wide = not (is_size m.size) } in
      let r = all_right parts (first_right (any_wrong (map said ps)) wide w) in
      let fits = right_true (nat_le 1 m.size) (nat_le m.size 128) (not_false (is_size m.size) (second_right (any_wrong (map said ps)) wide w)) in
      let small : nat_le (joined (map (meaning vars) ps)).size 128 ≡ true = ap (λ ms. nat_le (joined ms).size 128) (sym r.means) ∙ fits in
      record {
        means = ap (λ r. r.meaning) (says.said-Join ps) ∙ ap joined r.means ∙ sym (of.of-Join vars ps);
        plain = ap (λ m. m.objects) (of.of-Join vars ps) ∙ r.plain;
        small = ap (λ m. nat_le m.size 128) (of.of-Join vars ps) ∙ small;
        selects = ap (λ c. c.selects) (folds.checked-Join vars ps) ∙ r.selects;
        sizes = ap (λ c. c.sizes) (folds.checked-Join vars ps)
            ∙ and_from (all_sizes (map (check vars) ps)) (nat_le (joined (meanings (map (check vars) ps))).size 128) r.sizes
            (ap (λ m. nat_le m.size 128) (sym (ap (λ c. c.meaning) (folds.checked-Join vars ps)) ∙ check_means vars (e.Join ps) ∙ of.of-Join vars ps) ∙ small);
      }

  repeat_right : (count : FlatExpr) (parts : List (Some IsRight)) → IsRight count → IsRight (e.Repeat count (alone parts))
  repeat_right count parts k h =
      let ps = alone parts in
      let c = said count in
      let w = sym (ap (λ r. is_wrong r.wrong) (says.said-Repeat count ps)) ∙ h in
      let m = repeated c.meaning (constants.meanings (map said ps)) in
      let both = either_wrong c.wrong (any_wrong (map said ps)) in
      let own : Wrong = record { name = false; select = is_low c; wide = not (is_wrong c.wrong) && not (is_size m.size) } in
      let calm = first_right c.wrong (any_wrong (map said ps)) (first_right both own w) in
      let r = k calm in
      let s = all_right parts (second_right c.wrong (any_wrong (map said ps)) (first_right both own w)) in
      let low = left_none (is_low c) own.wide (second_right both own w) in
      let fits = unless_wrong (is_wrong c.wrong) (is_size m.size) calm (right_none (is_low c) own.wide (second_right both own w)) in
      let some = unless_wrong (is_wrong c.wrong) (int_le (pos 1) (fixed_integer c.meaning)) calm low in
      let small : nat_le (repeated (meaning vars count) (map (meaning vars) ps)).size 128 ≡ true =
      ap₂ (λ n ms. nat_le (repeated n ms).size 128) (sym r.means) (sym s.means) ∙ right_true (nat_le 1 m.size) (nat_le m.size 128) fits in
      let d = check vars count in
      record {
        means = ap (λ r. r.meaning) (says.said-Repeat count ps) ∙ ap₂ repeated r.means s.means ∙ sym (of.of-Repeat vars count ps);
        plain = ap (λ m. m.objects) (of.of-Repeat vars count ps);
        small = ap (λ m. nat_le m.size 128) (of.of-Repeat vars count ps) ∙ small;
        selects = ap (λ c. c.selects) (folds.checked-Repeat vars count ps)
            ∙ and_from (d.selects && all_selects (map (check vars) ps) && int_le (pos 1) (fixed_integer d.meaning)) true
            (and_from (d.selects && all_selects (map (check vars) ps)) (int_le (pos 1) (fixed_integer d.meaning))
            (and_from d.selects (all_selects (map (check vars) ps)) r.selects s.selects)
            (ap (λ n. int_le (pos 1) (fixed_integer n)) (check_means vars count ∙ sym r.means) ∙ some)) refl;
        sizes = ap (λ c. c.sizes) (folds.checked-Repeat vars count ps)
            ∙ and_from (d.sizes && all_sizes (map (check vars) ps)) (nat_le (repeated d.meaning (meanings (map (check vars) ps))).size 128)
            (and_from d.sizes (all_sizes (map (check vars) ps)) r.sizes s.sizes)
            (ap (λ m. nat_le m.size 128) (sym (ap (λ c. c.meaning) (folds.checked-Repeat vars count ps)) ∙ check_means vars (e.Repeat count ps)
            ∙ of.of-Repeat vars count ps) ∙ small);
      }

  -- what stands for no constant is wrong
  never_right : (a : FlatExpr) → is_wrong (said a).wrong ≡ true → IsRight a
  never_right a h k = no (sym h ∙ k)

  pub right : (a : FlatExpr) → is_wrong (said a).wrong ≡ false → Right a
  right = flat_induction IsRight (λ s. Unit {0})
      number_right
      (λ k. never_right (e.Var k) (ap (λ r. is_wrong r.wrong) (says.said-Var k)))
      (λ base s h k. never_right (e.Select base s) (ap (λ r. is_wrong r.wrong) (says.said-Select base s)))
      unary_right binary_right choose_right join_right (λ count parts k. repeat_right count parts k) call_right
      (λ i h. tt) (λ a b h k. tt) (λ a b h k. tt) (λ a b h k. tt)
