-- A typed expression is constant exactly where the source's is, which reads the words alone of a state: by induction on how it
-- is the typed form.
use Rattle.std.proofs.Common.{◌≡◌, ◌∙◌, sym, ap, ap₂, refl, subst, ℕ, suc, ◌+◌, ◌*◌, ◌-◌, Bool, true, false, ◌&&◌, List, [], ◌∷◌, map, is_some, ℤ, pos, ◌-ℤ◌}
use Rattle.std.specs.List.{list_all}
use Rattle.bit_values.specs.Values as value
use Rattle.vlog_tree.specs.declared.operator.UnaryOp.{UnaryOp}
use Rattle.vlog_tree.specs.declared.operator.UnaryOp.TheVariants as unary
use Rattle.vlog_tree.specs.declared.operator.BinaryOp.{BinaryOp}
use Rattle.vlog_tree.specs.declared.operator.SystemCall.TheVariants as call
use Rattle.elab_types.specs.declared.flat_source.FlatVar.{FlatVar}
use Rattle.elab_types.specs.declared.flat_expression.FlatExpr.{FlatExpr}
use Rattle.elab_types.specs.declared.flat_expression.FlatExpr.TheVariants as e
use Rattle.elab_types.specs.declared.flat_expression.FlatSelect.{FlatSelect}
use Rattle.elab_types.specs.declared.flat_expression.FlatSelect.TheVariants as select
use Rattle.design_tree.specs.declared.operator.TypedUnary.TheVariants as one
use Rattle.design_tree.specs.declared.typed.Index.{Index}
use Rattle.design_tree.specs.declared.typed.Typed.{Typed}
use Rattle.design_tree.specs.declared.typed.Typed.TheVariants as t
use Rattle.circuit_run.specs.States.{State, held, word_at}
use Rattle.source_meaning.specs.Meaning.{Meaning, Object, whole, own, in_size, integer, fixed_integer, fixed_value, at_least_0, total_size, all_constant}
use Rattle.source_meaning.specs.Selects as sel
use Rattle.source_meaning.specs.Selects.{less, meaning_of_object, object_size, read}
use Rattle.source_meaning.specs.Operators.{unary_of, binary_of}
use Rattle.source_meaning.specs.Operators as operators
use Rattle.source_meaning.specs.Joins.{joined_value, copies, ceil_log2}
use Rattle.flat_meaning.specs.Expressions.{meaning, variable_of}
use Rattle.flat_meaning.proofs.Meanings.{selection_of, of-Number, of-Unary, of-Binary, of-Choose, of-Join, of-Repeat, of-Call}
use Rattle.flat_meaning.proofs.Meanings.{of-At, of-Between, of-Up, of-Down}
use Rattle.design_meaning.specs.Spans.{node_constant, index_constant, is_constant}
use Rattle.design_meaning.proofs.Constants.{constant}
use Rattle.design_meaning.proofs.ListLaws.{left_true, right_true}
use Rattle.design_meaning.proofs.TypedFolds as folds
use Rattle.typed_form.specs.Nodes.{widened, test, reduction, comparison, logical}
use Rattle.typed_form.specs.TypedExpressions.{IsTyped, IsTypedAlone, IsSelect, IsPosition, AreJoined, number, var, plus, minus, complement, reduced}
use Rattle.typed_form.specs.TypedExpressions.{computed, shifted, compared, tested, chosen, join, repeat, as_signed, as_unsigned, logarithm, alone, index}
use Rattle.typed_form.specs.TypedExpressions as typed
use Rattle.typed_form.specs.TypedLaws.{HasWidths}
use Rattle.typed_form.proofs.KeepsValue.{var_means, word_selects, part_selects, word_part_selects, keeps_alone, keeps_position}
use Rattle.typed_drive_laws.proofs.Fixed.{fixed, fixed_select, fixed-Select, fixed-Unary, fixed-Binary, fixed-Choose, fixed-Join, fixed-Repeat, fixed-Call}
use Rattle.typed_drive_laws.proofs.Fixed.{fixed-At, fixed-Up, fixed-Down}
use Rattle.typed_drive_laws.proofs.NodeConstants.{use_one, use_two, unary_node, widened_node, reduction_node, arithmetic_node, shift_node, comparison_node}
use Rattle.typed_drive_laws.proofs.NodeConstants.{logical_node}
use Rattle.typed_drive_laws.proofs.OneWay.{SameValue, unary_same, binary_same, same_integer, unary_constant, binary_constant, frozen}

and_true : (a : Bool) → (a && true) ≡ a
and_true true = refl
and_true false = refl

pub index_node : (low : ℕ) (signed : Bool) (a : Typed) → is_constant (index low signed a) ≡ constant a
index_node low signed a = folds.fold-index Bool Bool node_constant index_constant low signed a

number_node : (w n : ℕ) → constant (t.Number w n) ≡ true
number_node w n = folds.fold-Number Bool Bool node_constant index_constant w n

module _ (vars : List FlatVar) (s u : State) (widths : HasWidths vars s) (holds : (k : ℕ) (z : ℤ) → word_at (held s k) z ≡ word_at (held u k) z) where
  abbrev mean : FlatExpr → Meaning
  mean = meaning vars

  -- The meaning is constant exactly where the typed expression is, and has one value in both states.
  pub record Alike (m : Meaning) (a : Typed) : Type 0 where
    pub values : SameValue s u m
    pub constants : constant a ≡ m.constant

  -- A select names an object that reads the same in both states, and its node isn't constant.
  record AlikeSelect (base : FlatExpr) (which : FlatSelect) (a : Typed) : Type 0 where
    object : Object
    means : mean (e.Select base which) ≡ meaning_of_object object
    reads : read object s ≡ read object u
    never : constant a ≡ false

  -- A position is the same in both states, and constant on both sides or on neither.
  pub record AlikePosition (low : ℕ) (which : FlatSelect) (at : Index) : Type 0 where
    pub place : (sel.position low (selection_of vars which)).at s ≡ (sel.position low (selection_of vars which)).at u
    pub constants : is_constant at ≡ (sel.position low (selection_of vars which)).fixed

  record AlikeParts (parts : List Meaning) (a : Typed) : Type 0 where
    values : joined_value parts s ≡ joined_value parts u
    constants : constant a ≡ all_constant parts

  same_own : (x : Meaning) → SameValue s u x → own x s ≡ own x u
  same_own x h = ap (λ f. f x.size x.signed) h

  object_alike : (o : Object) (size n : ℕ) (by_sign : Bool) (a : Typed) → read o s ≡ read o u → constant a ≡ false
      → Alike (meaning_of_object o) (widened size n by_sign a)
  object_alike o size n by_sign a reads never = record {
    values = ap (λ x n b. in_size (object_size o) n b x) reads;
    constants = widened_node size n by_sign a ∙ never;
  }

  binary_alike : (op : BinaryOp) (left right : FlatExpr) (c : Typed) (a b : Typed) → constant c ≡ (constant a && constant b)
      → Alike (mean left) a → Alike (mean right) b → Alike (mean (e.Binary op left right)) c
  binary_alike op left right c a b h x y = subst (λ z. Alike z c) (sym (of-Binary vars op left right)) (record {
    values = binary_same s u op (mean left) (mean right) x.values y.values;
    constants = h ∙ ap₂ ◌&&◌ x.constants y.constants ∙ sym (binary_constant op (mean left) (mean right));
  })

  unary_alike : (op : UnaryOp) (of : FlatExpr) (c a : Typed) → constant c ≡ constant a → Alike (mean of) a → Alike (mean (e.Unary op of)) c
  unary_alike op of c a h x = subst (λ z. Alike z c) (sym (of-Unary vars op of)) (record {
    values = unary_same s u op (mean of) x.values;
    constants = h ∙ x.constants ∙ sym (unary_constant op (mean of));
  })

  left_fixed : (op : BinaryOp) (left right : FlatExpr) → fixed vars (e.Binary op left right) ≡ true → fixed vars left ≡ true
  left_fixed op left right f = left_true (fixed vars left) (fixed vars right) (sym (fixed-Binary vars op left right) ∙ f)

  right_fixed : (op : BinaryOp) (left right : FlatExpr) → fixed vars (e.Binary op left right) ≡ true → fixed vars right ≡ true
  right_fixed op left right f = right_true (fixed vars left) (fixed vars right) (sym (fixed-Binary vars op left right) ∙ f)

  choice_values : (c a b : Meaning) → SameValue s u c → SameValue s u a → SameValue s u b → SameValue s u (operators.chosen c a b)
  choice_values c a b hc ha hb =
      ap (λ f. (operators.chosen (frozen f c) (frozen (a.value s) a) (frozen (b.value s) b)).value []) hc
      ∙ ap₂ (λ f g. (operators.chosen (frozen (c.value u) c) (frozen f a) (frozen g b)).value []) ha hb

  mutual
    pub alike : {of : FlatExpr} {n : ℕ} {by_sign : Bool} {a : Typed} → IsTyped vars of n by_sign a → fixed vars of ≡ true → Alike (mean of) a
    alike (number {w} {x} {free} {n} {sg} {by_sign}) f =
        subst (λ z. Alike z (widened w n by_sign (t.Number w x))) (sym (of-Number vars w sg x free))
        (record { values = refl; constants = widened_node w n by_sign (t.Number w x) ∙ number_node w x })
    alike (var {k} {n} {by_sign} {v} p) f =
        subst (λ z. Alike z (widened v.width n by_sign (t.Var k))) (sym (var_means vars s widths k v p.0))
        (object_alike (whole (variable_of k v)) v.width n by_sign (t.Var k) (holds k (pos 0)) (folds.fold-Var Bool Bool node_constant index_constant k))
    alike (typed.selected {n} {by_sign} {base} {s = which} {a} d) f =
        let k = alike_select d (sym (fixed-Select vars base which) ∙ f) in
        subst (λ z. Alike z (widened (mean (e.Select base which)).size n by_sign a)) (sym k.means)
        (object_alike k.object (mean (e.Select base which)).size n by_sign a k.reads k.never)
    alike (plus {n} {by_sign} {of} {a} d) f = unary_alike unary.Plus of a a refl (alike d (sym (fixed-Unary vars unary.Plus of) ∙ f))
    alike (minus {n} {by_sign} {of} {a} d) f =
        unary_alike unary.Minus of (t.Unary one.Neg a) a (unary_node one.Neg a) (alike d (sym (fixed-Unary vars unary.Minus of) ∙ f))
    alike (complement {n} {by_sign} {of} {a} d) f =
        unary_alike unary.Complement of (t.Unary one.Not a) a (unary_node one.Not a) (alike d (sym (fixed-Unary vars unary.Complement of) ∙ f))
    alike (reduced {op} {f = node} {n} {by_sign} {of} {a} p d) f =
        subst (λ g. Alike (mean (e.Unary op of)) (widened 1 n by_sign (use_one g a))) p
        (unary_alike op of _ a (widened_node 1 n by_sign (use_one (reduction op) a) ∙ reduction_node op a (ap is_some p))
        (alike_alone d (sym (fixed-Unary vars op of) ∙ f)))
    alike (computed {op} {f = node} {n} {by_sign} {left} {right} {a} {b} p da db) f =
        subst (λ g. Alike (mean (e.Binary op left right)) (use_two g a b)) p
        (binary_alike op left right _ a b (arithmetic_node op by_sign a b (ap is_some p)) (alike da (left_fixed op left right f))
        (alike db (right_fixed op left right f)))
    alike (shifted {op} {f = node} {n} {by_sign} {left} {right} {a} {b} p da db) f =
        subst (λ g. Alike (mean (e.Binary op left right)) (use_two g a b)) p
        (binary_alike op left right _ a b (shift_node op by_sign a b (ap is_some p)) (alike da (left_fixed op left right f))
        (alike_alone db (right_fixed op left right f)))
    alike (compared {op} {f = node} {n} {by_sign} {left} {right} {a} {b} p da db) f =
        let sign = (mean left).signed && (mean right).signed in
        subst (λ g. Alike (mean (e.Binary op left right)) (widened 1 n by_sign (use_two g a b))) p
        (binary_alike op left right _ a b
        (widened_node 1 n by_sign (use_two (comparison op sign) a b) ∙ comparison_node op sign a b (ap is_some p))
        (alike da (left_fixed op left right f)) (alike db (right_fixed op left right f)))
    alike (tested {op} {f = node} {n} {by_sign} {left} {right} {a} {b} p da db) f =
        subst (λ g. Alike (mean (e.Binary op left right)) (widened 1 n by_sign (use_two g a b))) p
        (binary_alike op left right _ a b (widened_node 1 n by_sign (use_two (logical op) a b) ∙ logical_node op a b (ap is_some p))
        (alike_alone da (left_fixed op left right f)) (alike_alone db (right_fixed op left right f)))
    alike (chosen {n} {by_sign} {on} {left} {right} {c} {a} {b} dc da db) f =
        let fs = sym (fixed-Choose vars on left right) ∙ f in
        let two_fixed = left_true (fixed vars on && fixed vars left) (fixed vars right) fs in
        let x = alike_alone dc (left_true (fixed vars on) (fixed vars left) two_fixed) in
        let y = alike da (right_true (fixed vars on) (fixed vars left) two_fixed) in
        let z = alike db (right_true (fixed vars on && fixed vars left) (fixed vars right) fs) in
        subst (λ w. Alike w (t.Choose (test c) a b)) (sym (of-Choose vars on left right)) (record {
          values = choice_values (mean on) (mean left) (mean right) x.values y.values z.values;
          constants =
              folds.fold-Choose Bool Bool node_constant index_constant (test c) a b
              ∙ ap (λ k. k && constant a && constant b) (unary_node one.ReduceOr c ∙ x.constants)
              ∙ ap₂ (λ k l. (mean on).constant && k && l) y.constants z.constants;
        })
    alike (join {n} {by_sign} {parts} {a} d) f =
        let k = alike_joined d (sym (fixed-Join vars parts) ∙ f) in
        subst (λ z. Alike z (widened (mean (e.Join parts)).size n by_sign a)) (sym (of-Join vars parts)) (record {
          values = ap (λ x n b. in_size (total_size (map mean parts)) n b x) k.values;
          constants = widened_node (mean (e.Join parts)).size n by_sign a ∙ k.constants;
        })
    alike (repeat {n} {k} {by_sign} count {parts} {a} p d) f =
        let fs = sym (fixed-Repeat vars count parts) ∙ f in
        let ms = map mean parts in
        let many = at_least_0 (fixed_integer (mean count)) in
        let j = alike_joined d (right_true ((mean count).constant && fixed vars count) (list_all (fixed vars) parts) fs) in
        let c = left_true (mean count).constant (fixed vars count) (left_true ((mean count).constant && fixed vars count) (list_all (fixed vars) parts) fs) in
        subst (λ z. Alike z (widened (mean (e.Repeat count parts)).size n by_sign (t.Repeat (suc k) a))) (sym (of-Repeat vars count parts)) (record {
          values = ap (λ x n b. in_size (many * total_size ms) n b (copies many (total_size ms) x)) j.values;
          constants =
              widened_node (mean (e.Repeat count parts)).size n by_sign (t.Repeat (suc k) a)
              ∙ folds.fold-Repeat Bool Bool node_constant index_constant (suc k) a
              ∙ j.constants ∙ sym (ap (λ x. x && all_constant ms) c);
        })
    alike (as_signed {n} {by_sign} {of} {a} d) f =
        let x = alike_alone d (right_true true (fixed vars of) (sym (fixed-Call vars call.Signed of) ∙ f)) in
        subst (λ z. Alike z (widened (mean of).size n by_sign a)) (sym (of-Call vars call.Signed of)) (record {
          values = ap (λ g n b. in_size (mean of).size n b (g (mean of).size (mean of).signed)) x.values;
          constants = widened_node (mean of).size n by_sign a ∙ x.constants;
        })
    alike (as_unsigned {n} {by_sign} {of} {a} d) f =
        let x = alike_alone d (right_true true (fixed vars of) (sym (fixed-Call vars call.Unsigned of) ∙ f)) in
        subst (λ z. Alike z (widened (mean of).size n by_sign a)) (sym (of-Call vars call.Unsigned of)) (record {
          values = ap (λ g n b. in_size (mean of).size n b (g (mean of).size (mean of).signed)) x.values;
          constants = widened_node (mean of).size n by_sign a ∙ x.constants;
        })
    alike (logarithm {n} {by_sign} of) f =
        let log = t.Number 32 (ceil_log2 (fixed_value (mean of))) in
        subst (λ z. Alike z (widened 32 n by_sign log)) (sym (of-Call vars call.CeilLog2 of)) (record {
          values = refl;
          constants = widened_node 32 n by_sign log ∙ number_node 32 (ceil_log2 (fixed_value (mean of)))
              ∙ sym (left_true (mean of).constant (fixed vars of) (sym (fixed-Call vars call.CeilLog2 of) ∙ f));
        })

    pub alike_alone : {of : FlatExpr} {a : Typed} → IsTypedAlone vars of a → fixed vars of ≡ true → Alike (mean of) a
    alike_alone (alone d) f = alike d f

    alike_select : {base : FlatExpr} {which : FlatSelect} {a : Typed} → IsSelect vars base which a
        → (fixed vars base && fixed_select vars which) ≡ true → AlikeSelect base which a
    alike_select (typed.word {k} {v} {i} {a} p d) f =
        let x = alike_alone d (sym (fixed-At vars i) ∙ right_true (fixed vars (e.Var k)) (fixed_select vars (select.At i)) f) in
        let the_word = word_selects vars s widths k v i a p (keeps_alone vars s widths d) in
        record {
          object = the_word.object;
          means = the_word.means;
          reads = holds k (integer (mean i) s -ℤ pos v.word_low)
              ∙ ap (λ z. word_at (held u k) (z -ℤ pos v.word_low)) (same_integer s u (mean i) x.values);
          never = folds.fold-Word Bool Bool node_constant index_constant k (index v.word_low (mean i).signed a);
        }
    alike_select (typed.part {k} {w} {v} {s = which} {at} p d) f =
        let x = alike_position d (right_true (fixed vars (e.Var k)) (fixed_select vars which) f) in
        let the_part = part_selects vars s widths k w v which at p (keeps_position vars s widths d) in
        record {
          object = the_part.object;
          means = the_part.means;
          reads = ap₂ (value.select (sel.width_of (selection_of vars which))) (holds k (pos 0)) x.place;
          never = folds.fold-Part Bool Bool node_constant index_constant w (t.Var k) at
              ∙ ap (λ c. c && is_constant at) (folds.fold-Var Bool Bool node_constant index_constant k);
        }
    alike_select (typed.word_part {w} k {v} i {s = which} {a} {at} p da d) f =
        let base = left_true (fixed vars (e.Select (e.Var k) (select.At i))) (fixed_select vars which) f in
        let x = alike_alone da (sym (fixed-At vars i)
        ∙ right_true (fixed vars (e.Var k)) (fixed_select vars (select.At i)) (sym (fixed-Select vars (e.Var k) (select.At i)) ∙ base)) in
        let y = alike_position d (right_true (fixed vars (e.Select (e.Var k) (select.At i))) (fixed_select vars which) f) in
        let the_part = word_part_selects vars s widths k w v i which a at p (keeps_alone vars s widths da) (keeps_position vars s widths d) in
        record {
          object = the_part.object;
          means = the_part.means;
          reads = ap₂ (value.select (sel.width_of (selection_of vars which)))
              (holds k (integer (mean i) s -ℤ pos v.word_low)
              ∙ ap (λ z. word_at (held u k) (z -ℤ pos v.word_low)) (same_integer s u (mean i) x.values)) y.place;
          never = folds.fold-Part Bool Bool node_constant index_constant w (t.Word k (index v.word_low (mean i).signed a)) at
              ∙ ap (λ c. c && is_constant at) (folds.fold-Word Bool Bool node_constant index_constant k (index v.word_low (mean i).signed a));
        }

    pub alike_position : {low : ℕ} {which : FlatSelect} {w : ℕ} {at : Index} → IsPosition vars low which w at → fixed_select vars which ≡ true
        → AlikePosition low which at
    alike_position (typed.at {low} {i} {a} d) f =
        let x = alike_alone d (sym (fixed-At vars i) ∙ f) in
        record {
          place = ap (λ y. (sel.position low y).at s) (of-At vars i) ∙ ap (λ z. z -ℤ pos low) (same_integer s u (mean i) x.values)
              ∙ sym (ap (λ y. (sel.position low y).at u) (of-At vars i));
          constants = index_node low (mean i).signed a ∙ x.constants ∙ sym (ap (λ y. (sel.position low y).fixed) (of-At vars i));
        }
    alike_position (typed.between {low} {w} high l p) f = record {
      place = ap (λ y. (sel.position low y).at s) (of-Between vars high l) ∙ sym (ap (λ y. (sel.position low y).at u) (of-Between vars high l));
      constants = index_node low (mean l).signed (t.Number (mean l).size (fixed_value (mean l))) ∙ number_node (mean l).size (fixed_value (mean l))
          ∙ sym (ap (λ y. (sel.position low y).fixed) (of-Between vars high l));
    }
    alike_position (typed.up {low} {w} {i} count {a} p d) f =
        let fs = left_true ((mean count).constant && fixed vars i) (fixed vars count) (sym (fixed-Up vars i count) ∙ f) in
        let x = alike_alone d (right_true (mean count).constant (fixed vars i) fs) in
        record {
          place = ap (λ y. (sel.position low y).at s) (of-Up vars i count) ∙ ap (λ z. z -ℤ pos low) (same_integer s u (mean i) x.values)
              ∙ sym (ap (λ y. (sel.position low y).at u) (of-Up vars i count));
          constants = index_node low (mean i).signed a ∙ x.constants ∙ sym (ap (λ y. (sel.position low y).fixed) (of-Up vars i count));
        }
    alike_position (typed.down {low} {w} {i} count {a} p d) f =
        let fs = left_true ((mean count).constant && fixed vars i) (fixed vars count) (sym (fixed-Down vars i count) ∙ f) in
        let x = alike_alone d (right_true (mean count).constant (fixed vars i) fs) in
        let lowest = (low + at_least_0 (fixed_integer (mean count))) - 1 in
        record {
          place = ap (λ y. (sel.position low y).at s) (of-Down vars i count) ∙ ap (λ z. z -ℤ pos lowest) (same_integer s u (mean i) x.values)
              ∙ sym (ap (λ y. (sel.position low y).at u) (of-Down vars i count));
          constants = index_node ((low + suc w) - 1) (mean i).signed a ∙ x.constants ∙ sym (ap (λ y. (sel.position low y).fixed) (of-Down vars i count));
        }

    alike_joined : {parts : List FlatExpr} {a : Typed} → AreJoined vars parts a → list_all (fixed vars) parts ≡ true → AlikeParts (map mean parts) a
    alike_joined (typed.last {of} {a} d) f =
        let x = alike_alone d (left_true (fixed vars of) true f) in
        record { values = ap (λ y. value.concat 0 y 0) (same_own (mean of) x.values); constants = x.constants ∙ sym (and_true (mean of).constant) }
    alike_joined (typed.more {of} {next} {rest} {a} {b} d ds) f =
        let others = list_all (fixed vars) (next ∷ rest) in
        let x = alike_alone d (left_true (fixed vars of) others f) in
        let y = alike_joined ds (right_true (fixed vars of) others f) in
        record {
          values = ap₂ (value.concat (total_size (map mean (next ∷ rest)))) (same_own (mean of) x.values) y.values;
          constants = folds.fold-Join Bool Bool node_constant index_constant a b ∙ ap₂ ◌&&◌ x.constants y.constants;
        }
