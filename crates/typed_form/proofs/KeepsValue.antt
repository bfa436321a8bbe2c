-- The typed form of an expression has its value: by induction on how it is the typed form.
use Rattle.std.proofs.Common.{◌≡◌, ◌∙◌, sym, ap, ap₂, refl, subst, ℕ, zero, suc, ◌+◌, ◌*◌, ◌-◌, Bool, true, false, List, map, Some, is_some, ℤ, pos, ◌-ℤ◌}
use Rattle.std.proofs.Common.{slice_get, le_refl, add-zero, mul-one}
use Rattle.bit_values.specs.Values as value
use Rattle.vlog_tree.specs.declared.operator.UnaryOp.TheVariants as unary
use Rattle.vlog_tree.specs.declared.operator.SystemCall.TheVariants as call
use Rattle.elab_types.specs.declared.flat_source.FlatVar.{FlatVar}
use Rattle.elab_types.specs.declared.flat_expression.FlatExpr.{FlatExpr}
use Rattle.elab_types.specs.declared.flat_expression.FlatExpr.TheVariants as e
use Rattle.elab_types.specs.declared.flat_expression.FlatSelect.{FlatSelect}
use Rattle.elab_types.specs.declared.flat_expression.FlatSelect.TheVariants as select
use Rattle.design_tree.specs.declared.operator.TypedUnary.TheVariants as one
use Rattle.design_tree.specs.declared.typed.Index.{Index}
use Rattle.design_tree.specs.declared.typed.Typed.{Typed}
use Rattle.design_tree.specs.declared.typed.Typed.TheVariants as t
use Rattle.design_tree.specs.declared.typed.Typed.TheOpen as o
use Rattle.circuit_run.specs.States.{State, held, word_at}
use Rattle.source_meaning.specs.Meaning as m
use Rattle.source_meaning.specs.Meaning.{Meaning, Object, whole, own, reading, integer, fixed_integer, fixed_value, at_least_0, total_size, all_constant}
use Rattle.source_meaning.specs.Selects as sel
use Rattle.source_meaning.specs.Selects.{less, selected, select_variable, object_or_none, meaning_of_object, object_size, read}
use Rattle.source_meaning.specs.Joins.{joined_value, copies, ceil_log2}
use Rattle.source_meaning.specs.Environment.{named}
use Rattle.flat_meaning.specs.Expressions.{meaning, variable_of, found}
use Rattle.design_meaning.specs.Values as design
use Rattle.design_meaning.specs.Values.{of_width, value_in, position_in, node_value}
use Rattle.typed_form.specs.TypedExpressions.{IsTyped, IsTypedAlone, IsSelect, IsPosition, AreJoined, IsVariable, number, var, plus, minus, complement, reduced}
use Rattle.typed_form.specs.TypedExpressions.{computed, shifted, compared, tested, chosen, join, repeat, as_signed, as_unsigned, logarithm, alone, index}
use Rattle.typed_form.specs.TypedExpressions as typed
use Rattle.typed_form.specs.TypedLaws.{HasWidths, KeepsValue}
use Rattle.typed_form.specs.Nodes.{widened}
use Rattle.flat_meaning.proofs.Meanings.{selection_of, of-Number, of-Var, of-Select, of-Unary, of-Binary, of-Choose, of-Join, of-Repeat, of-Call, of-At}
use Rattle.flat_meaning.proofs.Meanings.{of-Between, of-Up, of-Down}
use Rattle.typed_form.proofs.NodeValues.{in-Number, in-Var, in-Word, in-Part, in-Join, in-Repeat, at-Index}
use Rattle.typed_form.proofs.Keeps.{Keeps, KeepsOwn, keeps_widened, keeps_itself, unary_node, use_one, use_two, reduction_rule}
use Rattle.typed_form.proofs.KeepsBinary.{arithmetic_rule, shift_rule, comparison_rule, logical_rule, choice_rule}

-- ---- positions

pub position_reads : (low : ℕ) (signed : Bool) (w x : ℕ) → design.position low signed (of_width w x) ≡ (reading w signed x -ℤ pos low)
position_reads low true w x = refl
position_reads low false w x = refl

-- the position of an index whose expression keeps its value
pub index_place : (s : State) (low : ℕ) (a : Typed) (i : Meaning) → KeepsOwn s a i → position_in s (index low i.signed a) ≡ (integer i s -ℤ pos low)
index_place s low a i p = at-Index s low i.signed a ∙ ap (design.position low i.signed) p ∙ position_reads low i.signed i.size (own i s)

-- a part alone, as parts in braces
one_part : (x : ℕ) → value.concat 0 x 0 ≡ x
one_part x = add-zero (x * 1) ∙ mul-one x

-- ---- copies

copies_are : (k w n : ℕ) → design.repeated w n k ≡ copies k w n
unfolding design.repeated
copies_are zero w n = refl
copies_are (suc k) w n = ap (λ x. value.concat w x n) (copies_are k w n)

module _ (vars : List FlatVar) (s : State) (widths : HasWidths vars s) where
  abbrev pub mean : FlatExpr → Meaning
  mean = meaning vars

  pub var_means : (k : ℕ) (v : FlatVar) → slice_get vars k ≡ Some v → mean (e.Var k) ≡ meaning_of_object (whole (variable_of k v))
  var_means k v p = of-Var vars k ∙ ap (λ x. named (found k x)) p

  pub var_value : (k : ℕ) (v : FlatVar) → slice_get vars k ≡ Some v → value_in s (t.Var k) ≡ of_width v.width (word_at (held s k) (pos 0))
  var_value k v p = in-Var s k ∙ ap (λ w. of_width w (word_at (held s k) (pos 0))) (widths k v p)

  pub word_value : (k : ℕ) (v : FlatVar) (at : Index) (z : ℤ) → slice_get vars k ≡ Some v → position_in s at ≡ z
      → value_in s (t.Word k at) ≡ of_width v.width (word_at (held s k) z)
  word_value k v at z p q = in-Word s k at ∙ ap₂ (λ w x. of_width w (word_at (held s k) x)) (widths k v p) q

  pub part_value : (w : ℕ) (a : Typed) (at : Index) (v x : ℕ) (z : ℤ) → value_in s a ≡ of_width v x → position_in s at ≡ z
      → value_in s (t.Part w a at) ≡ of_width w (value.select w x z)
  part_value w a at v x z p q = in-Part s w a at ∙ ap₂ (λ y at. node_value s (o.Part w y at)) p q

  -- A select names an object, and its node has what the object reads.
  pub record KeepsSelect (base : FlatExpr) (which : FlatSelect) (a : Typed) : Type 0 where
    pub object : Object
    pub means : mean (e.Select base which) ≡ meaning_of_object object
    pub reads : value_in s a ≡ of_width (object_size object) (read object s)

  pub record KeepsPosition (low : ℕ) (which : FlatSelect) (w : ℕ) (at : Index) : Type 0 where
    pub width : sel.width_of (selection_of vars which) ≡ w
    pub place : position_in s at ≡ (sel.position low (selection_of vars which)).at s

  repeat_value : (k : ℕ) (a : Typed) (parts : List Meaning) (count : Meaning) → at_least_0 (fixed_integer count) ≡ k
      → value_in s a ≡ of_width (total_size parts) (joined_value parts s)
      → value_in s (t.Repeat k a) ≡ of_width (at_least_0 (fixed_integer count) * total_size parts)
      (copies (at_least_0 (fixed_integer count)) (total_size parts) (joined_value parts s))
  repeat_value k a parts count p q =
      in-Repeat s k a
      ∙ ap (λ x. node_value s (o.Repeat k x)) q
      ∙ ap (λ c. of_width (c * total_size parts) (design.repeated (total_size parts) (joined_value parts s) c)) (sym p)
      ∙ ap (of_width (at_least_0 (fixed_integer count) * total_size parts))
      (copies_are (at_least_0 (fixed_integer count)) (total_size parts) (joined_value parts s))

  pub fixed_place : (low : ℕ) (l : Meaning) → position_in s (index low l.signed (t.Number l.size (fixed_value l))) ≡ (fixed_integer l -ℤ pos low)
  fixed_place low l = at-Index s low l.signed _ ∙ ap (design.position low l.signed) (in-Number s l.size (fixed_value l))
      ∙ position_reads low l.signed l.size (fixed_value l)

  abbrev pub word_selects : (k : ℕ) (v : FlatVar) (i : FlatExpr) (a : Typed) → IsVariable vars k true v → KeepsOwn s a (mean i)
      → KeepsSelect (e.Var k) (select.At i) (t.Word k (index v.word_low (mean i).signed a))
  word_selects k v i a p d = record {
    object = m.word (variable_of k v) (less (mean i) (pos v.word_low));
    means =
        of-Select vars (e.Var k) (select.At i)
        ∙ ap₂ selected (var_means k v p.0) (of-At vars i)
        ∙ ap (λ c. object_or_none (select_variable (variable_of k v) c (sel.at (mean i)))) p.1;
    reads = word_value k v _ _ p.0 (index_place s v.word_low a (mean i) d);
  }

  abbrev pub part_selects : (k w : ℕ) (v : FlatVar) (which : FlatSelect) (at : Index) → IsVariable vars k false v → KeepsPosition v.low which w at
      → KeepsSelect (e.Var k) which (t.Part w (t.Var k) at)
  part_selects k w v which at p q =
      let chosen_bits = selection_of vars which in
      record {
        object = m.part (variable_of k v) (sel.position v.low chosen_bits) (sel.width_of chosen_bits);
        means =
            of-Select vars (e.Var k) which
            ∙ ap (λ x. selected x chosen_bits) (var_means k v p.0)
            ∙ ap (λ c. object_or_none (select_variable (variable_of k v) c chosen_bits)) p.1;
        reads = part_value w (t.Var k) at _ _ _ (var_value k v p.0) q.place
            ∙ ap (λ x. of_width x (value.select x (word_at (held s k) (pos 0)) ((sel.position v.low chosen_bits).at s))) (sym q.width);
      }

  abbrev pub word_part_selects : (k w : ℕ) (v : FlatVar) (i : FlatExpr) (which : FlatSelect) (a : Typed) (at : Index) → IsVariable vars k true v
      → KeepsOwn s a (mean i)
      → KeepsPosition v.low which w at
      → KeepsSelect (e.Select (e.Var k) (select.At i)) which (t.Part w (t.Word k (index v.word_low (mean i).signed a)) at)
  word_part_selects k w v i which a at p d q =
      let chosen_bits = selection_of vars which in
      let the_word = word_selects k v i a p d in
      record {
        object = m.word_part (variable_of k v) (less (mean i) (pos v.word_low)) (sel.position v.low chosen_bits) (sel.width_of chosen_bits);
        means = of-Select vars (e.Select (e.Var k) (select.At i)) which ∙ ap (λ x. selected x chosen_bits) the_word.means;
        reads =
            part_value w _ at _ _ _ the_word.reads q.place
            ∙ ap (λ x. of_width x (value.select x (word_at (held s k) ((less (mean i) (pos v.word_low)).at s)) ((sel.position v.low chosen_bits).at s)))
            (sym q.width);
      }

  mutual
    pub keeps : {of : FlatExpr} {n : ℕ} {by_sign : Bool} {a : Typed} → IsTyped vars of n by_sign a → Keeps s n by_sign a (mean of)
    keeps (number {w} {x} {free} {n} {sg} {by_sign}) =
        subst (Keeps s n by_sign _) (sym (of-Number vars w sg x free)) (keeps_itself s w n sg true by_sign (λ st. x) (t.Number w x) (in-Number s w x))
    keeps (var {k} {n} {by_sign} {v} p) =
        subst (Keeps s n by_sign _) (sym (var_means k v p.0)) (keeps_widened s v.width n by_sign (t.Var k) _ (var_value k v p.0))
    keeps (typed.selected {n} {by_sign} {base} {s = which} {a} d) =
        let k = keeps_select d in
        subst (λ x. Keeps s n by_sign (widened x.size n by_sign a) x) (sym k.means) (keeps_widened s _ n by_sign a _ k.reads)
    keeps (plus {n} {by_sign} {of} {a} d) = subst (Keeps s n by_sign a) (sym (of-Unary vars unary.Plus of)) (keeps d)
    keeps (minus {n} {by_sign} {of} {a} d) =
        subst (Keeps s n by_sign _) (sym (of-Unary vars unary.Minus of)) (λ le. unary_node s one.Neg a n _ (keeps d le))
    keeps (complement {n} {by_sign} {of} {a} d) =
        subst (Keeps s n by_sign _) (sym (of-Unary vars unary.Complement of)) (λ le. unary_node s one.Not a n _ (keeps d le))
    keeps (reduced {op} {f} {n} {by_sign} {of} {a} p d) =
        subst (λ g. Keeps s n by_sign (widened 1 n by_sign (use_one g a)) (mean (e.Unary op of))) p
        (subst (Keeps s n by_sign _) (sym (of-Unary vars op of)) (reduction_rule s op n by_sign a (mean of) (ap is_some p) (keeps_alone d)))
    keeps (computed {op} {f} {n} {by_sign} {left} {right} {a} {b} p da db) =
        subst (λ g. Keeps s n by_sign (use_two g a b) (mean (e.Binary op left right))) p
        (subst (Keeps s n by_sign _) (sym (of-Binary vars op left right))
        (arithmetic_rule s op n by_sign a b (mean left) (mean right) (ap is_some p) (keeps da) (keeps db)))
    keeps (shifted {op} {f} {n} {by_sign} {left} {right} {a} {b} p da db) =
        subst (λ g. Keeps s n by_sign (use_two g a b) (mean (e.Binary op left right))) p
        (subst (Keeps s n by_sign _) (sym (of-Binary vars op left right))
        (shift_rule s op n by_sign a b (mean left) (mean right) (ap is_some p) (keeps da) (keeps_alone db)))
    keeps (compared {op} {f} {n} {by_sign} {left} {right} {a} {b} p da db) =
        subst (λ g. Keeps s n by_sign (widened 1 n by_sign (use_two g a b)) (mean (e.Binary op left right))) p
        (subst (Keeps s n by_sign _) (sym (of-Binary vars op left right))
        (comparison_rule op s n by_sign a b (mean left) (mean right) (ap is_some p) (keeps da) (keeps db)))
    keeps (tested {op} {f} {n} {by_sign} {left} {right} {a} {b} p da db) =
        subst (λ g. Keeps s n by_sign (widened 1 n by_sign (use_two g a b)) (mean (e.Binary op left right))) p
        (subst (Keeps s n by_sign _) (sym (of-Binary vars op left right))
        (logical_rule s op n by_sign a b (mean left) (mean right) (ap is_some p) (keeps_alone da) (keeps_alone db)))
    keeps (chosen {n} {by_sign} {on} {left} {right} {c} {a} {b} dc da db) =
        subst (Keeps s n by_sign _) (sym (of-Choose vars on left right))
        (choice_rule s n by_sign c a b (mean on) (mean left) (mean right) (keeps_alone dc) (keeps da) (keeps db))
    keeps (join {n} {by_sign} {parts} {a} d) =
        subst (λ x. Keeps s n by_sign (widened x.size n by_sign a) x) (sym (of-Join vars parts))
        (keeps_itself s (total_size (map mean parts)) n false (all_constant (map mean parts)) by_sign (joined_value (map mean parts)) a (keeps_joined d))
    keeps (repeat {n} {k} {by_sign} count {parts} {a} p d) =
        subst (λ x. Keeps s n by_sign (widened x.size n by_sign (t.Repeat (suc k) a)) x) (sym (of-Repeat vars count parts))
        (keeps_widened s _ n by_sign (t.Repeat (suc k) a) _ (repeat_value (suc k) a (map mean parts) (mean count) (ap at_least_0 p) (keeps_joined d)))
    keeps (as_signed {n} {by_sign} {of} {a} d) =
        subst (Keeps s n by_sign _) (sym (of-Call vars call.Signed of))
        (keeps_itself s (mean of).size n true (mean of).constant by_sign (own (mean of)) a (keeps_alone d))
    keeps (as_unsigned {n} {by_sign} {of} {a} d) =
        subst (Keeps s n by_sign _) (sym (of-Call vars call.Unsigned of))
        (keeps_itself s (mean of).size n false (mean of).constant by_sign (own (mean of)) a (keeps_alone d))
    keeps (logarithm {n} {by_sign} of) =
        subst (Keeps s n by_sign _) (sym (of-Call vars call.CeilLog2 of))
        (keeps_widened s 32 n by_sign _ _ (in-Number s 32 (ceil_log2 (fixed_value (mean of)))))

    pub keeps_alone : {of : FlatExpr} {a : Typed} → IsTypedAlone vars of a → KeepsOwn s a (mean of)
    keeps_alone (alone {of} {a} d) = keeps d (le_refl _)

    keeps_select : {base : FlatExpr} {which : FlatSelect} {a : Typed} → IsSelect vars base which a → KeepsSelect base which a
    keeps_select (typed.word {k} {v} {i} {a} p d) = word_selects k v i a p (keeps_alone d)
    keeps_select (typed.part {k} {w} {v} {s = which} {at} p d) = part_selects k w v which at p (keeps_position d)
    keeps_select (typed.word_part {w} k {v} i {s = which} {a} {at} p da d) = word_part_selects k w v i which a at p (keeps_alone da) (keeps_position d)

    pub keeps_position : {low : ℕ} {which : FlatSelect} {w : ℕ} {at : Index} → IsPosition vars low which w at → KeepsPosition low which w at
    keeps_position (typed.at {low} {i} {a} d) = record {
      width = ap sel.width_of (of-At vars i);
      place = index_place s low a (mean i) (keeps_alone d) ∙ sym (ap (λ x. (sel.position low x).at s) (of-At vars i));
    }
    keeps_position (typed.between {low} {w} high l p) = record {
      width = ap sel.width_of (of-Between vars high l) ∙ ap at_least_0 p;
      place = fixed_place low (mean l) ∙ sym (ap (λ x. (sel.position low x).at s) (of-Between vars high l));
    }
    keeps_position (typed.up {low} {w} {i} count {a} p d) = record {
      width = ap sel.width_of (of-Up vars i count) ∙ ap at_least_0 p;
      place = index_place s low a (mean i) (keeps_alone d) ∙ sym (ap (λ x. (sel.position low x).at s) (of-Up vars i count));
    }
    keeps_position (typed.down {low} {w} {i} count {a} p d) = record {
      width = ap sel.width_of (of-Down vars i count) ∙ ap at_least_0 p;
      place =
          index_place s ((low + suc w) - 1) a (mean i) (keeps_alone d)
          ∙ ap (λ c. integer (mean i) s -ℤ pos ((low + c) - 1)) (sym (ap at_least_0 p))
          ∙ sym (ap (λ x. (sel.position low x).at s) (of-Down vars i count));
    }

    keeps_joined : {parts : List FlatExpr} {a : Typed} → AreJoined vars parts a
        → value_in s a ≡ of_width (total_size (map mean parts)) (joined_value (map mean parts) s)
    keeps_joined (typed.last {of} {a} d) = keeps_alone d ∙ ap₂ of_width (sym (add-zero (mean of).size)) (sym (one_part (own (mean of) s)))
    keeps_joined (typed.more {of} {next} {rest} {a} {b} d ds) = in-Join s a b ∙ ap₂ (λ x y. node_value s (o.Join x y)) (keeps_alone d) (keeps_joined ds)

-- the law
pub keeps_value : KeepsValue
keeps_value vars s widths of n by_sign a d = keeps vars s widths d
