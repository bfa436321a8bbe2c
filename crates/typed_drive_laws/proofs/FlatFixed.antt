-- Where a source expression has constants, so has its flat form: by induction on how it is the flat form.
use Rattle.std.proofs.Common.{◌≡◌, ◌∙◌, sym, ap, refl, Bool, true, false, not, ◌&&◌, ◌||◌, List, map}
use Rattle.std.specs.List.{list_all}
use Rattle.vlog_tree.specs.declared.operator.SystemCall.{SystemCall}
use Rattle.vlog_tree.specs.declared.operator.SystemCall.TheVariants as call
use Rattle.vlog_tree.specs.declared.expression.Expr.{Expr}
use Rattle.vlog_tree.specs.declared.expression.Select.{Select}
use Rattle.elab_types.specs.declared.flat_source.FlatVar.{FlatVar}
use Rattle.elab_types.specs.declared.flat_expression.FlatExpr.{FlatExpr}
use Rattle.elab_types.specs.declared.flat_expression.FlatSelect.{FlatSelect}
use Rattle.source_meaning.specs.Meaning.{Meaning, all_constant}
use Rattle.source_meaning.specs.Environment.{Environment}
use Rattle.source_meaning.specs.Joins.{called}
use Rattle.scope_meaning.specs.Constants.{is_wrong, any_wrong}
use Rattle.scope_meaning.specs.Constants as constants
use Rattle.scope_meaning.proofs.WalkLaws.{never}
use Rattle.flat_meaning.specs.Expressions.{meaning}
use Rattle.flat_meaning.specs.FlatForm as form
use Rattle.flat_meaning.specs.FlatForm.{IsFlat, IsFlatSelect, AreFlat}
use Rattle.flat_meaning.proofs.Meanings as of
use Rattle.flat_source_meaning.specs.FixedParts.{has_constants, reads, all_fixed}
use Rattle.flat_source_meaning.specs.FixedParts as source
use Rattle.design_meaning.proofs.ListLaws.{left_true, right_true, and_from}
use Rattle.typed_drive_laws.specs.FixedParts.{operand_fixed}
use Rattle.typed_drive_laws.proofs.Fixed.{fixed, fixed_select, fixed-Number, fixed-Var, fixed-Select, fixed-Unary, fixed-Binary, fixed-Choose, fixed-Join}
use Rattle.typed_drive_laws.proofs.Fixed.{fixed-Repeat, fixed-Call, fixed-At, fixed-Between, fixed-Up, fixed-Down}
use Rattle.typed_drive_laws.proofs.OneWay.{unary_constant, binary_constant}
use Rattle.typed_drive_laws.proofs.SourceFixed as says
use Rattle.typed_drive_laws.proofs.SourceFixed.{said, said_select, first_right, second_right, select_wrong}

-- nothing is wrong in it as a constant
right_of_is : (b : Bool) → not b ≡ true → b ≡ false
right_of_is true h = never h
right_of_is false h = refl

-- a name that stands for a variable is wrong
known : (b : Bool) → b ≡ false → ((not b || false) || false) ≡ false → false ≡ true
known true h k = sym h
known false h k = sym k

call_constant : (name : SystemCall) (a : Meaning) → (called name a).constant ≡ a.constant
call_constant call.Signed a = refl
call_constant _ a = refl

module _ (vars : List FlatVar) where
  -- The flat form has constants where the source has, and is a constant where the source is.
  pub record FlatFixed (env : Environment) (of : Expr) (a : FlatExpr) : Type 0 where
    pub fixes : (said env of).fixed ≡ true → fixed vars a ≡ true
    pub constants : is_wrong (said env of).read.wrong ≡ false → (meaning vars a).constant ≡ true

  record AllFixed (env : Environment) (es : List Expr) (parts : List FlatExpr) : Type 0 where
    fixes : all_fixed (map (said env) es) ≡ true → list_all (fixed vars) parts ≡ true
    constants : is_wrong (any_wrong (reads (map (said env) es))) ≡ false → all_constant (map (meaning vars) parts) ≡ true

  -- what has to be a constant is one, from what the source says of it
  is_one : {env : Environment} {of : Expr} {a : FlatExpr} → FlatFixed env of a → source.is_fixed (said env of) ≡ true → (meaning vars a).constant ≡ true
  is_one {env} {of} k h = k.constants (right_of_is (is_wrong (said env of).read.wrong) h)

  operand : {env : Environment} {of : Expr} {a : FlatExpr} (name : SystemCall) → FlatFixed env of a → source.operand_fixed name (said env of) ≡ true
      → operand_fixed name (meaning vars a).constant ≡ true
  operand call.CeilLog2 k h = is_one k h
  operand call.Signed k h = refl
  operand call.Unsigned k h = refl

  -- a count that is one, beside the position
  with_count : {env : Environment} {i count : Expr} {a b : FlatExpr} → FlatFixed env i a → FlatFixed env count b
      → ((source.is_fixed (said env count) && (said env i).fixed) && (said env count).fixed) ≡ true
      → (((meaning vars b).constant && fixed vars a) && fixed vars b) ≡ true
  with_count {env} {i} {count} {a} {b} d e k =
      let y = said env count in
      let both = left_true (source.is_fixed y && (said env i).fixed) y.fixed k in
      and_from ((meaning vars b).constant && fixed vars a) (fixed vars b)
      (and_from (meaning vars b).constant (fixed vars a) (is_one e (left_true (source.is_fixed y) (said env i).fixed both))
      (d.fixes (right_true (source.is_fixed y) (said env i).fixed both)))
      (e.fixes (right_true (source.is_fixed y && (said env i).fixed) y.fixed k))

  mutual
    pub flat_fixed : {env : Environment} {of : Expr} {a : FlatExpr} → IsFlat vars env of a → FlatFixed env of a
    flat_fixed {env} (form.number {w} {x} {free} {sg}) = record {
      fixes = λ h. fixed-Number vars w sg x free;
      constants = λ h. ap (λ m. m.constant) (of.of-Number vars w sg x free);
    }
    flat_fixed {env} (form.of_variable {name} {n} {v} p q) = record {
      fixes = λ h. fixed-Var vars n;
      constants = λ h. never (known (constants.is_constant (env.look name)) (ap constants.is_constant p)
          (sym (ap (λ c. is_wrong c.read.wrong) (says.of-Name env name)) ∙ h));
    }
    flat_fixed {env} (form.of_constant {name} {w} {x} {sg} p) = record {
      fixes = λ h. fixed-Number vars w sg x 0;
      constants = λ h. ap (λ m. m.constant) (of.of-Number vars w sg x 0);
    }
    flat_fixed {env} (form.of_select {base} {some} {a} {b} d ds) = record {
      fixes = λ h.
          let k = sym (ap (λ c. c.fixed) (says.of-Select env base some)) ∙ h in
          fixed-Select vars a b
          ∙ and_from (fixed vars a) (fixed_select vars b) ((flat_fixed d).fixes (left_true (said env base).fixed (said_select env some).fixed k))
          (flat_fixed_select ds (right_true (said env base).fixed (said_select env some).fixed k));
      constants = λ h.
          let x = said env base in
          let y = said_select env some in
          select_wrong (x.read.wrong.name || y.read.wrong.name) (x.read.wrong.wide || y.read.wrong.wide)
          (sym (ap (λ c. is_wrong c.read.wrong) (says.of-Select env base some)) ∙ h);
    }
    flat_fixed {env} (form.of_unary {op} {of = e} {a} d) = record {
      fixes = λ h. fixed-Unary vars op a ∙ (flat_fixed d).fixes (sym (ap (λ c. c.fixed) (says.of-Unary env op e)) ∙ h);
      constants = λ h. ap (λ m. m.constant) (of.of-Unary vars op a) ∙ unary_constant op (meaning vars a)
          ∙ (flat_fixed d).constants (sym (ap (λ c. is_wrong c.read.wrong) (says.of-Unary env op e)) ∙ h);
    }
    flat_fixed {env} (form.of_binary {op} {left} {right} {a} {b} d e) = record {
      fixes = λ h.
          let k = sym (ap (λ c. c.fixed) (says.of-Binary env op left right)) ∙ h in
          fixed-Binary vars op a b
          ∙ and_from (fixed vars a) (fixed vars b) ((flat_fixed d).fixes (left_true (said env left).fixed (said env right).fixed k))
          ((flat_fixed e).fixes (right_true (said env left).fixed (said env right).fixed k));
      constants = λ h.
          let k = sym (ap (λ c. is_wrong c.read.wrong) (says.of-Binary env op left right)) ∙ h in
          ap (λ m. m.constant) (of.of-Binary vars op a b) ∙ binary_constant op (meaning vars a) (meaning vars b)
          ∙ and_from (meaning vars a).constant (meaning vars b).constant
          ((flat_fixed d).constants (first_right (said env left).read.wrong (said env right).read.wrong k))
          ((flat_fixed e).constants (second_right (said env left).read.wrong (said env right).read.wrong k));
    }
    flat_fixed {env} (form.of_choice {test} {left} {right} {a} {b} {c} dt d e) = record {
      fixes = λ h.
          let k = sym (ap (λ z. z.fixed) (says.of-Choose env test left right)) ∙ h in
          let both = left_true ((said env test).fixed && (said env left).fixed) (said env right).fixed k in
          fixed-Choose vars a b c
          ∙ and_from (fixed vars a && fixed vars b) (fixed vars c)
          (and_from (fixed vars a) (fixed vars b) ((flat_fixed dt).fixes (left_true (said env test).fixed (said env left).fixed both))
          ((flat_fixed d).fixes (right_true (said env test).fixed (said env left).fixed both)))
          ((flat_fixed e).fixes (right_true ((said env test).fixed && (said env left).fixed) (said env right).fixed k));
      constants = λ h.
          let x = (said env test).read.wrong in
          let y = (said env left).read.wrong in
          let z = (said env right).read.wrong in
          let k = sym (ap (λ z. is_wrong z.read.wrong) (says.of-Choose env test left right)) ∙ h in
          ap (λ m. m.constant) (of.of-Choose vars a b c)
          ∙ and_from ((meaning vars a).constant && (meaning vars b).constant) (meaning vars c).constant
          (and_from (meaning vars a).constant (meaning vars b).constant
          ((flat_fixed dt).constants (first_right x (constants.either_wrong y z) k))
          ((flat_fixed d).constants (first_right y z (second_right x (constants.either_wrong y z) k))))
          ((flat_fixed e).constants (second_right y z (second_right x (constants.either_wrong y z) k)));
    }
    flat_fixed {env} (form.of_join {parts} {as_parts} ds) = record {
      fixes = λ h. fixed-Join vars as_parts ∙ (flat_fixed_all ds).fixes (sym (ap (λ c. c.fixed) (says.of-Join env parts)) ∙ h);
      constants = λ h. ap (λ m. m.constant) (of.of-Join vars as_parts)
          ∙ (flat_fixed_all ds).constants
          (first_right (any_wrong (reads (map (said env) parts))) _ (sym (ap (λ c. is_wrong c.read.wrong) (says.of-Join env parts)) ∙ h));
    }
    flat_fixed {env} (form.of_repeat {count} {parts} {a} {as_parts} d ds) = record {
      fixes = λ h.
          let x = said env count in
          let all = all_fixed (map (said env) parts) in
          let k = sym (ap (λ c. c.fixed) (says.of-Repeat env count parts)) ∙ h in
          let both = left_true (source.is_fixed x && x.fixed) all k in
          fixed-Repeat vars a as_parts
          ∙ and_from ((meaning vars a).constant && fixed vars a) (list_all (fixed vars) as_parts)
          (and_from (meaning vars a).constant (fixed vars a) (is_one (flat_fixed d) (left_true (source.is_fixed x) x.fixed both))
          ((flat_fixed d).fixes (right_true (source.is_fixed x) x.fixed both)))
          ((flat_fixed_all ds).fixes (right_true (source.is_fixed x && x.fixed) all k));
      constants = λ h.
          let x = (said env count).read.wrong in
          let y = any_wrong (reads (map (said env) parts)) in
          let k = first_right (constants.either_wrong x y) _ (sym (ap (λ c. is_wrong c.read.wrong) (says.of-Repeat env count parts)) ∙ h) in
          ap (λ m. m.constant) (of.of-Repeat vars a as_parts)
          ∙ and_from (meaning vars a).constant (all_constant (map (meaning vars) as_parts))
          ((flat_fixed d).constants (first_right x y k)) ((flat_fixed_all ds).constants (second_right x y k));
    }
    flat_fixed {env} (form.of_call {name} {of = e} {a} d) = record {
      fixes = λ h.
          let k = sym (ap (λ c. c.fixed) (says.of-Call env name e)) ∙ h in
          fixed-Call vars name a
          ∙ and_from (operand_fixed name (meaning vars a).constant) (fixed vars a)
          (operand name (flat_fixed d) (left_true (source.operand_fixed name (said env e)) (said env e).fixed k))
          ((flat_fixed d).fixes (right_true (source.operand_fixed name (said env e)) (said env e).fixed k));
      constants = λ h. ap (λ m. m.constant) (of.of-Call vars name a) ∙ call_constant name (meaning vars a)
          ∙ (flat_fixed d).constants (sym (ap (λ c. is_wrong c.read.wrong) (says.of-Call env name e)) ∙ h);
    }

    flat_fixed_select : {env : Environment} {some : Select} {b : FlatSelect} → IsFlatSelect vars env some b → (said_select env some).fixed ≡ true
        → fixed_select vars b ≡ true
    flat_fixed_select {env} (form.of_at {i} {a} d) h = fixed-At vars a ∙ (flat_fixed d).fixes (sym (ap (λ c. c.fixed) (says.of-At env i)) ∙ h)
    flat_fixed_select {env} (form.of_between {high} {low} {a} {b} d e) h =
        let x = said env high in
        let y = said env low in
        let k = sym (ap (λ c. c.fixed) (says.of-Between env high low)) ∙ h in
        let three = left_true ((source.is_fixed x && source.is_fixed y) && x.fixed) y.fixed k in
        let both = left_true (source.is_fixed x && source.is_fixed y) x.fixed three in
        fixed-Between vars a b
        ∙ and_from (((meaning vars a).constant && (meaning vars b).constant) && fixed vars a) (fixed vars b)
        (and_from ((meaning vars a).constant && (meaning vars b).constant) (fixed vars a)
        (and_from (meaning vars a).constant (meaning vars b).constant (is_one (flat_fixed d) (left_true (source.is_fixed x) (source.is_fixed y) both))
        (is_one (flat_fixed e) (right_true (source.is_fixed x) (source.is_fixed y) both)))
        ((flat_fixed d).fixes (right_true (source.is_fixed x && source.is_fixed y) x.fixed three)))
        ((flat_fixed e).fixes (right_true ((source.is_fixed x && source.is_fixed y) && x.fixed) y.fixed k))
    flat_fixed_select {env} (form.of_up {i} {count} {a} {b} d e) h =
        fixed-Up vars a b ∙ with_count (flat_fixed d) (flat_fixed e) (sym (ap (λ c. c.fixed) (says.of-Up env i count)) ∙ h)
    flat_fixed_select {env} (form.of_down {i} {count} {a} {b} d e) h =
        fixed-Down vars a b ∙ with_count (flat_fixed d) (flat_fixed e) (sym (ap (λ c. c.fixed) (says.of-Down env i count)) ∙ h)

    flat_fixed_all : {env : Environment} {es : List Expr} {parts : List FlatExpr} → AreFlat vars env es parts → AllFixed env es parts
    flat_fixed_all form.no_exprs = record { fixes = λ h. refl; constants = λ h. refl }
    flat_fixed_all {env} (form.more_exprs {of = e} {a} {rest} {others} d ds) = record {
      fixes = λ h.
          let all = all_fixed (map (said env) rest) in
          and_from (fixed vars a) (list_all (fixed vars) others) ((flat_fixed d).fixes (left_true (said env e).fixed all h))
          ((flat_fixed_all ds).fixes (right_true (said env e).fixed all h));
      constants = λ h.
          let x = (said env e).read.wrong in
          let y = any_wrong (reads (map (said env) rest)) in
          and_from (meaning vars a).constant (all_constant (map (meaning vars) others)) ((flat_fixed d).constants (first_right x y h))
          ((flat_fixed_all ds).constants (second_right x y h));
    }
