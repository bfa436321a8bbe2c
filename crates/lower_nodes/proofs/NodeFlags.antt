-- What is refused of each node, from what is refused of its parts.
use Rattle.std.proofs.Common.{◌≡◌, ◌∙◌, sym, ap, ap₂, refl, subst, ℕ, Bool, true, false, ◌&&◌, List, [], map, pos, int_le}
use Rattle.std.specs.Prelude.{nat_le}
use Rattle.vlog_tree.specs.declared.operator.UnaryOp.{UnaryOp}
use Rattle.vlog_tree.specs.declared.operator.BinaryOp.{BinaryOp}
use Rattle.vlog_tree.specs.declared.operator.SystemCall.{SystemCall}
use Rattle.elab_types.specs.declared.flat_source.FlatVar.{FlatVar}
use Rattle.elab_types.specs.declared.flat_expression.FlatExpr.{FlatExpr}
use Rattle.elab_types.specs.declared.flat_expression.FlatExpr.TheVariants as e
use Rattle.elab_types.specs.declared.flat_expression.FlatExpr.TheOpen as x
use Rattle.source_meaning.specs.Meaning.{fixed_integer}
use Rattle.scope_meaning.specs.Constants.{is_wrong}
use Rattle.flat_meaning.specs.Expressions.{meaning}
use Rattle.flat_meaning.specs.Faults.{Checked, checked_node, check, stands, all_selects, all_sizes}
use Rattle.design_meaning.proofs.ListLaws.{and_assoc}
use Rattle.lower_meaning.specs.Constants.{said}
use Rattle.lower_meaning.proofs.CheckFolds as folds
use Rattle.lower_meaning.proofs.CheckMeans.{check_means}
use Rattle.lower_meaning.proofs.RightLaws.{right, unary_plain, binary_plain, called_plain}
use Rattle.lower_nodes.proofs.Flags.{Flags, and_true}

and_comm : (a b : Bool) → (a && b) ≡ (b && a)
and_comm true true = refl
and_comm true false = refl
and_comm false true = refl
and_comm false false = refl

module _ (vars : List FlatVar) where
  flags_of : (a : FlatExpr) (c : Checked) (s z : Bool) → check vars a ≡ c → c.selects ≡ s → c.sizes ≡ (z && nat_le c.meaning.size 128) → Flags vars a s z
  flags_of a c s z h k l = record {
    selects = ap (λ c. c.selects) h ∙ k;
    sizes = subst (λ (d : Checked). d.sizes ≡ (z && nat_le d.meaning.size 128)) (sym h) l;
  }

  pub number_flags : (w : ℕ) (signed : Bool) (n free : ℕ) → Flags vars (e.Number w signed n free) true true
  number_flags w signed n free =
      flags_of (e.Number w signed n free) (checked_node vars (x.Number w signed n free)) true true (folds.checked-Number vars w signed n free) refl refl

  pub unary_flags : (op : UnaryOp) (a : FlatExpr) → Flags vars (e.Unary op a) (check vars a).selects (check vars a).sizes
  unary_flags op a =
      let c = check vars a in
      flags_of (e.Unary op a) (checked_node vars (x.Unary op c)) c.selects c.sizes (folds.checked-Unary vars op a)
      (ap (λ os. c.selects && stands os) (unary_plain op c.meaning) ∙ and_true c.selects) refl

  pub call_flags : (f : SystemCall) (a : FlatExpr) → Flags vars (e.Call f a) (check vars a).selects (check vars a).sizes
  call_flags f a =
      let c = check vars a in
      flags_of (e.Call f a) (checked_node vars (x.Call f c)) c.selects c.sizes (folds.checked-Call vars f a)
      (ap (λ os. c.selects && stands os) (called_plain f c.meaning) ∙ and_true c.selects) refl

  pub binary_flags : (op : BinaryOp) (a b : FlatExpr)
      → Flags vars (e.Binary op a b) ((check vars a).selects && (check vars b).selects) ((check vars a).sizes && (check vars b).sizes)
  binary_flags op a b =
      let c = check vars a in
      let d = check vars b in
      flags_of (e.Binary op a b) (checked_node vars (x.Binary op c d)) (c.selects && d.selects) (c.sizes && d.sizes) (folds.checked-Binary vars op a b)
      (ap (λ os. (c.selects && d.selects) && stands os) (binary_plain op c.meaning d.meaning) ∙ and_true (c.selects && d.selects)) refl

  pub choose_flags : (on a b : FlatExpr) → Flags vars (e.Choose on a b)
      ((check vars on).selects && ((check vars a).selects && (check vars b).selects))
      ((check vars on).sizes && ((check vars a).sizes && (check vars b).sizes))
  choose_flags on a b =
      let t = check vars on in
      let c = check vars a in
      let d = check vars b in
      let n = checked_node vars (x.Choose t c d) in
      flags_of (e.Choose on a b) n (t.selects && (c.selects && d.selects)) (t.sizes && (c.sizes && d.sizes)) (folds.checked-Choose vars on a b)
      (and_true ((t.selects && c.selects) && d.selects) ∙ and_assoc t.selects c.selects d.selects)
      (ap (λ z. z && nat_le n.meaning.size 128) (and_assoc t.sizes c.sizes d.sizes))

  pub join_flags : (ps : List FlatExpr) → Flags vars (e.Join ps) (all_selects (map (check vars) ps)) (all_sizes (map (check vars) ps))
  join_flags ps =
      let cs = map (check vars) ps in
      flags_of (e.Join ps) (checked_node vars (x.Join cs)) (all_selects cs) (all_sizes cs) (folds.checked-Join vars ps) refl refl

  pub repeat_flags : (n : FlatExpr) (ps : List FlatExpr) → is_wrong (said n).wrong ≡ false
      → Flags vars (e.Repeat n ps) (int_le (pos 1) (fixed_integer (meaning vars n)) && all_selects (map (check vars) ps))
      (true && all_sizes (map (check vars) ps))
  repeat_flags n ps w =
      let c = check vars n in
      let cs = map (check vars) ps in
      let r = right vars n w in
      let node = checked_node vars (x.Repeat c cs) in
      flags_of (e.Repeat n ps) node (int_le (pos 1) (fixed_integer (meaning vars n)) && all_selects cs) (true && all_sizes cs)
      (folds.checked-Repeat vars n ps)
      (and_true ((c.selects && all_selects cs) && int_le (pos 1) (fixed_integer c.meaning))
      ∙ ap₂ (λ s i. (s && all_selects cs) && i) r.selects (ap (λ m. int_le (pos 1) (fixed_integer m)) (check_means vars n))
      ∙ and_comm (all_selects cs) (int_le (pos 1) (fixed_integer (meaning vars n))))
      (ap (λ z. (z && all_sizes cs) && nat_le node.meaning.size 128) r.sizes)
