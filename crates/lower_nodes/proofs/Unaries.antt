-- The forms of unary operators.
use Rattle.std.proofs.Common.{◌≡◌, ◌∙◌, sym, ap, refl, subst, false, Some, List}
use Rattle.vlog_tree.specs.declared.operator.UnaryOp.{UnaryOp}
use Rattle.vlog_tree.specs.declared.operator.UnaryOp.TheVariants.{Plus, Minus, LogicalNot, Complement, ReduceAnd, ReduceNand, ReduceOr, ReduceNor, ReduceXor}
use Rattle.vlog_tree.specs.declared.operator.UnaryOp.TheVariants.{ReduceTildeCaret, ReduceCaretTilde}
use Rattle.elab_types.specs.declared.flat_source.FlatVar.{FlatVar}
use Rattle.elab_types.specs.declared.flat_expression.FlatExpr.{FlatExpr}
use Rattle.elab_types.specs.declared.flat_expression.FlatExpr.TheVariants as e
use Rattle.design_tree.specs.declared.operator.TypedUnary.TheVariants as one
use Rattle.source_meaning.specs.Meaning.{Meaning}
use Rattle.source_meaning.specs.Operators.{unary_of}
use Rattle.flat_meaning.specs.Expressions.{meaning}
use Rattle.flat_meaning.proofs.Meanings as of
use Rattle.typed_form.specs.Nodes.{reduction}
use Rattle.typed_form.specs.TypedExpressions.{IsTyped}
use Rattle.typed_form.specs.TypedExpressions as typed
use Rattle.lower_forms.specs.declared.form.Form.TheVariants as f
use Rattle.lower_forms.specs.declared.sized.SizedForm.{SizedForm}
use Rattle.lower_forms.proofs.Settled.{of-Unary}
use Rattle.lower_nodes.specs.Operators.{own, IsWaiting, IsReduced, reduced}
use Rattle.lower_nodes.specs.Reads.{IsForm}
use Rattle.lower_nodes.proofs.Forms.{form_is, alone_is, own_typed}

-- `!` and the reductions are one bit, by the nodes of the reduction
record IsReduction (op : UnaryOp) : Type 0 where
  nodes : reduction op ≡ Some (reduced op)
  size : (m : Meaning) → (unary_of op m).size ≡ 1
  signed : (m : Meaning) → (unary_of op m).signed ≡ false

is_reduction : (op : UnaryOp) → (op ≡ Plus → ⊥) → (op ≡ Minus → ⊥) → (op ≡ Complement → ⊥) → IsReduction op
is_reduction Plus p m c = absurd (p refl)
is_reduction Minus p m c = absurd (m refl)
is_reduction Complement p m c = absurd (c refl)
is_reduction _ p m c = record { nodes = refl; size = λ m. refl; signed = λ m. refl }

module _ (vars : List FlatVar) where
  pub plus_form : (a : FlatExpr) (x : SizedForm) → IsForm vars a x → IsForm vars (e.Unary Plus a) x
  plus_form a x k = record {
    size = k.size ∙ sym (ap (λ m. m.size) (of.of-Unary vars Plus a));
    signed = k.signed ∙ sym (ap (λ m. m.signed) (of.of-Unary vars Plus a));
    forms = λ n b. typed.plus (k.forms n b);
  }

  pub minus_form : (a : FlatExpr) (x t : SizedForm) → IsForm vars a x → IsWaiting one.Neg x t → IsForm vars (e.Unary Minus a) t
  minus_form a x t k is =
      form_is vars (e.Unary Minus a) x.size x.signed (f.Unary one.Neg x.form) t is
      (k.size ∙ sym (ap (λ m. m.size) (of.of-Unary vars Minus a))) (k.signed ∙ sym (ap (λ m. m.signed) (of.of-Unary vars Minus a)))
      (λ n b. subst (IsTyped vars (e.Unary Minus a) n b) (sym (of-Unary n b one.Neg x.form)) (typed.minus (k.forms n b)))

  pub complement_form : (a : FlatExpr) (x t : SizedForm) → IsForm vars a x → IsWaiting one.Not x t → IsForm vars (e.Unary Complement a) t
  complement_form a x t k is =
      form_is vars (e.Unary Complement a) x.size x.signed (f.Unary one.Not x.form) t is
      (k.size ∙ sym (ap (λ m. m.size) (of.of-Unary vars Complement a))) (k.signed ∙ sym (ap (λ m. m.signed) (of.of-Unary vars Complement a)))
      (λ n b. subst (IsTyped vars (e.Unary Complement a) n b) (sym (of-Unary n b one.Not x.form)) (typed.complement (k.forms n b)))

  pub reduced_form : (op : UnaryOp) (a : FlatExpr) (x t : SizedForm) → (op ≡ Plus → ⊥) → (op ≡ Minus → ⊥) → (op ≡ Complement → ⊥)
      → IsForm vars a x → IsReduced op x t → IsForm vars (e.Unary op a) t
  reduced_form op a x t p m c k is =
      let r = is_reduction op p m c in
      alone_is vars (e.Unary op a) 1 false (reduced op (own x)) t is
      (sym (ap (λ n. n.size) (of.of-Unary vars op a) ∙ r.size (meaning vars a))) (sym (ap (λ n. n.signed) (of.of-Unary vars op a) ∙ r.signed (meaning vars a)))
      (λ n b. typed.reduced r.nodes (own_typed vars a x k))
