-- Forms of what is valued by itself, and forms by themselves.
use Rattle.std.proofs.Common.{◌≡◌, ◌∙◌, sym, ap, subst, ℕ, Bool, List}
use Rattle.elab_types.specs.declared.flat_source.FlatVar.{FlatVar}
use Rattle.elab_types.specs.declared.flat_expression.FlatExpr.{FlatExpr}
use Rattle.design_tree.specs.declared.typed.Typed.{Typed}
use Rattle.typed_form.specs.Nodes.{widened}
use Rattle.typed_form.specs.TypedExpressions.{IsTyped, IsTypedAlone, alone, size, signed}
use Rattle.lower_forms.specs.declared.form.Form.{Form}
use Rattle.lower_forms.specs.declared.form.Form.TheVariants as f
use Rattle.lower_forms.specs.declared.sized.SizedForm.{SizedForm}
use Rattle.lower_forms.specs.Forms.{settled}
use Rattle.lower_forms.proofs.Settled.{of-Alone}
use Rattle.lower_nodes.specs.Operators.{own, Is}
use Rattle.lower_nodes.specs.Reads.{IsForm}

module _ (vars : List FlatVar) where
  -- a form by what it is in each context
  pub form_is : (a : FlatExpr) (n : ℕ) (by_sign : Bool) (form : Form) (t : SizedForm) → Is n by_sign form t → n ≡ size vars a → by_sign ≡ signed vars a
      → ((m : ℕ) (b : Bool) → IsTyped vars a m b (settled m b form)) → IsForm vars a t
  form_is a n by_sign form t is e g k = record {
    size = is.size ∙ e;
    signed = is.signed ∙ g;
    forms = λ m b. subst (λ z. IsTyped vars a m b (settled m b z)) (sym is.form) (k m b);
  }

  -- the form of what is valued by itself
  pub alone_is : (a : FlatExpr) (n : ℕ) (by_sign : Bool) (x : Typed) (t : SizedForm) → Is n by_sign (f.Alone n x) t → n ≡ size vars a → by_sign ≡ signed vars a
      → ((m : ℕ) (b : Bool) → IsTyped vars a m b (widened n m b x)) → IsForm vars a t
  alone_is a n by_sign x t is e g k =
      form_is a n by_sign (f.Alone n x) t is e g (λ m b. subst (IsTyped vars a m b) (sym (of-Alone m b n x)) (k m b))

  -- a form by itself
  pub own_typed : (a : FlatExpr) (t : SizedForm) → IsForm vars a t → IsTypedAlone vars a (own t)
  own_typed a t k =
      alone (subst (λ n. IsTyped vars a n (signed vars a) (own t)) k.size (subst (λ b. IsTyped vars a t.size b (own t)) k.signed (k.forms t.size t.signed)))
