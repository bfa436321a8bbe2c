-- A form in a context, by its layer.
use Rattle.std.proofs.Common.{◌≡◌, ◌∙◌, sym, ap, ℕ, Bool}
use Rattle.vlog_tree.specs.declared.operator.BinaryOp.{BinaryOp}
use Rattle.design_tree.specs.declared.operator.TypedUnary.{TypedUnary}
use Rattle.design_tree.specs.declared.typed.Typed.{Typed}
use Rattle.design_tree.specs.declared.typed.Typed.TheVariants as t
use Rattle.typed_form.specs.Nodes.{widened}
use Rattle.lower_forms.specs.declared.form.Form.{Form, fold-roll-Form}
use Rattle.lower_forms.specs.declared.form.Form.TheVariants as v
use Rattle.lower_forms.specs.declared.form.Form.TheOpen as f
use Rattle.lower_forms.specs.Operators.{made}
use Rattle.lower_forms.specs.Forms.{layer_settled, settled}

module _ (n : ℕ) (by_sign : Bool) where
  pub of-Alone : (size : ℕ) (a : Typed) → settled n by_sign (v.Alone size a) ≡ widened size n by_sign a
  of-Alone size a = ap (settled n by_sign) (sym (v.rolls-Alone size a)) ∙ fold-roll-Form Typed (layer_settled n by_sign) (f.Alone size a)

  pub of-Unary : (op : TypedUnary) (x : Form) → settled n by_sign (v.Unary op x) ≡ t.Unary op (settled n by_sign x)
  of-Unary op x = ap (settled n by_sign) (sym (v.rolls-Unary op x)) ∙ fold-roll-Form Typed (layer_settled n by_sign) (f.Unary op x)

  pub of-Binary : (op : BinaryOp) (x y : Form) → settled n by_sign (v.Binary op x y) ≡ made op by_sign (settled n by_sign x) (settled n by_sign y)
  of-Binary op x y = ap (settled n by_sign) (sym (v.rolls-Binary op x y)) ∙ fold-roll-Form Typed (layer_settled n by_sign) (f.Binary op x y)

  pub of-Shift : (op : BinaryOp) (x : Form) (by : Typed) → settled n by_sign (v.Shift op x by) ≡ made op by_sign (settled n by_sign x) by
  of-Shift op x by = ap (settled n by_sign) (sym (v.rolls-Shift op x by)) ∙ fold-roll-Form Typed (layer_settled n by_sign) (f.Shift op x by)

  pub of-Choose : (test : Typed) (x y : Form) → settled n by_sign (v.Choose test x y) ≡ t.Choose test (settled n by_sign x) (settled n by_sign y)
  of-Choose test x y = ap (settled n by_sign) (sym (v.rolls-Choose test x y)) ∙ fold-roll-Form Typed (layer_settled n by_sign) (f.Choose test x y)
