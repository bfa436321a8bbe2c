-- The typed form that a form has in a context.
use Rattle.std.specs.Prelude.{ℕ, Bool}
use Rattle.design_tree.specs.declared.typed.Typed.{Typed}
use Rattle.design_tree.specs.declared.typed.Typed.TheVariants as t
use Rattle.typed_form.specs.Nodes.{widened}
use Rattle.lower_forms.specs.declared.form.Form.{Form, Form-F, fold-Form}
use Rattle.lower_forms.specs.declared.form.Form.TheOpen as f
use Rattle.lower_forms.specs.Operators.{made}

-- one layer, its parts being typed
abbrev pub layer_settled : ℕ → Bool → Form-F Typed → Typed
layer_settled n by_sign (f.Alone size a) = widened size n by_sign a
layer_settled n by_sign (f.Unary op a) = t.Unary op a
layer_settled n by_sign (f.Binary op a b) = made op by_sign a b
layer_settled n by_sign (f.Shift op a by) = made op by_sign a by
layer_settled n by_sign (f.Choose test a b) = t.Choose test a b

-- a form in a context's size and sign
abbrev pub settled : ℕ → Bool → Form → Typed
settled n by_sign = fold-Form Typed (layer_settled n by_sign)
