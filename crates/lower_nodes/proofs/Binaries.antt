-- The forms of binary operators and of `?:`.
use Rattle.std.proofs.Common.{◌≡◌, ◌∙◌, sym, ap, ap₂, refl, subst, ℕ, max, Bool, true, false, ◌&&◌, Some, List}
use Rattle.vlog_tree.specs.declared.operator.BinaryOp.{BinaryOp}
use Rattle.vlog_tree.specs.declared.operator.BinaryOp.TheVariants as binary
use Rattle.elab_types.specs.declared.flat_source.FlatVar.{FlatVar}
use Rattle.elab_types.specs.declared.flat_expression.FlatExpr.{FlatExpr}
use Rattle.elab_types.specs.declared.flat_expression.FlatExpr.TheVariants as e
use Rattle.design_tree.specs.declared.typed.Typed.{Typed}
use Rattle.source_meaning.specs.Meaning.{Meaning}
use Rattle.source_meaning.specs.Operators.{binary_of}
use Rattle.flat_meaning.specs.Expressions.{meaning}
use Rattle.flat_meaning.proofs.Meanings as of
use Rattle.typed_form.specs.Nodes.{arithmetic, shift, comparison, logical, test, widened}
use Rattle.typed_form.specs.TypedExpressions.{IsTyped, size, signed}
use Rattle.typed_form.specs.TypedExpressions as typed
use Rattle.lower_forms.specs.declared.form.Form.TheVariants as f
use Rattle.lower_forms.specs.declared.sized.SizedForm.{SizedForm}
use Rattle.lower_forms.specs.Operators.{made}
use Rattle.lower_forms.specs.Forms.{settled}
use Rattle.lower_forms.proofs.Settled.{of-Binary, of-Shift, of-Choose}
use Rattle.lower_nodes.specs.declared.binary.Sizing.{Sizing}
use Rattle.lower_nodes.specs.declared.binary.Sizing.TheVariants as sizing
use Rattle.lower_nodes.specs.Operators.{own, test_of, sizing_of, compared, Is, IsComparison, IsSized, IsBinary, IsChoice}
use Rattle.lower_nodes.specs.Reads.{IsForm}
use Rattle.lower_nodes.proofs.Forms.{form_is, alone_is, own_typed}

-- two tests with an operator between
abbrev tests_made : BinaryOp → Typed → Typed → Typed
tests_made op a b = made op false (test a) (test b)

-- the nodes of an operator of a sizing, its size and its sign
abbrev Sizes : (Meaning → Meaning → ℕ) → (Meaning → Meaning → Bool) → BinaryOp → Type 0
Sizes n by_sign op = ((a b : Meaning) → n a b ≡ (binary_of op a b).size) × ((a b : Meaning) → by_sign a b ≡ (binary_of op a b).signed)

abbrev HasSizing : Sizing → BinaryOp → Type 0
HasSizing sizing.InContext op = ((b : Bool) → arithmetic op b ≡ Some (made op b)) × Sizes (λ m n. max m.size n.size) (λ m n. m.signed && n.signed) op
HasSizing sizing.Shift op = ((b : Bool) → shift op b ≡ Some (made op b)) × Sizes (λ m n. m.size) (λ m n. m.signed) op
HasSizing sizing.Comparison op = ((b : Bool) → comparison op b ≡ Some (made op b)) × Sizes (λ m n. 1) (λ m n. false) op
HasSizing sizing.Tests op = ((b : Bool) → logical op ≡ Some (tests_made op)) × Sizes (λ m n. 1) (λ m n. false) op

signs : (P : Bool → Type 0) → P true → P false → (b : Bool) → P b
signs P h k true = h
signs P h k false = k

has_sizing : (op : BinaryOp) → HasSizing (sizing_of op) op
has_sizing binary.Divide = (signs (λ b. arithmetic binary.Divide b ≡ Some (made binary.Divide b)) refl refl, (λ m n. refl, λ m n. refl))
has_sizing binary.Remainder = (signs (λ b. arithmetic binary.Remainder b ≡ Some (made binary.Remainder b)) refl refl, (λ m n. refl, λ m n. refl))
has_sizing binary.ArithmeticShiftRight =
    (signs (λ b. shift binary.ArithmeticShiftRight b ≡ Some (made binary.ArithmeticShiftRight b)) refl refl, (λ m n. refl, λ m n. refl))
has_sizing binary.Less = (signs (λ b. comparison binary.Less b ≡ Some (made binary.Less b)) refl refl, (λ m n. refl, λ m n. refl))
has_sizing binary.LessOrEqual = (signs (λ b. comparison binary.LessOrEqual b ≡ Some (made binary.LessOrEqual b)) refl refl, (λ m n. refl, λ m n. refl))
has_sizing binary.Greater = (signs (λ b. comparison binary.Greater b ≡ Some (made binary.Greater b)) refl refl, (λ m n. refl, λ m n. refl))
has_sizing binary.GreaterOrEqual = (signs (λ b. comparison binary.GreaterOrEqual b ≡ Some (made binary.GreaterOrEqual b)) refl refl, (λ m n. refl, λ m n. refl))
has_sizing _ = (λ b. refl, (λ m n. refl, λ m n. refl))

-- the form of a comparison, from its nodes
pub comparison_is : (op : BinaryOp) (l r : SizedForm) (n : ℕ) (by_sign : Bool) (a b all : Typed) (z : SizedForm) → n ≡ max l.size r.size
    → by_sign ≡ (l.signed && r.signed) → a ≡ settled n by_sign l.form → b ≡ settled n by_sign r.form → all ≡ made op by_sign a b
    → Is 1 false (f.Alone 1 all) z → IsComparison op l r z
comparison_is op l r n by_sign a b all z e g h k i is = record {
  size = is.size;
  signed = is.signed;
  form = is.form
      ∙ ap (f.Alone 1) (i ∙ ap₂ (made op by_sign) h k ∙ ap₂ (λ m s. made op s (settled m s l.form) (settled m s r.form)) e g);
}

module _ (vars : List FlatVar) where
  -- operands at their greater size, read by their signs where both are signed
  compare_typed : (op : BinaryOp) (g : Typed → Typed → Typed) (a b : FlatExpr) (m : ℕ) (s : Bool) (x y : Typed) (n : ℕ) (by_sign : Bool)
      → m ≡ max (size vars a) (size vars b) → s ≡ (signed vars a && signed vars b) → comparison op s ≡ Some g
      → IsTyped vars a m s x → IsTyped vars b m s y → IsTyped vars (e.Binary op a b) n by_sign (widened 1 n by_sign (g x y))
  compare_typed op g a b m s x y n by_sign em es h hx hy =
      let s' = signed vars a && signed vars b in
      typed.compared (subst (λ z. comparison op z ≡ Some g) es h)
      (subst (λ z. IsTyped vars a z s' x) em (subst (λ z. IsTyped vars a m z x) es hx))
      (subst (λ z. IsTyped vars b z s' y) em (subst (λ z. IsTyped vars b m z y) es hy))

  -- the size and the sign of an operator
  size_is : (op : BinaryOp) (a b : FlatExpr) → (binary_of op (meaning vars a) (meaning vars b)).size ≡ size vars (e.Binary op a b)
  size_is op a b = sym (ap (λ m. m.size) (of.of-Binary vars op a b))

  sign_is : (op : BinaryOp) (a b : FlatExpr) → (binary_of op (meaning vars a) (meaning vars b)).signed ≡ signed vars (e.Binary op a b)
  sign_is op a b = sym (ap (λ m. m.signed) (of.of-Binary vars op a b))

  sized_form : (s : Sizing) (op : BinaryOp) (a b : FlatExpr) (l r t : SizedForm) → HasSizing s op → IsForm vars a l → IsForm vars b r → IsSized s op l r t
      → IsForm vars (e.Binary op a b) t
  sized_form sizing.InContext op a b l r t h k j is =
      form_is vars (e.Binary op a b) (max l.size r.size) (l.signed && r.signed) (f.Binary op l.form r.form) t is
      (ap₂ max k.size j.size ∙ h.1.0 (meaning vars a) (meaning vars b) ∙ size_is op a b)
      (ap₂ ◌&&◌ k.signed j.signed ∙ h.1.1 (meaning vars a) (meaning vars b) ∙ sign_is op a b)
      (λ n z. subst (IsTyped vars (e.Binary op a b) n z) (sym (of-Binary n z op l.form r.form)) (typed.computed (h.0 z) (k.forms n z) (j.forms n z)))
  sized_form sizing.Shift op a b l r t h k j is =
      form_is vars (e.Binary op a b) l.size l.signed (f.Shift op l.form (own r)) t is
      (k.size ∙ h.1.0 (meaning vars a) (meaning vars b) ∙ size_is op a b)
      (k.signed ∙ h.1.1 (meaning vars a) (meaning vars b) ∙ sign_is op a b)
      (λ n z. subst (IsTyped vars (e.Binary op a b) n z) (sym (of-Shift n z op l.form (own r))) (typed.shifted (h.0 z) (k.forms n z) (own_typed vars b r j)))
  sized_form sizing.Comparison op a b l r t h k j is =
      let m = max l.size r.size in
      let s = l.signed && r.signed in
      alone_is vars (e.Binary op a b) 1 false (compared op l r) t is
      (h.1.0 (meaning vars a) (meaning vars b) ∙ size_is op a b) (h.1.1 (meaning vars a) (meaning vars b) ∙ sign_is op a b)
      (λ n z. compare_typed op (made op s) a b m s (settled m s l.form) (settled m s r.form) n z (ap₂ max k.size j.size) (ap₂ ◌&&◌ k.signed j.signed) (h.0 s)
      (k.forms m s) (j.forms m s))
  sized_form sizing.Tests op a b l r t h k j is =
      alone_is vars (e.Binary op a b) 1 false (tests_made op (own l) (own r)) t is
      (h.1.0 (meaning vars a) (meaning vars b) ∙ size_is op a b) (h.1.1 (meaning vars a) (meaning vars b) ∙ sign_is op a b)
      (λ n z. typed.tested (h.0 z) (own_typed vars a l k) (own_typed vars b r j))

  -- the form of a binary operator
  pub binary_form : (op : BinaryOp) (a b : FlatExpr) (l r t : SizedForm) → IsForm vars a l → IsForm vars b r → IsBinary op l r t
      → IsForm vars (e.Binary op a b) t
  binary_form op a b l r t k j is = sized_form (sizing_of op) op a b l r t (has_sizing op) k j is

  -- the form of `?:`
  pub choice_form : (on a b : FlatExpr) (c l r t : SizedForm) → IsForm vars on c → IsForm vars a l → IsForm vars b r → IsChoice c l r t
      → IsForm vars (e.Choose on a b) t
  choice_form on a b c l r t i k j is =
      form_is vars (e.Choose on a b) (max l.size r.size) (l.signed && r.signed) (f.Choose (test_of c) l.form r.form) t is
      (ap₂ max k.size j.size ∙ sym (ap (λ m. m.size) (of.of-Choose vars on a b)))
      (ap₂ ◌&&◌ k.signed j.signed ∙ sym (ap (λ m. m.signed) (of.of-Choose vars on a b)))
      (λ n z. subst (IsTyped vars (e.Choose on a b) n z) (sym (of-Choose n z (test_of c) l.form r.form))
      (typed.chosen (own_typed vars on c i) (k.forms n z) (j.forms n z)))
