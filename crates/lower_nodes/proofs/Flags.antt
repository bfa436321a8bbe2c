-- What is refused in two expressions together, and in what they are parts of.
use Rattle.std.proofs.Common.{◌≡◌, ◌∙◌, sym, ap, refl, subst, ℕ, ◌≤◌, Bool, true, false, ◌&&◌, Result, Ok, Err, arith}
use Rattle.std.specs.Prelude.{nat_le, IfOk}
use Rattle.std.specs.declared.alloc.AllocError.{AllocError}
use Rattle.elab_types.specs.declared.flat_source.FlatVar.{FlatVar}
use Rattle.std.specs.Prelude.{List}
use Rattle.elab_types.specs.declared.flat_expression.FlatExpr.{FlatExpr}
use Rattle.flat_meaning.specs.Faults.{check}
use Rattle.design_meaning.proofs.ListLaws.{and_from}
use Rattle.lower_forms.specs.declared.sized.SizedForm.{SizedForm}
use Rattle.lower_meaning.proofs.CheckMeans.{check_means}
use Rattle.lower_nodes.specs.declared.fault.ExpressionFault.{ExpressionFault}
use Rattle.lower_nodes.specs.declared.fault.ExpressionFault.TheVariants.{BadSelect, WidthPast128, NoMemory}
use Rattle.lower_nodes.specs.Faults.{both, kept}
use Rattle.lower_nodes.specs.Reads.{Gives, IsForm, Lowers}

pub and_true : (a : Bool) → (a && true) ≡ a
and_true true = refl
and_true false = refl

pub left_false : (a b : Bool) → a ≡ false → (a && b) ≡ false
left_false a b h = ap (λ z. z && b) h

pub right_false : (a b : Bool) → b ≡ false → (a && b) ≡ false
right_false true b h = h
right_false false b h = refl

-- both are refused nothing, or the first of their faults is one of both
pub gives_both : {A B : Type 0} (P : A → Type 0) (Q : B → Type 0) (s z t w : Bool) (a : Result A ExpressionFault) (b : Result B ExpressionFault)
    → Gives s z P a → Gives t w Q b → Gives (s && t) (z && w) (λ (p : A × B). P p.0 × Q p.1) (both a b)
gives_both P Q s z t w (Ok a) (Ok b) h k = (and_from s t h.0 k.0, and_from z w h.1 k.1, (h.2, k.2))
gives_both P Q s z t w (Ok a) (Err NoMemory) h k = tt
gives_both P Q s z t w (Ok a) (Err BadSelect) h k = right_false s t k
gives_both P Q s z t w (Ok a) (Err WidthPast128) h k = (and_from s t h.0 k.0, right_false z w k.1)
gives_both P Q s z t w (Err NoMemory) (Ok b) h k = tt
gives_both P Q s z t w (Err BadSelect) (Ok b) h k = left_false s t h
gives_both P Q s z t w (Err WidthPast128) (Ok b) h k = (and_from s t h.0 k.0, left_false z w h.1)
gives_both P Q s z t w (Err NoMemory) (Err g) h k = tt
gives_both P Q s z t w (Err BadSelect) (Err NoMemory) h k = tt
gives_both P Q s z t w (Err BadSelect) (Err BadSelect) h k = left_false s t h
gives_both P Q s z t w (Err BadSelect) (Err WidthPast128) h k = left_false s t h
gives_both P Q s z t w (Err WidthPast128) (Err NoMemory) h k = tt
gives_both P Q s z t w (Err WidthPast128) (Err BadSelect) h k = right_false s t k
gives_both P Q s z t w (Err WidthPast128) (Err WidthPast128) h k = (and_from s t h.0 k.0, left_false z w h.1)

-- the same fault, whatever was asked for
pub other_fault : {A B : Type 0} (P : A → Type 0) (Q : B → Type 0) (s z : Bool) (f : ExpressionFault) → Gives s z P (Err f) → Gives s z Q (Err f)
other_fault P Q s z NoMemory h = tt
other_fault P Q s z BadSelect h = h
other_fault P Q s z WidthPast128 h = h

-- what is made of what was read
pub made_gives : {A B : Type 0} (P : A → Type 0) (Q : B → Type 0) (s z : Bool) (x : A) (m : Result B AllocError) (r : Result B ExpressionFault)
    → Gives s z P (Ok x) → (P x → IfOk m Q) → r ≡ kept m → Gives s z Q r
made_gives {A} {B} P Q s z x (Ok y) r h k i = let R : Result B ExpressionFault → Type 0 = Gives s z Q in subst R (sym i) (h.0, h.1, k h.2)
made_gives {A} {B} P Q s z x (Err f) r h k i = let R : Result B ExpressionFault → Type 0 = Gives s z Q in subst R (sym i) tt

-- the same of other flags that are equal
pub at_flags : {A : Type 0} (P : A → Type 0) (s z t w : Bool) (r : Result A ExpressionFault) → s ≡ t → z ≡ w → Gives s z P r → Gives t w P r
at_flags P s z t w r e f h = subst (λ b. Gives t b P r) f (subst (λ b. Gives b z P r) e h)

module _ (vars : List FlatVar) where
  -- What is refused of an expression is what is refused of its parts, and its own size where that is past 128.
  pub record Flags (a : FlatExpr) (s z : Bool) : Type 0 where
    pub selects : (check vars a).selects ≡ s
    pub sizes : (check vars a).sizes ≡ (z && nat_le (check vars a).meaning.size 128)

  -- the size of a form is at most 128
  small : (a : FlatExpr) (t : SizedForm) → IsForm vars a t → nat_le (check vars a).meaning.size 128 ≡ true
  small a t k = ap (λ m. nat_le m.size 128) (check_means vars a) ∙ ap (λ m. nat_le m 128) (sym k.size) ∙ fits t.size t.at_most
    where
      fits : (m : ℕ) → m ≤ 128 → nat_le m 128 ≡ true
      fits m h = grind (arith)

  -- a fault of the parts is one of the whole
  pub fails : {A B : Type 0} (P : A → Type 0) (Q : B → Type 0) (a : FlatExpr) (s z : Bool) (f : ExpressionFault) → Flags a s z → Gives s z P (Err f)
      → Gives (check vars a).selects (check vars a).sizes Q (Err f)
  fails P Q a s z NoMemory g h = tt
  fails P Q a s z BadSelect g h = g.selects ∙ h
  fails P Q a s z WidthPast128 g h = (g.selects ∙ h.0, g.sizes ∙ left_false z (nat_le (check vars a).meaning.size 128) h.1)

  -- where nothing is refused of the parts, a form of the whole is what is read
  pub reads : {A : Type 0} (P : A → Type 0) (a : FlatExpr) (s z : Bool) (x : A) (t : SizedForm) → Flags a s z → Gives s z P (Ok x) → IsForm vars a t
      → Lowers vars a (Ok t)
  reads P a s z x t g h k = (g.selects ∙ h.0, g.sizes ∙ and_from z (nat_le (check vars a).meaning.size 128) h.1 (small a t k), k)
