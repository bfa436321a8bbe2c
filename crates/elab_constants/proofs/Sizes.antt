-- Terms of values, and values at other sizes.
use Rattle.std.proofs.Common.{◌≡◌, ◌∙◌, sym, ap, subst, ℕ, ◌≤◌, Bool, cond, [], arith, nat_lt}
use Rattle.std.proofs.lemmas.Bool.{le-ltb}
use Rattle.bit_values.specs.Values as value
use Rattle.bit_values.specs.declared.value.Bits.{Bits}
use Rattle.circuit_run.specs.States.{State}
use Rattle.source_meaning.specs.Meaning.{Meaning, own, in_size, by_itself}
use Rattle.elab_constants.specs.declared.sized.SizedTerm.{SizedTerm}
use Rattle.elab_constants.specs.declared.term.Term.{Term, fold-roll-Term}
use Rattle.elab_constants.specs.declared.term.Term.TheVariants as v
use Rattle.elab_constants.specs.declared.term.Term.TheOpen as t
use Rattle.elab_constants.specs.declared.term.Arithmetic.{Arithmetic}
use Rattle.elab_constants.specs.declared.term.Shift.{Shift}
use Rattle.elab_constants.specs.Terms.{at_size, arithmetic_value, shift_value, layer_value, term_value}
use Rattle.elab_constants.specs.Sized.{IsSized, IsNumberOf}

-- ---- the value of a term, by its layer

module _ (n : ℕ) (by_sign : Bool) where
  pub of-Number : (of : Bits) → term_value n by_sign (v.Number of) ≡ at_size of.width n by_sign of.bits
  of-Number of = ap (term_value n by_sign) (sym (v.rolls-Number of)) ∙ fold-roll-Term ℕ (layer_value n by_sign) (t.Number of)

  pub of-Negative : (x : Term) → term_value n by_sign (v.Negative x) ≡ value.neg n (term_value n by_sign x)
  of-Negative x = ap (term_value n by_sign) (sym (v.rolls-Negative x)) ∙ fold-roll-Term ℕ (layer_value n by_sign) (t.Negative x)

  pub of-Complement : (x : Term) → term_value n by_sign (v.Complement x) ≡ value.not n (term_value n by_sign x)
  of-Complement x = ap (term_value n by_sign) (sym (v.rolls-Complement x)) ∙ fold-roll-Term ℕ (layer_value n by_sign) (t.Complement x)

  pub of-Arithmetic : (op : Arithmetic) (x y : Term)
      → term_value n by_sign (v.Arithmetic op x y) ≡ arithmetic_value op n by_sign (term_value n by_sign x) (term_value n by_sign y)
  of-Arithmetic op x y =
      ap (term_value n by_sign) (sym (v.rolls-Arithmetic op x y)) ∙ fold-roll-Term ℕ (layer_value n by_sign) (t.Arithmetic op x y)

  pub of-Shift : (op : Shift) (x : Term) (by : Bits)
      → term_value n by_sign (v.Shift op x by) ≡ shift_value op n by_sign (term_value n by_sign x) by.bits
  of-Shift op x by = ap (term_value n by_sign) (sym (v.rolls-Shift op x by)) ∙ fold-roll-Term ℕ (layer_value n by_sign) (t.Shift op x by)

-- ---- sizes

-- at a size that is no less, a value is extended
pub at_size_is : (w n : ℕ) (by_sign : Bool) (x : ℕ) → w ≤ n → at_size w n by_sign x ≡ in_size w n by_sign x
at_size_is w n by_sign x h =
    ap (λ (b : Bool). cond (nat_lt w n) (value.extend w n by_sign x) (cond b (value.truncate n x) x)) (le-ltb n w h)

-- the value by itself
pub own_is : (m : Meaning) (t : SizedTerm) → IsSized m t → term_value t.size t.signed t.term ≡ own m []
own_is m t s =
    ap (λ n. term_value n t.signed t.term) s.size ∙ ap (λ b. term_value m.size b t.term) s.signed ∙ s.values m.size m.signed (omega arith)

-- a value that is brought to its context's size
pub by_itself_is : (w x : ℕ) (signed constant : Bool) (f : State → ℕ) (t : SizedTerm) → IsNumberOf w x signed t → f [] ≡ x
    → IsSized (by_itself w signed constant f) t
by_itself_is w x signed constant f t k e =
    record { size = k.size; signed = k.signed; values = λ n b h. k.values n b h ∙ ap (in_size w n b) (sym e) }

-- the same, where width and value are known to be equal to others
pub number_is : (w x : ℕ) (signed : Bool) (t : SizedTerm) (u y : ℕ) → IsNumberOf u y signed t → u ≡ w → y ≡ x → IsNumberOf w x signed t
number_is w x signed t u y k h e = subst (λ z. IsNumberOf w z signed t) e (subst (λ z. IsNumberOf z y signed t) h k)
