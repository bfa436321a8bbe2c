-- Constants of parameters, by their forms.
use Rattle.std.proofs.Common.{◌≡◌, ◌∙◌, sym, ap, subst, ℕ, Bool, List, Some, Ok, Err}
use Rattle.vlog_tree.specs.declared.expression.RangeExpr.{RangeExpr}
use Rattle.vlog_tree.specs.declared.item.ParamForm.{ParamForm}
use Rattle.vlog_tree.specs.declared.item.ParamForm.TheVariants as form
use Rattle.source_meaning.specs.Meaning.{Meaning}
use Rattle.scope_meaning.specs.Constants.{Names, Constant, option_of}
use Rattle.scope_meaning.specs.Ranges.{parameter_constant, assigned, typed}
use Rattle.elab_constants.specs.declared.names.ConstantValue.{ConstantValue}
use Rattle.elab_ranges.specs.declared.fault.RangeFault.{RangeFault}
use Rattle.elab_ranges.specs.declared.fault.RangeFault.TheVariants as fault
use Rattle.elab_ranges.specs.declared.range.Span.{Span}
use Rattle.elab_ranges.specs.Bounds.{IsVector}
use Rattle.elab_ranges.specs.Parameters.{IsParameter}

abbrev constant : List ℕ → ℕ → Bool → ℕ → Constant
constant name w s b = record { name = name; width = w; signed = s; bits = b }

-- with equal parts
same : (name : List ℕ) (w w' : ℕ) (s s' : Bool) (b b' : ℕ) → w ≡ w' → s ≡ s' → b ≡ b' → constant name w s b ≡ constant name w' s' b'
same name w w' s s' b b' h k e = ap (λ x. constant name x s b) h ∙ ap (λ x. constant name w' x b) k ∙ ap (λ x. constant name w' s' x) e

module _ (known : Names) (m : Meaning) where
  pub ranged : (f : ParamForm) (signed : Bool) (range : RangeExpr) (s : Span) (v : ConstantValue) → f ≡ form.Ranged signed range → IsVector known range (Ok s)
      → v.value.width ≡ s.width → v.signed ≡ signed → v.value.bits ≡ assigned s.width m → IsParameter known m f (Ok v)
  ranged f signed range s v e is h k b name =
      ap (parameter_constant known name m) e ∙ ap (option_of (λ r. typed name r.width signed m)) is.1
      ∙ ap (λ c. Some c) (same name s.width v.value.width signed v.signed (assigned s.width m) v.value.bits (sym h) (sym k) (sym b))

  pub no_range : (f : ParamForm) (signed : Bool) (range : RangeExpr) (g : RangeFault) → f ≡ form.Ranged signed range → IsVector known range (Err g)
      → IsParameter known m f (Err g)
  no_range f signed range g e is = subst (λ z. IsParameter known m z (Err g)) (sym e) (of_fault g is)
    where
      of_fault : (h : RangeFault) → IsVector known range (Err h) → IsParameter known m (form.Ranged signed range) (Err h)
      of_fault fault.NoMemory i = tt
      of_fault fault.NotConstant i = i
      of_fault fault.BadSelect i = i
      of_fault fault.BadRange i = i
      of_fault fault.WidthPast128 i = i
