-- The value of a parameter, given or its own.
use Rattle.std.proofs.Common.{◌≡◌, ◌∙◌, ap, sym, refl, subst, ℕ, Bool, true, false, List, [], ◌∷◌, map, Option, Some, None, Result, Ok, Err}
use Rattle.vlog_tree.specs.declared.expression.Expr.{Expr}
use Rattle.vlog_tree.specs.declared.item.ParamForm.{ParamForm}
use Rattle.vlog_tree.specs.declared.item.ParamName.{ParamName}
use Rattle.source_meaning.specs.Meaning.{Meaning}
use Rattle.scope_meaning.specs.Constants.{Names, Constant, option_of, and_then}
use Rattle.scope_meaning.specs.Heads.{parameter_value, parameter_of, names_here, or_else}
use Rattle.scope_meaning.specs.Overrides.{given_to}
use Rattle.scope_meaning.specs.Ranges.{constant_value, parameter_constant}
use Rattle.scope_meaning.specs.Scope.{Here, At}
use Rattle.scope_meaning.specs.Wanted.{want, own_value, unless_given}
use Rattle.elab_constants.specs.declared.names.ConstantValue.{ConstantValue}
use Rattle.elab_constants.specs.declared.sized.SizedTerm.{SizedTerm}
use Rattle.elab_constants.specs.Sized.{IsSized}
use Rattle.elab_overrides.specs.Given.{IsGiven}
use Rattle.elab_ranges.specs.declared.fault.RangeFault.{RangeFault}
use Rattle.elab_ranges.specs.Parameters.{named}
use Rattle.elab_faults.specs.Flaws.{first_flaw, flaws_in, Finds}
use Rattle.elab_faults.proofs.Single.{expr-right, expr-wrong}
use Rattle.elab_parameters.specs.declared.form.FormSize.{FormSize}
use Rattle.elab_parameters.specs.Forms.{sized, HasSize}
use Rattle.elab_parameters.specs.Values.{given_value, IsConstantOf}

own-is : (here : Here) (is_local : Bool) (p : ParamName) → own_value here is_local p ≡ unless_given (given_value here is_local p.name.name) p.value
own-is here true p = refl
own-is here false p = refl

value-is : (here : Here) (known : Names) (is_local : Bool) (p : ParamName)
    → parameter_value here known is_local p ≡ or_else (given_value here is_local p.name.name) (constant_value known p.value)
value-is here known true p = refl
value-is here known false p = refl

-- of a value that may be given
abbrev Takes : Names → FormSize → ParamName → Option Meaning → Result ConstantValue RangeFault → Type 0
Takes known size p o r =
    Finds (λ v. option_of (sized size p.name.name) (or_else o (constant_value known p.value)) ≡ Some (named p.name.name v))
    (flaws_in (map (want known) (unless_given o p.value))) r

takes : (here : Here) (known : Names) (is_local : Bool) (size : FormSize) (p : ParamName) (r : Result ConstantValue RangeFault)
    → Takes known size p (given_value here is_local p.name.name) r
    → Finds (IsConstantOf here known is_local size p) (flaws_in (map (want known) (own_value here is_local p))) r
takes here known true size p r h = h
takes here known false size p r h = h

-- One is given,
pub given : (here : Here) (known : Names) (is_local : Bool) (size : FormSize) (p : ParamName) (t : SizedTerm) (v : ConstantValue)
    → IsGiven (given_value here is_local p.name.name) (Some t)
    → ((m : Meaning) (name : List ℕ) → IsSized m t → named name v ≡ sized size name m)
    → Finds (IsConstantOf here known is_local size p) (flaws_in (map (want known) (own_value here is_local p))) (Ok v)
given here known is_local size p t v is same = takes here known is_local size p (Ok v) (by (given_value here is_local p.name.name) is)
  where
    by : (o : Option Meaning) → IsGiven o (Some t) → Takes known size p o (Ok v)
    by (Some m) h = (refl, ap (λ (c : Constant). Some c) (sym (same m p.name.name h)))
    by None h = absurd h

-- or none is, and its own counts.
pub not_given : (here : Here) (known : Names) (is_local : Bool) (size : FormSize) (p : ParamName) (r : Result ConstantValue RangeFault)
    → IsGiven (given_value here is_local p.name.name) None
    → Finds (λ v. option_of (sized size p.name.name) (constant_value known p.value) ≡ Some (named p.name.name v)) (flaws_in (want known p.value ∷ [])) r
    → Finds (IsConstantOf here known is_local size p) (flaws_in (map (want known) (own_value here is_local p))) r
not_given here known is_local size p r is h = takes here known is_local size p r (by (given_value here is_local p.name.name) is)
  where
    by : (o : Option Meaning) → IsGiven o None → Takes known size p o r
    by (Some m) k = absurd k
    by None k = h

-- the own value as a constant
pub own : (known : Names) (e : Expr) (size : FormSize) (name : List ℕ) (v : ConstantValue) (m : Meaning)
    → first_flaw (flaws_in (want known e ∷ [])) ≡ None → constant_value known e ≡ Some m → named name v ≡ sized size name m
    → (first_flaw (flaws_in (want known e ∷ [])) ≡ None) × (option_of (sized size name) (constant_value known e) ≡ Some (named name v))
own known e size name v m calm is same = (calm, ap (option_of (sized size name)) is ∙ ap (λ (c : Constant). Some c) (sym same))

-- A parameter with a flaw in its value has none.
pub valueless : (here : Here) (known : Names) (is_local : Bool) (p : ParamName) (f : RangeFault)
    → first_flaw (flaws_in (map (want known) (own_value here is_local p))) ≡ Some f → parameter_value here known is_local p ≡ None
valueless here known true p f e = expr-wrong known p.value f e
valueless here known false p f e = by (given_to here.given p.name.name) e
  where
    by : (o : Option Meaning) → first_flaw (flaws_in (map (want known) (unless_given o p.value))) ≡ Some f → or_else o (constant_value known p.value) ≡ None
    by (Some m) h = cc
    by None h = expr-wrong known p.value f h

-- the constant of a parameter whose form has a size
pub by_size : (before : Names) (f : ParamForm) (size : FormSize) (name : List ℕ) (o : Option Meaning) → HasSize before f size
    → and_then o (λ m. parameter_constant before name m f) ≡ option_of (sized size name) o
by_size before f size name (Some m) has = has name m
by_size before f size name None has = refl

-- of one whose form gives none
pub by_none : (before : Names) (f : ParamForm) (name : List ℕ) (o : Option Meaning) → ((n : List ℕ) (m : Meaning) → parameter_constant before n m f ≡ None)
    → and_then o (λ m. parameter_constant before name m f) ≡ None
by_none before f name (Some m) none = none name m
by_none before f name None none = refl
