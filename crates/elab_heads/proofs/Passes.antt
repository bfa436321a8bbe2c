-- Names in the head of a generate loop.
use Rattle.std.proofs.Common.{◌≡◌, ◌∙◌, sym, ap, refl, subst, ℕ, Bool, true, false, cond, List, [], ◌∷◌, Option, Some, None}
use Rattle.std.specs.Prelude.{ℤ}
use Rattle.std.specs.Str.{bytes_eq}
use Rattle.bit_values.specs.Values as value
use Rattle.source_meaning.specs.Environment.{Named, constant, Environment}
use Rattle.scope_meaning.specs.Constants.{Constant, constants, stands_for}
use Rattle.scope_meaning.specs.Scope.{Frame, Meant, a_constant, meaning_of, constant_in, constants_at, is_free_genvar, with_genvar, genvar_constant}
use Rattle.elab_constants.specs.declared.names.ConstantValue.{ConstantValue}
use Rattle.elab_names.specs.declared.scope_names.ScopeNames.{ScopeNames}
use Rattle.elab_names.specs.Meanings.{environment_by}
use Rattle.elab_heads.specs.Passes.{IsGenvarValue, IsPassValue, pass_or}

abbrev frame : List ℕ → ℤ → Frame
frame name n = record { number = 0; declared = []; genvar = Some (genvar_constant name n); known = [] }

stands : (n : ℤ) (v : ConstantValue) → IsGenvarValue n v → constant v.value.width v.signed v.value.bits ≡ constant 32 true (value.modulo 32 n)
stands n v h = ap (λ w. constant w v.signed v.value.bits) h.width ∙ ap (λ s. constant 32 s v.value.bits) h.signed ∙ ap (constant 32 true) h.bits

inner : (fs : List Frame) (name : List ℕ) (n : ℤ) (v : ConstantValue) (q : List ℕ) (outer : Named) → IsGenvarValue n v → outer ≡ stands_for (constants_at fs q)
    → pass_or (Some v) name q outer ≡ stands_for (constants_at (frame name n ∷ fs) q)
unfolding meaning_of
inner fs name n v q outer is h =
    elim (bytes_eq q name) as (λ b. cond b (constant v.value.width v.signed v.value.bits) outer
    ≡ stands_for (constant_in (cond b (Some (a_constant (genvar_constant name n))) (meaning_of fs q)))) [ true ↦ stands n v is | false ↦ h ]

at_name : (fs : List Frame) (name : List ℕ) (n : ℤ) (q : List ℕ) (outer : Named) → outer ≡ stands_for (constants_at fs q)
    → (b : Bool) (v : Option ConstantValue) → IsPassValue b n v → pass_or v name q outer ≡ stands_for (constants_at (cond b (frame name n ∷ fs) fs) q)
at_name fs name n q outer h true (Some v) is = inner fs name n v q outer is h
at_name fs name n q outer h true None is = absurd is
at_name fs name n q outer h false (Some v) is = absurd is
at_name fs name n q outer h false None is = h

-- the names in a pass stand for what they stand for there
pub passes : (fs : List Frame) (ss : List ScopeNames) (name : List ℕ) (n : ℤ) (free : Bool) (v : Option ConstantValue)
    → environment_by ss ≡ constants (constants_at fs) → free ≡ is_free_genvar (meaning_of fs name) → IsPassValue free n v
    → record { scope = 0; look = λ q. pass_or v name q ((environment_by ss).look q) } ≡ constants (constants_at (with_genvar name n fs))
passes fs ss name n free v are e is = λ i. record {
  scope = 0;
  look = λ q. at_name fs name n q ((environment_by ss).look q) (ap (λ (env : Environment). env.look q) are)
      (is_free_genvar (meaning_of fs name)) v (subst (λ b. IsPassValue b n v) e is) i;
}
