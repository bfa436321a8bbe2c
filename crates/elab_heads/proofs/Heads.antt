-- What the head of a generate loop gives.
use Rattle.std.proofs.Common.{◌≡◌, ◌∙◌, sym, ap, refl, subst, ℕ, Bool, List, [], ◌∷◌, Option, Some, None, Result, Ok, Err}
use Rattle.std.specs.Prelude.{ℤ, pos}
use Rattle.bit_values.specs.Values as value
use Rattle.vlog_tree.specs.declared.expression.Expr.{Expr}
use Rattle.source_meaning.specs.Meaning.{Meaning, holds}
use Rattle.scope_meaning.specs.Constants.{Names, constants, read, option_of}
use Rattle.scope_meaning.specs.Ranges.{constant_value, assigned}
use Rattle.scope_meaning.specs.Scope.{Frame, constants_at, with_genvar}
use Rattle.scope_meaning.specs.Heads.{genvar_value, test_of}
use Rattle.scope_meaning.specs.Wanted.{Wanted, want, or_zero}
use Rattle.elab_ranges.specs.declared.fault.RangeFault.{RangeFault}
use Rattle.elab_ranges.specs.declared.fault.RangeFault.TheVariants as fault
use Rattle.elab_faults.specs.Flaws.{Flaws, flaws_in, first_flaw, both_flaws, Finds, both}
use Rattle.elab_faults.proofs.Flaws.{finds_both, finds_same}
use Rattle.elab_faults.proofs.Single.{expr-right, expr-wrong}
use Rattle.elab_faults.proofs.Lists.{in-append}
use Rattle.elab_heads.specs.Passes.{value_or_zero, head_wanted}

abbrev meant : Names → Expr → Meaning
meant known e = (read (constants known) e).meaning

pub test-is : (known : Names) (e : Expr) (result : Bool) → first_flaw (flaws_in (want known e ∷ [])) ≡ None → result ≡ holds (meant known e) []
    → test_of known e ≡ Some result
test-is known e result h is = ap (option_of (λ m. holds m [])) (expr-right known e h) ∙ ap Some (sym is)

pub genvar-is : (known : Names) (e : Expr) (bits : ℕ) (result : ℤ) → first_flaw (flaws_in (want known e ∷ [])) ≡ None → bits ≡ assigned 32 (meant known e)
    → result ≡ value.signed 32 bits → genvar_value known e ≡ Some result
genvar-is known e bits result h is r =
    ap (option_of (λ m. value.signed 32 (assigned 32 m))) (expr-right known e h) ∙ ap Some (sym (r ∙ ap (value.signed 32) is))

-- three expressions
three : (x y z : Wanted) → both_flaws (flaws_in (x ∷ [])) (both_flaws (flaws_in (y ∷ [])) (flaws_in (z ∷ []))) ≡ flaws_in (x ∷ y ∷ z ∷ [])
three x y z = sym (in-append (x ∷ []) (y ∷ z ∷ []) ∙ ap (both_flaws (flaws_in (x ∷ []))) (in-append (y ∷ []) (z ∷ [])))

abbrev pub Is : Names → Expr → ℤ → Type 0
Is known e n = genvar_value known e ≡ Some n

abbrev pub within : List Frame → List ℕ → ℤ → Names
within fs name n = constants_at (with_genvar name n fs)

all-finds : (known : Names) (from : Expr) (y z : Wanted) (a : Result ℤ RangeFault) (b : Result Bool RangeFault) (c : Result ℤ RangeFault) (Q : Bool
    → Type 0) (R : ℤ → Type 0)
    → Finds (Is known from) (flaws_in (want known from ∷ [])) a → Finds Q (flaws_in (y ∷ [])) b → Finds R (flaws_in (z ∷ [])) c
    → Finds (λ (p : ℤ × (Bool × ℤ)). Is known from p.0 × (Q p.1.0 × R p.1.1)) (flaws_in (want known from ∷ y ∷ z ∷ [])) (both a (both b c))
all-finds known from y z a b c Q R h k l =
    finds_same _ _ _ (both a (both b c)) (three (want known from) y z)
    (finds_both (Is known from) (λ (p : Bool × ℤ). Q p.0 × R p.1) (flaws_in (want known from ∷ [])) (both_flaws (flaws_in (y ∷ [])) (flaws_in (z ∷ []))) a
    (both b c) h
    (finds_both Q R (flaws_in (y ∷ [])) (flaws_in (z ∷ [])) b c k l))

no_value : (known : Names) (from : Expr) (f : RangeFault) → first_flaw (flaws_in (want known from ∷ [])) ≡ Some f → or_zero (genvar_value known from) ≡ pos 0
no_value known from f h = ap (λ m. or_zero (option_of (λ m. value.signed 32 (assigned 32 m)) m)) (expr-wrong known from f h)

abbrev pub First : Names → Expr → ℤ × (Bool × ℤ) → Type 0
First known from p = Is known from p.0 × (Unit {0} × Unit {0})

spoiled : (w : Flaws) (known : Names) (from : Expr) (o : Result (Bool × ℤ) RangeFault) → Finds (First known from) w (both (Err fault.NoMemory) o)
spoiled w known from (Ok p) = tt
spoiled w known from (Err g) = tt

plain : {A : Type 0} (P : A → Type 0) (w : Flaws) (r : Result A RangeFault) → Finds P w r → Finds (λ x. Unit {0}) w r
plain P w (Ok x) f = (f.0, tt)
plain P w (Err g) f = f

-- with a value that test and step are read with
read_with : (fs : List Frame) (name : List ℕ) (from test step : Expr) (n : ℤ) → or_zero (genvar_value (constants_at fs) from) ≡ n
    → (a : Result ℤ RangeFault) (b : Result Bool RangeFault) (c : Result ℤ RangeFault)
    → Finds (Is (constants_at fs) from) (flaws_in (want (constants_at fs) from ∷ [])) a
    → Finds (λ h. test_of (within fs name n) test ≡ Some h) (flaws_in (want (within fs name n) test ∷ [])) b
    → Finds (Is (within fs name n) step) (flaws_in (want (within fs name n) step ∷ [])) c
    → Finds (First (constants_at fs) from) (flaws_in (head_wanted fs name from test step)) (both a (both b c))
read_with fs name from test step n e a b c h k l =
    subst (λ (m : ℤ). Finds (First (constants_at fs) from)
    (flaws_in (want (constants_at fs) from ∷ want (within fs name m) test ∷ want (within fs name m) step ∷ [])) (both a (both b c))) (sym e)
    (all-finds (constants_at fs) from (want (within fs name n) test) (want (within fs name n) step) a b c (λ x. Unit {0}) (λ x. Unit {0}) h
    (plain (λ h. test_of (within fs name n) test ≡ Some h) (flaws_in (want (within fs name n) test ∷ [])) b k)
    (plain (Is (within fs name n) step) (flaws_in (want (within fs name n) step ∷ [])) c l))

pub head-finds : (fs : List Frame) (name : List ℕ) (from test step : Expr) (a : Result ℤ RangeFault) (b : Result Bool RangeFault) (c : Result ℤ RangeFault)
    → Finds (Is (constants_at fs) from) (flaws_in (want (constants_at fs) from ∷ [])) a
    → Finds (λ h. test_of (within fs name (value_or_zero a)) test ≡ Some h) (flaws_in (want (within fs name (value_or_zero a)) test ∷ [])) b
    → Finds (Is (within fs name (value_or_zero a)) step) (flaws_in (want (within fs name (value_or_zero a)) step ∷ [])) c
    → Finds (First (constants_at fs) from) (flaws_in (head_wanted fs name from test step)) (both a (both b c))
head-finds fs name from test step (Err fault.NoMemory) b c h k l =
    spoiled (flaws_in (head_wanted fs name from test step)) (constants_at fs) from (both b c)
head-finds fs name from test step (Ok n) b c h k l = read_with fs name from test step n (ap or_zero h.1) (Ok n) b c h k l
head-finds fs name from test step (Err fault.NotConstant) b c h k l =
    read_with fs name from test step (pos 0) (no_value (constants_at fs) from fault.NotConstant h) (Err fault.NotConstant) b c h k l
head-finds fs name from test step (Err fault.BadSelect) b c h k l =
    read_with fs name from test step (pos 0) (no_value (constants_at fs) from fault.BadSelect h) (Err fault.BadSelect) b c h k l
head-finds fs name from test step (Err fault.BadRange) b c h k l =
    read_with fs name from test step (pos 0) (no_value (constants_at fs) from fault.BadRange h) (Err fault.BadRange) b c h k l
head-finds fs name from test step (Err fault.WidthPast128) b c h k l =
    read_with fs name from test step (pos 0) (no_value (constants_at fs) from fault.WidthPast128 h) (Err fault.WidthPast128) b c h k l
