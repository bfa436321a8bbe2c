-- What a name stands for, by what the code finds.
use Rattle.std.proofs.Common.{◌≡◌, ◌∙◌, sym, ap, refl, subst, ℕ, zero, suc, ◌<◌, ◌≤◌, true, List, [], ◌∷◌, length, slice_get, Option, Some, None, arith}
use Rattle.std.proofs.lemmas.Option.{slice_get_past}
use Rattle.elab_types.specs.declared.flat_source.FlatVar.{FlatVar}
use Rattle.source_meaning.specs.Environment.{Named, variable, constant, unknown}
use Rattle.flat_meaning.specs.Expressions.{looked_up, found}
use Rattle.flat_source_meaning.specs.Environments.{numbered}
use Rattle.elab_constants.specs.declared.names.ConstantValue.{ConstantValue}
use Rattle.elab_constants.specs.Names.{IsConstant}
use Rattle.scope_table.specs.declared.table.ScopeTable.{ScopeTable}
use Rattle.flat_expressions.specs.declared.resolved.Resolved.{Resolved}
use Rattle.flat_expressions.specs.declared.resolved.Resolved.TheVariants as is
use Rattle.flat_expressions.specs.Resolved.{IsResolved}
use Rattle.flat_scopes.specs.declared.scope.NameMeaning.{NameMeaning}
use Rattle.flat_scopes.specs.declared.scope.NameMeaning.TheVariants as means
use Rattle.flat_declared.specs.declared.declared.DeclaredKind.{DeclaredKind}
use Rattle.scope_table.specs.Tables.{value_in}
use Rattle.flat_names.specs.Inside.{stands_meant, stands_for, in_loop, IsLoopConstant}

-- ---- variables

never : {X : Type 0} (xs : List X) (k : ℕ) → k < length xs → slice_get xs k ≡ None → ⊥
never [] k lt e = absurd (omega arith)
never (x ∷ xs) zero lt e = cc
never (x ∷ xs) (suc k) lt e = never xs k (omega arith) e

pub is_there : (vars : List FlatVar) (n : ℕ) → n < length vars → IsResolved vars (looked_up vars n) (is.Variable n)
is_there vars n lt = by (slice_get vars n) refl
  where
    by : (o : Option FlatVar) → slice_get vars n ≡ o → IsResolved vars (found n (slice_get vars n)) (is.Variable n)
    by (Some v) e = subst (λ (x : Option FlatVar). IsResolved vars (found n x) (is.Variable n)) (sym e) (ap (found n) e)
    by None e = absurd (never vars n lt e)

pub is_past : (vars : List FlatVar) (n : ℕ) → length vars ≤ n → IsResolved vars (looked_up vars n) is.Nothing
is_past vars n le = subst (λ (x : Option FlatVar). IsResolved vars (found n x) is.Nothing) (sym (slice_get_past vars n le)) tt

pub with_number : (vars : List FlatVar) (o : Option ℕ) (n : ℕ) (r : Resolved) → Some n ≡ o → IsResolved vars (looked_up vars n) r
    → IsResolved vars (numbered vars o) r
with_number vars o n r e h = subst (λ (x : Option ℕ). IsResolved vars (numbered vars x) r) e h

pub without_number : (vars : List FlatVar) (o : Option ℕ) → None ≡ o → IsResolved vars (numbered vars o) is.Nothing
without_number vars o e = subst (λ (x : Option ℕ). IsResolved vars (numbered vars x) is.Nothing) e tt

-- a variable is no constant
pub no_constant : (vars : List FlatVar) (o : Option ℕ) → IsConstant (numbered vars o) None
no_constant vars None = tt
no_constant vars (Some n) = by (slice_get vars n)
  where
    by : (x : Option FlatVar) → IsConstant (found n x) None
    by (Some v) = tt
    by None = tt

pub variable_constant : (vars : List FlatVar) (numbers : ScopeTable ℕ) (name : List ℕ) (meant : NameMeaning) (s : ℕ) (k : DeclaredKind)
    → meant ≡ means.Variable s k → IsConstant (stands_meant vars numbers name meant) None
variable_constant vars numbers name meant s k e =
    subst (λ (m : NameMeaning). IsConstant (stands_meant vars numbers name m) None) (sym e) (no_constant vars (value_in numbers s name))

-- ---- loops

pub in_some_loop : (vars : List FlatVar) (o : Option ℕ) (other : Named) (n m : ℕ) → Some n ≡ o → m ≡ n
    → IsResolved vars (in_loop o other) (is.Constant 32 true m)
in_some_loop vars o other n m e same = subst (λ (x : Option ℕ). IsResolved vars (in_loop x other) (is.Constant 32 true m)) e (refl, refl, same)

pub in_no_loop : (vars : List FlatVar) (numbers : ScopeTable ℕ) (name : List ℕ) (o : Option ℕ) (p q : Option NameMeaning) (r : Resolved) → None ≡ o → p ≡ q
    → IsResolved vars (stands_for vars numbers name p) r → IsResolved vars (in_loop o (stands_for vars numbers name q)) r
in_no_loop vars numbers name o p q r e s h =
    subst (λ (x : Option ℕ). IsResolved vars (in_loop x (stands_for vars numbers name q)) r) e
    (subst (λ (m : Option NameMeaning). IsResolved vars (stands_for vars numbers name m) r) s h)

pub constant_of_loop : (o : Option ℕ) (other : Named) (n : ℕ) (v : ConstantValue) → Some n ≡ o → IsLoopConstant n v → IsConstant (in_loop o other) (Some v)
constant_of_loop o other n v e l = subst (λ (x : Option ℕ). IsConstant (in_loop x other) (Some v)) e (l.width, l.signed, l.bits)

pub constant_of_none : (vars : List FlatVar) (numbers : ScopeTable ℕ) (name : List ℕ) (o : Option ℕ) (p q : Option NameMeaning) (r : Option ConstantValue)
    → None ≡ o → p ≡ q → IsConstant (stands_for vars numbers name p) r → IsConstant (in_loop o (stands_for vars numbers name q)) r
constant_of_none vars numbers name o p q r e s h =
    subst (λ (x : Option ℕ). IsConstant (in_loop x (stands_for vars numbers name q)) r) e
    (subst (λ (m : Option NameMeaning). IsConstant (stands_for vars numbers name m) r) s h)
