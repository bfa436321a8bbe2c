-- What names mean in the code's scopes is what they mean at a place.
use Rattle.std.proofs.Common.{◌≡◌, ◌∙◌, sym, ap, refl, subst, ℕ, Bool, true, false, cond, List, [], ◌∷◌, ◌++◌, Option, Some, None}
use Rattle.std.proofs.lemmas.List.Sums.{fold_push}
use Rattle.std.proofs.lemmas.Slice.Eq.{bytes_eq-Decides}
use Rattle.std.specs.List.{find}
use Rattle.std.specs.Str.{bytes_eq}
use Rattle.source_meaning.specs.Environment.{Named, constant, unknown, Environment}
use Rattle.scope_meaning.specs.Constants.{Constant, constants, stands_for, option_of}
use Rattle.scope_meaning.specs.Declared.{Declared, DeclaredAs}
use Rattle.scope_meaning.specs.Declared as form
use Rattle.scope_meaning.specs.Scope.{Frame, Meant, a_constant, a_genvar, a_variable, no_value, genvar_of}
use Rattle.scope_meaning.specs.Scope.{known_or, of_kind, in_frame, meaning_of, constant_in, constants_at, is_free_genvar}
use Rattle.elab_constants.specs.declared.names.ConstantValue.{ConstantValue}
use Rattle.name_table.specs.Tables.{value_of}
use Rattle.elab_names.specs.declared.declared.NameKind.{NameKind}
use Rattle.elab_names.specs.declared.scope_names.NameMeaning.{NameMeaning}
use Rattle.elab_names.specs.declared.scope_names.NameMeaning.TheVariants as means
use Rattle.elab_names.specs.declared.scope_names.PassGenvar.{PassGenvar}
use Rattle.elab_names.specs.declared.scope_names.ScopeNames.{ScopeNames}
use Rattle.elab_names.specs.DeclaredNames.{kind_seen}
use Rattle.elab_names.specs.Meanings as code
use Rattle.elab_names.specs.Frames.{IsValue, IsValueIn, IsGenvar, IsFrame, AreFrames, nothing, inside, Agree}

-- ---- one scope

genvars : (a : Option Constant) (b : Option PassGenvar) (name : List ℕ) (o : Option Meant) (p : Option NameMeaning) → IsGenvar a b → Agree o p
    → Agree (genvar_of a name o) (code.genvar_or b name p)
genvars None None name o p h k = k
genvars None (Some g) name o p h k = absurd h
genvars (Some c) None name o p h k = absurd h
genvars (Some c) (Some g) name o p h k =
    subst (λ (x : List ℕ). Agree (genvar_of (Some c) name o) (cond (bytes_eq name x) (Some (means.Constant g.value)) p)) (sym h.0)
    (elim (bytes_eq name c.name) as (λ t. Agree (cond t (Some (a_constant c)) o) (cond t (Some (means.Constant g.value)) p)) [ true ↦ h.1 | false ↦ k ])

knowns : (a : Option Constant) (b : Option ConstantValue) (o : Option Meant) (p : Option NameMeaning) → IsValueIn a b → Agree o p
    → Agree (known_or a o) (code.known_or b p)
knowns None None o p h k = k
knowns None (Some v) o p h k = absurd h
knowns (Some c) None o p h k = absurd h
knowns (Some c) (Some v) o p h k = h

kinds : (f : Frame) (s : ScopeNames) (d : Declared) (name : List ℕ) (kind : DeclaredAs) (o : Option Meant) (p : Option NameMeaning)
    → IsValueIn (find (λ (c : Constant). bytes_eq d.name c.name) f.known) (value_of s.known name) → Agree o p
    → Agree (of_kind f d o kind) (code.by_kind s.known name p (kind_seen kind))
kinds f s d name form.input o p h k = tt
kinds f s d name form.output_wire o p h k = tt
kinds f s d name form.output_reg o p h k = tt
kinds f s d name form.wire o p h k = tt
kinds f s d name form.reg o p h k = tt
kinds f s d name form.integer o p h k = tt
kinds f s d name form.constant o p h k = knowns _ (value_of s.known name) o p h k
kinds f s d name form.genvar o p h k = tt
kinds f s d name form.scope_name o p h k = tt

-- what is found passes the test
found : {X : Type 0} (p : X → Bool) (xs : List X) (x : X) → find p xs ≡ Some x → p x ≡ true
found p [] x e = cc
found {X} p (y ∷ xs) x e = by (found p xs x) (p y) refl
  where
    by : (find p xs ≡ Some x → p x ≡ true) → (b : Bool) → p y ≡ b → p x ≡ true
    by rest true h =
        let e' : Some y ≡ Some x = sym (ap (λ b. cond b (Some y) (find p xs)) h) ∙ e in
        let same : y ≡ x = cc in
        subst (λ (z : X). p z ≡ true) same h
    by rest false h = rest (sym (ap (λ b. cond b (Some y) (find p xs)) h) ∙ e)

scope_agrees : (f : Frame) (s : ScopeNames) (name : List ℕ) (o : Option Meant) (p : Option NameMeaning) → IsFrame f s → Agree o p
    → Agree (in_frame f (find (λ (d : Declared). bytes_eq name d.name) f.declared) (genvar_of f.genvar name o)) (code.in_scope s name p)
scope_agrees f s name o p is k = by (find (λ (d : Declared). bytes_eq name d.name) f.declared) refl
  where
    outer : Agree (genvar_of f.genvar name o) (code.genvar_or s.genvar name p)
    outer = genvars f.genvar s.genvar name o p is.genvar k

    by : (d : Option Declared) → find (λ (d : Declared). bytes_eq name d.name) f.declared ≡ d
        → Agree (in_frame f d (genvar_of f.genvar name o)) (code.in_scope s name p)
    by None e =
        subst (λ (x : Option NameKind). Agree (genvar_of f.genvar name o) (code.by_declared s.known name (code.genvar_or s.genvar name p) x))
        (sym (is.declared name ∙ ap (option_of (λ (d : Declared). kind_seen d.kind)) e)) outer
    by (Some d) e =
        let same : name ≡ d.name = (bytes_eq-Decides name d.name).0 (found (λ (d : Declared). bytes_eq name d.name) f.declared d e) in
        subst (λ (x : Option NameKind). Agree (of_kind f d (genvar_of f.genvar name o) d.kind) (code.by_declared s.known name
        (code.genvar_or s.genvar name p) x))
        (sym (is.declared name ∙ ap (option_of (λ (d : Declared). kind_seen d.kind)) e))
        (kinds f s d name d.kind _ _
        (subst (λ (n : List ℕ). IsValueIn (find (λ (c : Constant). bytes_eq n c.name) f.known) (value_of s.known name)) same (is.known name)) outer)

-- ---- all scopes

pub agree : (name : List ℕ) {fs : List Frame} {ss : List ScopeNames} → AreFrames fs ss → Agree (meaning_of fs name) (code.meaning_by ss name)
unfolding meaning_of
agree name nothing = tt
agree name (inside {fs = fs} {ss = ss} {f = f} {s = s} outer is) =
    subst (Agree (meaning_of (f ∷ fs) name)) (sym (fold_push (λ (o : Option NameMeaning) (s : ScopeNames). code.in_scope s name o) None ss s))
    (scope_agrees f s name (meaning_of fs name) (code.meaning_by ss name) is (agree name outer))

value_stands : (c : Constant) (v : ConstantValue) → IsValue c v → constant v.value.width v.signed v.value.bits ≡ constant c.width c.signed c.bits
value_stands c v h =
    ap (λ w. constant w v.signed v.value.bits) h.width ∙ ap (λ s. constant c.width s v.value.bits) h.signed ∙ ap (constant c.width c.signed) h.bits

stand : (o : Option Meant) (p : Option NameMeaning) → Agree o p → code.stands p ≡ stands_for (constant_in o)
stand None None h = refl
stand None (Some means.Other) h = absurd h
stand None (Some means.Genvar) h = absurd h
stand None (Some (means.Constant v)) h = absurd h
stand (Some (a_constant c)) (Some (means.Constant v)) h = value_stands c v h
stand (Some (a_constant c)) (Some means.Genvar) h = absurd h
stand (Some (a_constant c)) (Some means.Other) h = absurd h
stand (Some (a_constant c)) None h = absurd h
stand (Some a_genvar) (Some means.Genvar) h = refl
stand (Some a_genvar) (Some means.Other) h = absurd h
stand (Some a_genvar) (Some (means.Constant v)) h = absurd h
stand (Some a_genvar) None h = absurd h
stand (Some (a_variable n d)) (Some means.Other) h = refl
stand (Some (a_variable n d)) (Some means.Genvar) h = absurd h
stand (Some (a_variable n d)) (Some (means.Constant v)) h = absurd h
stand (Some (a_variable n d)) None h = absurd h
stand (Some no_value) (Some means.Other) h = refl
stand (Some no_value) (Some means.Genvar) h = absurd h
stand (Some no_value) (Some (means.Constant v)) h = absurd h
stand (Some no_value) None h = absurd h

-- so the names stand for the same constants
pub environments : (fs : List Frame) (ss : List ScopeNames) → AreFrames fs ss → code.environment_by ss ≡ constants (constants_at fs)
environments fs ss are = λ i. record { scope = 0; look = λ name. stand (meaning_of fs name) (code.meaning_by ss name) (agree name are) i }

pub free : (o : Option Meant) (p : Option NameMeaning) → Agree o p → code.is_genvar p ≡ is_free_genvar o
free None None h = refl
free None (Some means.Other) h = absurd h
free None (Some means.Genvar) h = absurd h
free None (Some (means.Constant v)) h = absurd h
free (Some (a_constant c)) (Some (means.Constant v)) h = refl
free (Some (a_constant c)) (Some means.Genvar) h = absurd h
free (Some (a_constant c)) (Some means.Other) h = absurd h
free (Some (a_constant c)) None h = absurd h
free (Some a_genvar) (Some means.Genvar) h = refl
free (Some a_genvar) (Some means.Other) h = absurd h
free (Some a_genvar) (Some (means.Constant v)) h = absurd h
free (Some a_genvar) None h = absurd h
free (Some (a_variable n d)) (Some means.Other) h = refl
free (Some (a_variable n d)) (Some means.Genvar) h = absurd h
free (Some (a_variable n d)) (Some (means.Constant v)) h = absurd h
free (Some (a_variable n d)) None h = absurd h
free (Some no_value) (Some means.Other) h = refl
free (Some no_value) (Some means.Genvar) h = absurd h
free (Some no_value) (Some (means.Constant v)) h = absurd h
free (Some no_value) None h = absurd h
