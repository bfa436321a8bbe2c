-- What a name means in a scope itself is what it means there.
use Rattle.std.proofs.Common.{◌≡◌, ◌∙◌, sym, ap, refl, subst, ℕ, Bool, true, false, cond, List, [], ◌∷◌, Option, Some, None}
use Rattle.std.proofs.lemmas.Slice.Eq.{bytes_eq-Decides}
use Rattle.std.specs.List.{find}
use Rattle.std.specs.Str.{bytes_eq}
use Rattle.scope_meaning.specs.Constants.{Constant, option_of}
use Rattle.scope_meaning.specs.Declared.{Declared, DeclaredAs}
use Rattle.scope_meaning.specs.Declared as form
use Rattle.scope_meaning.specs.Scope.{Frame, Meant, a_constant, a_genvar, a_variable, no_value, genvar_of, known_or, of_kind, in_frame}
use Rattle.elab_constants.specs.declared.names.ConstantValue.{ConstantValue}
use Rattle.elab_names.specs.declared.scope_names.PassGenvar.{PassGenvar}
use Rattle.elab_names.specs.Frames.{IsValue, IsValueIn, IsGenvar}
use Rattle.name_table.specs.Tables.{value_of}
use Rattle.flat_declared.specs.declared.declared.DeclaredKind.{DeclaredKind}
use Rattle.flat_declared.specs.Kinds.{kind_seen}
use Rattle.flat_scopes.specs.declared.place.PlaceInScope.{PlaceInScope}
use Rattle.flat_scopes.specs.declared.scope.NameMeaning.{NameMeaning}
use Rattle.flat_scopes.specs.declared.scope.NameMeaning.TheVariants as means
use Rattle.flat_scopes.specs.declared.scope.SeenScope.{SeenScope}
use Rattle.flat_scopes.specs.Said.{genvar_said, visible, constant_or, by_kind, by_declared, said, or_outside}
use Rattle.flat_scopes.specs.Frames.{IsFrameAt, Means}

genvars : (a : Option Constant) (b : Option PassGenvar) (name : List ℕ) (o : Option Meant) (p : Option NameMeaning) → IsGenvar a b
    → (genvar_said b name ≡ None → Means o p) → Means (genvar_of a name o) (or_outside (genvar_said b name) p)
genvars None None name o p h k = k refl
genvars None (Some g) name o p h k = absurd h
genvars (Some c) None name o p h k = absurd h
genvars (Some c) (Some g) name o p h k =
    subst (λ (x : List ℕ). (cond (bytes_eq name x) (Some (means.Constant g.value)) None ≡ None → Means o p)
    → Means (genvar_of (Some c) name o) (or_outside (cond (bytes_eq name x) (Some (means.Constant g.value)) None) p)) (sym h.0)
    (elim (bytes_eq name c.name) as (λ t. (cond t (Some (means.Constant g.value)) None ≡ None → Means o p)
    → Means (cond t (Some (a_constant c)) o) (or_outside (cond t (Some (means.Constant g.value)) None) p))
    [ true ↦ λ m. h.1 | false ↦ λ m. m refl ]) k

knowns : (a : Option Constant) (b : Option ConstantValue) (o : Option Meant) (g p : Option NameMeaning) → IsValueIn a b
    → (b ≡ None → Means o (or_outside g p)) → Means (known_or a o) (or_outside (constant_or b g) p)
knowns None None o g p h k = k refl
knowns None (Some v) o g p h k = absurd h
knowns (Some c) None o g p h k = absurd h
knowns (Some c) (Some v) o g p h k = h

kinds : (f : Frame) (s : SeenScope) (at : PlaceInScope) (d : Declared) (name : List ℕ) (kind : DeclaredAs) (o : Option Meant) (p : Option NameMeaning)
    → at.scope ≡ f.number → d.kind ≡ kind → IsGenvar f.genvar s.genvar
    → IsValueIn (find (λ (c : Constant). bytes_eq d.name c.name) f.known) (visible at.known (value_of s.known name))
    → (by_kind s at name (kind_seen kind) ≡ None → Means o p)
    → Means (of_kind f d (genvar_of f.genvar name o) kind) (or_outside (by_kind s at name (kind_seen kind)) p)
kinds f s at d name form.input o p n e gv h k = (n, sym (ap kind_seen e))
kinds f s at d name form.output_wire o p n e gv h k = (n, sym (ap kind_seen e))
kinds f s at d name form.output_reg o p n e gv h k = (n, sym (ap kind_seen e))
kinds f s at d name form.wire o p n e gv h k = (n, sym (ap kind_seen e))
kinds f s at d name form.reg o p n e gv h k = (n, sym (ap kind_seen e))
kinds f s at d name form.integer o p n e gv h k = (n, sym (ap kind_seen e))
kinds f s at d name form.constant o p n e gv h k =
    knowns _ (visible at.known (value_of s.known name)) (genvar_of f.genvar name o) (genvar_said s.genvar name) p h
    (λ z. genvars f.genvar s.genvar name o p gv (λ w. k (ap (λ x. constant_or x (genvar_said s.genvar name)) z ∙ w)))
kinds f s at d name form.genvar o p n e gv h k = tt
kinds f s at d name form.scope_name o p n e gv h k = tt

-- what is found passes the test
found : {X : Type 0} (p : X → Bool) (xs : List X) (x : X) → find p xs ≡ Some x → p x ≡ true
found p [] x e = cc
found {X} p (y ∷ xs) x e = by (found p xs x) (p y) refl
  where
    by : (find p xs ≡ Some x → p x ≡ true) → (b : Bool) → p y ≡ b → p x ≡ true
    by rest true h =
        let e' : Some y ≡ Some x = sym (ap (λ b. cond b (Some y) (find p xs)) h) ∙ e in
        let same : y ≡ x = cc in
        subst (λ (z : X). p z ≡ true) same h
    by rest false h = rest (sym (ap (λ b. cond b (Some y) (find p xs)) h) ∙ e)

-- where the scope itself says nothing, the name means what it means outside
pub scope_means : (f : Frame) (s : SeenScope) (at : PlaceInScope) (name : List ℕ) (o : Option Meant) (p : Option NameMeaning) → IsFrameAt f s at
    → (said s at name ≡ None → Means o p)
    → Means (in_frame f (find (λ (d : Declared). bytes_eq name d.name) f.declared) (genvar_of f.genvar name o)) (or_outside (said s at name) p)
scope_means f s at name o p is k = by (find (λ (d : Declared). bytes_eq name d.name) f.declared) refl
  where
    by : (d : Option Declared) → find (λ (d : Declared). bytes_eq name d.name) f.declared ≡ d
        → Means (in_frame f d (genvar_of f.genvar name o)) (or_outside (said s at name) p)
    by None e =
        let v : value_of s.declared name ≡ None = is.declared name ∙ ap (option_of (λ (d : Declared). kind_seen d.kind)) e in
        subst (λ (x : Option DeclaredKind). Means (genvar_of f.genvar name o) (or_outside (by_declared s at name x) p)) (sym v)
        (genvars f.genvar s.genvar name o p is.genvar (λ g. k (ap (by_declared s at name) v ∙ g)))
    by (Some d) e =
        let v : value_of s.declared name ≡ Some (kind_seen d.kind) = is.declared name ∙ ap (option_of (λ (d : Declared). kind_seen d.kind)) e in
        let same : name ≡ d.name = (bytes_eq-Decides name d.name).0 (found (λ (d : Declared). bytes_eq name d.name) f.declared d e) in
        subst (λ (x : Option DeclaredKind). Means (of_kind f d (genvar_of f.genvar name o) d.kind) (or_outside (by_declared s at name x) p)) (sym v)
        (kinds f s at d name d.kind o p is.number refl is.genvar
        (subst (λ (n : List ℕ). IsValueIn (find (λ (c : Constant). bytes_eq n c.name) f.known) (visible at.known (value_of s.known name))) same (is.known name))
        (λ g. k (ap (by_declared s at name) v ∙ g)))
