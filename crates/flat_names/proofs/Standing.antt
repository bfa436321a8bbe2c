-- What names stand for at a place is what the code says.
use Rattle.std.proofs.Common.{◌≡◌, ◌∙◌, sym, ap, refl, subst, ℕ, Bool, true, false, cond, List, [], ◌∷◌, Option, Some, None}
use Rattle.std.proofs.lemmas.Slice.Eq.{bytes_eq-Decides}
use Rattle.std.specs.List.{find}
use Rattle.std.specs.Str.{bytes_eq}
use Rattle.elab_types.specs.declared.flat_source.FlatVar.{FlatVar}
use Rattle.source_meaning.specs.Environment.{Named, constant, unknown, Environment}
use Rattle.scope_meaning.specs.Constants.{Constant}
use Rattle.scope_meaning.specs.Declared.{Declared, DeclaredAs}
use Rattle.scope_meaning.specs.Declared as form
use Rattle.scope_meaning.specs.Scope.{Frame, Here, At, frames, Meant, a_constant, a_genvar, a_variable, no_value, genvar_of, known_or, of_kind, in_frame, meaning_of}
use Rattle.elab_constants.specs.declared.names.ConstantValue.{ConstantValue}
use Rattle.elab_names.specs.Frames.{IsValue}
use Rattle.flat_source_meaning.specs.Environments.{environment, named_by, numbered, position}
use Rattle.scope_table.specs.declared.table.ScopeTable.{ScopeTable}
use Rattle.scope_table.specs.Tables.{value_in}
use Rattle.flat_scopes.specs.declared.place.PlaceInScope.{PlaceInScope}
use Rattle.flat_scopes.specs.declared.scope.NameMeaning.{NameMeaning}
use Rattle.flat_scopes.specs.declared.scope.NameMeaning.TheVariants as means
use Rattle.flat_scopes.specs.declared.scope.SeenScope.{SeenScope}
use Rattle.flat_scopes.specs.Frames.{AreFramesAt, Means}
use Rattle.flat_scopes.specs.Meanings.{meaning_by}
use Rattle.flat_scopes.proofs.Places.{means_at}
use Rattle.flat_names.specs.declared.loops.LoopValue.{LoopValue}
use Rattle.flat_names.specs.declared.inside.InsideNames.{InsideNames}
use Rattle.flat_names.specs.Loops.{loop_value, in_passes}
use Rattle.flat_names.specs.Inside.{stands_for, in_loop, environment_by}
use Rattle.flat_names.proofs.Passes.{passes_look, passes_scope}

-- ---- a variable has the name by which it is meant

abbrev pub NamedAs : List ℕ → Option Meant → Type 0
NamedAs name (Some (a_variable s d)) = d.name ≡ name
NamedAs name _ = Unit {0}

genvar_named : (g : Option Constant) (name : List ℕ) (o : Option Meant) → NamedAs name o → NamedAs name (genvar_of g name o)
genvar_named None name o h = h
genvar_named (Some c) name o h = elim (bytes_eq name c.name) as (λ b. NamedAs name (cond b (Some (a_constant c)) o)) [ true ↦ tt | false ↦ h ]

known_named : (c : Option Constant) (name : List ℕ) (o : Option Meant) → NamedAs name o → NamedAs name (known_or c o)
known_named (Some c) name o h = tt
known_named None name o h = h

kind_named : (f : Frame) (d : Declared) (name : List ℕ) (o : Option Meant) (kind : DeclaredAs) → d.name ≡ name → NamedAs name o
    → NamedAs name (of_kind f d o kind)
kind_named f d name o form.input e h = e
kind_named f d name o form.output_wire e h = e
kind_named f d name o form.output_reg e h = e
kind_named f d name o form.wire e h = e
kind_named f d name o form.reg e h = e
kind_named f d name o form.integer e h = e
kind_named f d name o form.constant e h = known_named (find (λ (c : Constant). bytes_eq d.name c.name) f.known) name o h
kind_named f d name o form.genvar e h = tt
kind_named f d name o form.scope_name e h = tt

found : {X : Type 0} (p : X → Bool) (xs : List X) (x : X) → find p xs ≡ Some x → p x ≡ true
found p [] x e = cc
found {X} p (y ∷ xs) x e = by (found p xs x) (p y) refl
  where
    by : (find p xs ≡ Some x → p x ≡ true) → (b : Bool) → p y ≡ b → p x ≡ true
    by rest true h =
        let e' : Some y ≡ Some x = sym (ap (λ b. cond b (Some y) (find p xs)) h) ∙ e in
        let same : y ≡ x = cc in
        subst (λ (z : X). p z ≡ true) same h
    by rest false h = rest (sym (ap (λ b. cond b (Some y) (find p xs)) h) ∙ e)

named_in : (f : Frame) (name : List ℕ) (o : Option Meant) → NamedAs name o
    → NamedAs name (in_frame f (find (λ (d : Declared). bytes_eq name d.name) f.declared) (genvar_of f.genvar name o))
named_in f name o h = by (find (λ (d : Declared). bytes_eq name d.name) f.declared) refl (genvar_named f.genvar name o h)
  where
    by : (d : Option Declared) → find (λ (d : Declared). bytes_eq name d.name) f.declared ≡ d → NamedAs name (genvar_of f.genvar name o)
        → NamedAs name (in_frame f (find (λ (d : Declared). bytes_eq name d.name) f.declared) (genvar_of f.genvar name o))
    by None e outer = subst (λ (x : Option Declared). NamedAs name (in_frame f x (genvar_of f.genvar name o))) (sym e) outer
    by (Some d) e outer =
        let same : name ≡ d.name = (bytes_eq-Decides name d.name).0 (found (λ (d : Declared). bytes_eq name d.name) f.declared d e) in
        subst (λ (x : Option Declared). NamedAs name (in_frame f x (genvar_of f.genvar name o))) (sym e)
        (kind_named f d name (genvar_of f.genvar name o) d.kind (sym same) outer)

pub meant_named : (fs : List Frame) (name : List ℕ) → NamedAs name (meaning_of fs name)
unfolding meaning_of
meant_named [] name = tt
meant_named (f ∷ fs) name = named_in f name (meaning_of fs name) (meant_named fs name)

-- ---- what it stands for

value_stands : (c : Constant) (v : ConstantValue) → IsValue c v → constant c.width c.signed c.bits ≡ constant v.value.width v.signed v.value.bits
value_stands c v h =
    sym (ap (λ w. constant w v.signed v.value.bits) h.width ∙ ap (λ s. constant c.width s v.value.bits) h.signed ∙ ap (constant c.width c.signed) h.bits)

stands : (vars : List FlatVar) (numbers : ScopeTable ℕ) (name : List ℕ) (o : Option Meant) (p : Option NameMeaning)
    → ((s : ℕ) (n : List ℕ) → value_in numbers s n ≡ position vars s n) → NamedAs name o → Means o p → named_by vars o ≡ stands_for vars numbers name p
stands vars numbers name None None t n h = refl
stands vars numbers name None (Some (means.Constant v)) t n h = absurd h
stands vars numbers name None (Some means.Genvar) t n h = absurd h
stands vars numbers name None (Some (means.Variable s k)) t n h = absurd h
stands vars numbers name None (Some means.NoValue) t n h = absurd h
stands vars numbers name (Some (a_constant c)) None t n h = absurd h
stands vars numbers name (Some (a_constant c)) (Some (means.Constant v)) t n h = value_stands c v h
stands vars numbers name (Some (a_constant c)) (Some means.Genvar) t n h = absurd h
stands vars numbers name (Some (a_constant c)) (Some (means.Variable s k)) t n h = absurd h
stands vars numbers name (Some (a_constant c)) (Some means.NoValue) t n h = absurd h
stands vars numbers name (Some a_genvar) None t n h = absurd h
stands vars numbers name (Some a_genvar) (Some (means.Constant v)) t n h = absurd h
stands vars numbers name (Some a_genvar) (Some means.Genvar) t n h = refl
stands vars numbers name (Some a_genvar) (Some (means.Variable s k)) t n h = absurd h
stands vars numbers name (Some a_genvar) (Some means.NoValue) t n h = absurd h
stands vars numbers name (Some (a_variable s d)) None t n h = absurd h
stands vars numbers name (Some (a_variable s d)) (Some (means.Constant v)) t n h = absurd h
stands vars numbers name (Some (a_variable s d)) (Some means.Genvar) t n h = absurd h
stands vars numbers name (Some (a_variable s d)) (Some (means.Variable k j)) t n h =
    ap (λ m. numbered vars (position vars s m)) n ∙ ap (numbered vars) (sym (t s name)) ∙ ap (λ m. numbered vars (value_in numbers m name)) (sym h.0)
stands vars numbers name (Some (a_variable s d)) (Some means.NoValue) t n h = absurd h
stands vars numbers name (Some no_value) None t n h = absurd h
stands vars numbers name (Some no_value) (Some (means.Constant v)) t n h = absurd h
stands vars numbers name (Some no_value) (Some means.Genvar) t n h = absurd h
stands vars numbers name (Some no_value) (Some (means.Variable s k)) t n h = absurd h
stands vars numbers name (Some no_value) (Some means.NoValue) t n h = refl

-- so the names stand for the same at a place and in the passes there
pub environments : (scopes : List SeenScope) (at : PlaceInScope) (vars : List FlatVar) (numbers : ScopeTable ℕ) (loops : List LoopValue) (i : InsideNames)
    → i.scopes.now.scopes.items ≡ scopes → i.at ≡ at → i.vars.now ≡ vars → i.numbers.now ≡ numbers → i.loops.now ≡ loops
    → (here : Here) (place : At) → AreFramesAt scopes at (frames here place) → at.scope ≡ here.number
    → ((s : ℕ) (n : List ℕ) → value_in numbers s n ≡ position vars s n)
    → environment_by i ≡ in_passes loops (environment vars here place)
environments scopes at vars numbers loops i es ea ev en el here place are numbered_here t = λ j. record { scope = scope_is j; look = λ name. look_is name j }
  where
    env : Environment
    env = environment vars here place

    scope_is : i.at.scope ≡ (in_passes loops env).scope
    scope_is = ap (λ (a : PlaceInScope). a.scope) ea ∙ numbered_here ∙ sym (passes_scope loops env)

    by_parts : (name : List ℕ)
        → in_loop (loop_value i.loops.now name) (stands_for i.vars.now i.numbers.now name (meaning_by i.scopes.now.scopes.items i.at name))
        ≡ in_loop (loop_value loops name) (stands_for vars numbers name (meaning_by scopes at name))
    by_parts name =
        ap (λ (l : List LoopValue). in_loop (loop_value l name) (stands_for i.vars.now i.numbers.now name (meaning_by i.scopes.now.scopes.items i.at name))) el
        ∙ ap (λ (v : List FlatVar). in_loop (loop_value loops name) (stands_for v i.numbers.now name (meaning_by i.scopes.now.scopes.items i.at name))) ev
        ∙ ap (λ (n : ScopeTable ℕ). in_loop (loop_value loops name) (stands_for vars n name (meaning_by i.scopes.now.scopes.items i.at name))) en
        ∙ ap (λ (s : List SeenScope). in_loop (loop_value loops name) (stands_for vars numbers name (meaning_by s i.at name))) es
        ∙ ap (λ (a : PlaceInScope). in_loop (loop_value loops name) (stands_for vars numbers name (meaning_by scopes a name))) ea

    look_is : (name : List ℕ)
        → in_loop (loop_value i.loops.now name) (stands_for i.vars.now i.numbers.now name (meaning_by i.scopes.now.scopes.items i.at name))
        ≡ (in_passes loops env).look name
    look_is name =
        by_parts name
        ∙ sym (passes_look loops env name (stands_for vars numbers name (meaning_by scopes at name))
        (stands vars numbers name (meaning_of (frames here place) name) (meaning_by scopes at name) t (meant_named (frames here place) name)
        (means_at scopes at name (meaning_by scopes at name) refl are)))
