-- A scope that is entered.
use Rattle.std.proofs.Common.{◌≡◌, ◌∙◌, sym, ap, refl, subst, ℕ, ◌+◌, ◌<◌, Bool, true, false, cond, List, [], ◌∷◌, ◌++◌, length, take, get_or, map}
use Rattle.std.proofs.Common.{Option, Some, None, arith}
use Rattle.std.proofs.lemmas.List.{take_more}
use Rattle.std.proofs.lemmas.List.Folds.{find-append}
use Rattle.std.specs.List.{find}
use Rattle.std.specs.Option.{option_or}
use Rattle.std.specs.Str.{bytes_eq}
use Rattle.scope_meaning.specs.Constants.{Constant, option_of}
use Rattle.scope_meaning.specs.Declared.{Declared}
use Rattle.scope_meaning.specs.Scope.{Frame}
use Rattle.elab_names.specs.declared.scope_names.PassGenvar.{PassGenvar}
use Rattle.elab_names.specs.Frames.{IsValueIn, IsGenvar}
use Rattle.name_table.specs.declared.table.NameTable.{NameTable}
use Rattle.name_table.specs.Tables.{value_of, only}
use Rattle.flat_declared.specs.declared.declared.DeclaredKind.{DeclaredKind}
use Rattle.flat_declared.specs.declared.declared.KindOfName.{KindOfName}
use Rattle.flat_declared.specs.Kinds.{kind_seen, seen}
use Rattle.flat_scopes.specs.declared.place.PlaceInScope.{PlaceInScope}
use Rattle.flat_scopes.specs.declared.scope.KnownConstant.{KnownConstant}
use Rattle.flat_scopes.specs.declared.scope.SeenScope.{SeenScope}
use Rattle.flat_scopes.specs.Said.{visible}
use Rattle.flat_scopes.specs.Frames.{IsTableOf, IsFrameAt}

pub next : {X : Type 0} (xs : List X) (i : ℕ) (x : X) → i < length xs → x ≡ get_or xs i x → take (i + 1) xs ≡ take i xs ++ x ∷ []
next {X} xs i x lt is = take_more xs i x lt ∙ ap (λ (y : X). take i xs ++ y ∷ []) (sym is)

abbrev kind_in : Option KindOfName → Option DeclaredKind
kind_in = option_of (λ (d : KindOfName). d.kind)

kind-or : (a : Option KindOfName) (b : Bool) (d : KindOfName)
    → option_or (kind_in a) (cond b (Some d.kind) None) ≡ kind_in (option_or a (cond b (Some d) None))
kind-or (Some x) b d = refl
kind-or None true d = refl
kind-or None false d = refl

-- one declared name more
pub tabled : (names : List KindOfName) (old new : NameTable DeclaredKind) (d : KindOfName) (name : List ℕ) (k : DeclaredKind) → name ≡ d.name → k ≡ d.kind
    → IsTableOf names old
    → ((q : List ℕ) → value_of new q ≡ option_or (value_of old q) (only name k q)) → IsTableOf (names ++ d ∷ []) new
tabled names old new d name k named kinded h put q =
    put q ∙ ap (λ (x : Option DeclaredKind). option_or x (only name k q)) (h q)
    ∙ ap (λ (n : List ℕ). option_or (kind_in (find (λ (e : KindOfName). bytes_eq q e.name) names)) (only n k q)) named
    ∙ ap (λ (j : DeclaredKind). option_or (kind_in (find (λ (e : KindOfName). bytes_eq q e.name) names)) (only d.name j q)) kinded
    ∙ kind-or (find (λ (e : KindOfName). bytes_eq q e.name) names) (bytes_eq q d.name) d
    ∙ ap kind_in (sym (find-append (λ (e : KindOfName). bytes_eq q e.name) names (d ∷ [])))

find-seen : (q : List ℕ) (ds : List Declared)
    → kind_in (find (λ (e : KindOfName). bytes_eq q e.name) (map seen ds))
    ≡ option_of (λ (d : Declared). kind_seen d.kind) (find (λ (d : Declared). bytes_eq q d.name) ds)
find-seen q [] = refl
find-seen q (d ∷ ds) =
    elim (bytes_eq q d.name) as (λ b. kind_in (cond b (Some (seen d)) (find (λ (e : KindOfName). bytes_eq q e.name) (map seen ds)))
    ≡ option_of (λ (d : Declared). kind_seen d.kind) (cond b (Some d) (find (λ (d : Declared). bytes_eq q d.name) ds))) [ true ↦ refl | false ↦ find-seen q ds ]

-- a scope without constants yet
pub framed : (f : Frame) (number : ℕ) (names : List KindOfName) (genvar : Option PassGenvar) (s : SeenScope)
    → IsTableOf names s.declared → s.genvar ≡ genvar → s.count ≡ 0
    → ((q : List ℕ) → value_of s.known q ≡ None) → f.number ≡ number → map seen f.declared ≡ names → IsGenvar f.genvar genvar → f.known ≡ []
    → IsFrameAt f s (record { scope = number; known = 0 })
framed f number names genvar s table same counted empty numbered named is none = record {
  number = sym numbered;
  within = omega arith;
  counted = λ q c e. let none : None ≡ Some c = sym (empty q) ∙ e in cc;
  declared = λ q. table q ∙ ap (λ (ds : List KindOfName). kind_in (find (λ (e : KindOfName). bytes_eq q e.name) ds)) (sym named) ∙ find-seen q f.declared;
  genvar = subst (IsGenvar f.genvar) (sym same) is;
  known = λ q. subst (λ (cs : List Constant). IsValueIn (find (λ (c : Constant). bytes_eq q c.name) cs) (visible 0 (value_of s.known q))) (sym none)
      (subst (λ (x : Option KnownConstant). IsValueIn None (visible 0 x)) (sym (empty q)) tt);
}
