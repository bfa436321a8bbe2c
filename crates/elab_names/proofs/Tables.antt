-- Tables of declared names and of constants.
use Rattle.std.proofs.Common.{◌≡◌, ◌∙◌, sym, ap, refl, subst, ℕ, ◌+◌, ◌<◌, Bool, true, false, ◌||◌, cond, List, [], ◌∷◌, ◌++◌, length, take, get_or, map}
use Rattle.std.proofs.Common.{Option, Some, None, is_some}
use Rattle.std.proofs.lemmas.List.{take_more, length-map}
use Rattle.std.proofs.lemmas.List.Folds.{find-append}
use Rattle.std.specs.List.{find, list_any}
use Rattle.std.specs.Option.{option_or}
use Rattle.std.specs.Str.{bytes_eq}
use Rattle.scope_meaning.specs.Constants.{Constant, option_of}
use Rattle.scope_meaning.specs.Declared.{Declared, is_in}
use Rattle.scope_meaning.specs.Scope.{Frame}
use Rattle.elab_constants.specs.declared.names.ConstantValue.{ConstantValue}
use Rattle.name_table.specs.declared.table.NameTable.{NameTable}
use Rattle.name_table.specs.Tables.{value_of, only}
use Rattle.elab_names.specs.declared.declared.NameKind.{NameKind}
use Rattle.elab_names.specs.declared.declared.DeclaredName.{DeclaredName}
use Rattle.elab_names.specs.declared.scope_names.PassGenvar.{PassGenvar}
use Rattle.elab_names.specs.declared.scope_names.ScopeNames.{ScopeNames}
use Rattle.elab_names.specs.DeclaredNames.{kind_seen, seen, IsTableOf}
use Rattle.elab_names.specs.Frames.{IsValue, IsValueIn, IsGenvar, IsFrame}

pub next : {X : Type 0} (xs : List X) (i : ℕ) (x : X) → i < length xs → x ≡ get_or xs i x → take (i + 1) xs ≡ take i xs ++ x ∷ []
next {X} xs i x lt is = take_more xs i x lt ∙ ap (λ (y : X). take i xs ++ y ∷ []) (sym is)

abbrev kind_in : Option DeclaredName → Option NameKind
kind_in = option_of (λ (d : DeclaredName). d.kind)

kind-or : (a : Option DeclaredName) (b : Bool) (d : DeclaredName)
    → option_or (kind_in a) (cond b (Some d.kind) None) ≡ kind_in (option_or a (cond b (Some d) None))
kind-or (Some x) b d = refl
kind-or None true d = refl
kind-or None false d = refl

-- one declared name more
pub tabled : (names : List DeclaredName) (old new : NameTable NameKind) (d : DeclaredName) (name : List ℕ) (k : NameKind) → name ≡ d.name → k ≡ d.kind
    → IsTableOf names old
    → ((q : List ℕ) → value_of new q ≡ option_or (value_of old q) (only name k q)) → IsTableOf (names ++ d ∷ []) new
tabled names old new d name k named kinded h put q =
    put q ∙ ap (λ (x : Option NameKind). option_or x (only name k q)) (h q)
    ∙ ap (λ (n : List ℕ). option_or (kind_in (find (λ (e : DeclaredName). bytes_eq q e.name) names)) (only n k q)) named
    ∙ ap (λ (j : NameKind). option_or (kind_in (find (λ (e : DeclaredName). bytes_eq q e.name) names)) (only d.name j q)) kinded
    ∙ kind-or (find (λ (e : DeclaredName). bytes_eq q e.name) names) (bytes_eq q d.name) d
    ∙ ap kind_in (sym (find-append (λ (e : DeclaredName). bytes_eq q e.name) names (d ∷ [])))

find-seen : (q : List ℕ) (ds : List Declared)
    → kind_in (find (λ (e : DeclaredName). bytes_eq q e.name) (map seen ds))
    ≡ option_of (λ (d : Declared). kind_seen d.kind) (find (λ (d : Declared). bytes_eq q d.name) ds)
find-seen q [] = refl
find-seen q (d ∷ ds) =
    elim (bytes_eq q d.name) as (λ b. kind_in (cond b (Some (seen d)) (find (λ (e : DeclaredName). bytes_eq q e.name) (map seen ds)))
    ≡ option_of (λ (d : Declared). kind_seen d.kind) (cond b (Some d) (find (λ (d : Declared). bytes_eq q d.name) ds))) [ true ↦ refl | false ↦ find-seen q ds ]

-- a scope without constants yet
pub framed : (f : Frame) (names : List DeclaredName) (genvar : Option PassGenvar) (s : ScopeNames) → s.count ≡ length names
    → IsTableOf names s.declared → s.genvar ≡ genvar
    → ((q : List ℕ) → value_of s.known q ≡ None) → map seen f.declared ≡ names → IsGenvar f.genvar genvar → f.known ≡ [] → IsFrame f s
framed f names genvar s counted table same empty named is none = record {
  count = counted ∙ sym (ap length named) ∙ length-map f.declared seen;
  declared = λ q. table q ∙ ap (λ (ds : List DeclaredName). kind_in (find (λ (e : DeclaredName). bytes_eq q e.name) ds)) (sym named) ∙ find-seen q f.declared;
  genvar = subst (IsGenvar f.genvar) (sym same) is;
  known = λ q. subst (λ (cs : List Constant). IsValueIn (find (λ (c : Constant). bytes_eq q c.name) cs) (value_of s.known q)) (sym none)
      (subst (IsValueIn None) (sym (empty q)) tt);
}

value-or : (a : Option Constant) (o : Option ConstantValue) (b : Bool) (c : Constant) (v : ConstantValue) → IsValueIn a o → IsValue c v
    → IsValueIn (option_or a (cond b (Some c) None)) (option_or o (cond b (Some v) None))
value-or (Some x) (Some y) b c v h k = h
value-or (Some x) None b c v h k = absurd h
value-or None (Some y) b c v h k = absurd h
value-or None None true c v h k = k
value-or None None false c v h k = tt

-- one constant more
pub known-more : (f : Frame) (old new : ScopeNames) (c : Constant) (name : List ℕ) (v : ConstantValue) → new.count ≡ old.count → new.declared ≡ old.declared
    → new.genvar ≡ old.genvar
    → ((q : List ℕ) → value_of new.known q ≡ option_or (value_of old.known q) (only name v q)) → IsFrame f old → c.name ≡ name → IsValue c v
    → IsFrame (record f { known = f.known ++ c ∷ [] }) new
known-more f old new c name v n d g put is named value = record {
  count = n ∙ is.count;
  declared = λ q. ap (λ (t : NameTable NameKind). value_of t q) d ∙ is.declared q;
  genvar = subst (IsGenvar f.genvar) (sym g) is.genvar;
  known = λ q.
      subst (λ (a : Option Constant). IsValueIn a (value_of new.known q)) (sym (find-append (λ (e : Constant). bytes_eq q e.name) f.known (c ∷ [])))
      (subst (IsValueIn (option_or (find (λ (e : Constant). bytes_eq q e.name) f.known) (cond (bytes_eq q c.name) (Some c) None))) (sym (put q))
      (subst (λ (n : List ℕ). IsValueIn (option_or (find (λ (e : Constant). bytes_eq q e.name) f.known) (cond (bytes_eq q c.name) (Some c) None))
      (option_or (value_of old.known q) (only n v q))) named
      (value-or (find (λ (e : Constant). bytes_eq q e.name) f.known) (value_of old.known q) (bytes_eq q c.name) c v (is.known q) value)));
}

any-found : (q : List ℕ) (ds : List Declared) → is_some (option_of (λ (d : Declared). kind_seen d.kind) (find (λ (d : Declared). bytes_eq q d.name) ds))
    ≡ is_in q (map (λ (d : Declared). d.name) ds)
any-found q [] = refl
any-found q (d ∷ ds) =
    elim (bytes_eq q d.name) as (λ b. is_some (option_of (λ (d : Declared). kind_seen d.kind) (cond b (Some d) (find (λ (d : Declared). bytes_eq q d.name) ds)))
    ≡ (b || is_in q (map (λ (d : Declared). d.name) ds))) [ true ↦ refl | false ↦ any-found q ds ]

-- whether a scope declares a name
pub declares-is : (f : Frame) (s : ScopeNames) (q : List ℕ) → IsFrame f s
    → is_some (value_of s.declared q) ≡ is_in q (map (λ (d : Declared). d.name) f.declared)
declares-is f s q is = ap is_some (is.declared q) ∙ any-found q f.declared
